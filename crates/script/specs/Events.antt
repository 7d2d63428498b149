-- The event words of a REPLAY: an event, and behind a `*` how often it is done. This project's own.
use Rattle.std.specs.Prelude.{ℕ, List, map, if◌then◌else◌, codes, Option, Some, None}
use Rattle.std.specs.Option.{option_or, option_and_then, option_zip}
use Rattle.rl_value.specs.Outcome.{all_of, is_empty}
use Rattle.rl_value.specs.Text.{is_name}
use Rattle.rl_base.specs.declared.replay.Event.{Event}
use Rattle.rl_base.specs.declared.replay.Event.TheVariants.{Cut, Prepare, PrepareLast, Build, Spill, Take, Post, Apply, Install, Tell, Publish, Mark, Query, Restart, Drain}
use Rattle.rl_base.specs.Replay.{are_events}
use Rattle.script_words.specs.Numbers.{number_in}
use Rattle.script_words.specs.Parts.{before, behind, behind_front}
use Rattle.script.specs.Fields.{is}

-- the events of the reading side and of the board
abbrev pub working_event : List ℕ → Option Event
working_event word =
    if is (codes "cut") word then Some Cut
    else if is (codes "prepare") word then Some Prepare
    else if is (codes "prepare:last") word then Some PrepareLast
    else if is (codes "build") word then Some Build
    else if is (codes "spill") word then Some Spill
    else if is (codes "take") word then Some Take
    else if is (codes "post") word then Some Post
    else if is (codes "apply") word then Some Apply
    else None

-- the events that make changes visible and kept, and those of the whole run
abbrev pub showing_event : List ℕ → Option Event
showing_event word =
    if is (codes "install") word then Some Install
    else if is (codes "tell") word then Some Tell
    else if is (codes "publish") word then Some Publish
    else if is (codes "mark") word then Some Mark
    else if is (codes "restart") word then Some Restart
    else if is (codes "drain") word then Some Drain
    else None

-- the query of the session of this name
abbrev pub query_named : List ℕ → Option Event
query_named name = if is_name name then Some (Query name) else None

-- query:NAME
unfoldable pub query_event : List ℕ → Option Event
query_event word = option_and_then query_named (behind_front (codes "query:") word)

unfoldable pub event_of : List ℕ → Option Event
event_of word = option_or (working_event word) (option_or (showing_event word) (query_event word))

-- the byte `*` before the number of times
abbrev pub star : ℕ
star = 42

-- how often an event is done in a row: once, or as often as is said
abbrev pub times_of : Option (List ℕ) → Option ℕ
times_of None = Some 1
times_of (Some word) = number_in 1 65536 word

-- a word, with `*k` behind the event or without
unfoldable pub item_of : List ℕ → Option (Event × ℕ)
item_of word = option_zip (event_of (before star word)) (times_of (behind star word))

-- these items, where they are a list of one or more events
abbrev pub as_events : List (Event × ℕ) → Option (List (Event × ℕ))
as_events items = if is_empty items then None else if are_events items then Some items else None

-- the events of one or more words
unfoldable pub events_of : List (List ℕ) → Option (List (Event × ℕ))
events_of words = option_and_then as_events (all_of (map item_of words))
