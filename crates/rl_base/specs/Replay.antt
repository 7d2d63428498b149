-- Which lists are the events of a replay. This project's own.
use Rattle.std.specs.Prelude.{ℕ, ◌+◌, ◌^◌, List, [], ◌∷◌, Bool, true, false, not, ◌&&◌, ◌||◌, ◌==◌, nat_le}
use Rattle.std.specs.List.{list_all}
use Rattle.rl_base.specs.declared.replay.Event.{Event}
use Rattle.rl_base.specs.declared.replay.Event.TheVariants.{Cut, Prepare, PrepareLast, Build, Spill, Take, Post, Apply, Install, Tell, Publish, Mark, Query, Restart, Drain}

-- the event goes on to the end
abbrev pub is_drain : Event → Bool
is_drain Cut = false
is_drain Prepare = false
is_drain PrepareLast = false
is_drain Build = false
is_drain Spill = false
is_drain Take = false
is_drain Post = false
is_drain Apply = false
is_drain Install = false
is_drain Tell = false
is_drain Publish = false
is_drain Mark = false
is_drain (Query session) = false
is_drain Restart = false
is_drain Drain = true

-- how often an event may be done in a row
abbrev pub is_repeat : ℕ → Bool
is_repeat n = nat_le 1 n && nat_le n 65536

-- nothing follows
abbrev pub is_last : List (Event × ℕ) → Bool
is_last [] = true
is_last (e ∷ es) = false

-- Drain stands only as the last item, and is done once
abbrev pub drains_last : List (Event × ℕ) → Bool
drains_last [] = true
drains_last (e ∷ es) = (not (is_drain e.0) || (is_last es && e.1 == 1)) && drains_last es

-- how many events these are in all
abbrev pub event_count : List (Event × ℕ) → ℕ
event_count [] = 0
event_count (e ∷ es) = e.1 + event_count es

-- each is done 1 to 65,536 times, all together at most 2^20 times, and Drain is the end
abbrev pub are_events : List (Event × ℕ) → Bool
are_events items = list_all (λ e. is_repeat e.1) items && nat_le (event_count items) (2 ^ 20) && drains_last items
