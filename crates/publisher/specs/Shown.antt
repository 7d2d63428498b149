-- What is shown next: a part of the state that takes the place of the one before, or a standby where none was.
use Rattle.std.specs.Prelude.{ℕ, List, Option, Some}
use Rattle.std.specs.Option.{option_map}
use Rattle.redo_spec.specs.Skips.{Skip}
use Rattle.redo_spec.specs.Tables.{Tables}
use Rattle.skip_guard.specs.declared.guard.Level.{Level}
use Rattle.log_registry.specs.declared.entry.LogEntry.{LogEntry}
use Rattle.standby_spec.specs.declared.mark.Mark.{Mark}
use Rattle.standby_spec.specs.KeptState.{KeptState}
use Rattle.standby_spec.specs.Publishing.{Ending, Done, Failed, Refused}
use Rattle.checkpoint.specs.Images.{image_state}
use Rattle.publisher.specs.declared.next.Next.{Next}
use Rattle.publisher.specs.declared.next.Next.TheVariants as nexts

abbrev pub with_logs : List LogEntry → KeptState → KeptState
with_logs logs s = record s { logs = logs }

abbrev pub with_skips : List Skip → KeptState → KeptState
with_skips skips s = record s { skips = skips }

abbrev pub with_level : Level → KeptState → KeptState
with_level level s = record s { level = level }

abbrev pub with_mark : Mark → KeptState → KeptState
with_mark k s = record s { mark = Some k }

abbrev pub with_rows : Tables → KeptState → KeptState
with_rows tables s = record s { tables = tables }

abbrev pub with_commits : Tables → ℕ → ℕ → KeptState → KeptState
with_commits tables n at_scn s = record s { tables = tables; n = n; scn = at_scn }

-- the state that is shown next
abbrev pub shown_next : Next → Option KeptState → Option KeptState
shown_next (nexts.Logs logs) state = option_map (with_logs logs) state
shown_next (nexts.Skips skips) state = option_map (with_skips skips) state
shown_next (nexts.Level level) state = option_map (with_level level) state
shown_next (nexts.Mark mark) state = option_map (with_mark mark) state
shown_next (nexts.Rows tables) state = option_map (with_rows tables.tables) state
shown_next (nexts.Commits tables n scn) state = option_map (with_commits tables.tables n scn) state
shown_next (nexts.Standby image) state = Some (image_state image)

-- it is shown only where the commit of the store is done
abbrev pub shown_if_done : Ending → Next → Option KeptState → Option KeptState
shown_if_done Done next state = shown_next next state
shown_if_done Failed next state = state
shown_if_done Refused next state = state
