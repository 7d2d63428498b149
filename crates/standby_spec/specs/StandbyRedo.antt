-- The redo of a standby: the records of its registered logs, by what an archive tells of them, and what these leave.
use Rattle.std.specs.Prelude.{ℕ, List, Option}
use Rattle.redo_spec.specs.History.{Entry, Commits, no_history}
use Rattle.redo_spec.specs.Standing.{beginning}
use Rattle.redo_spec.specs.Law.{Admitted, admission}
use Rattle.redo_spec.specs.Mark.{front}
use Rattle.redo_spec.specs.Redo.{Redo, redo_from}
use Rattle.log_registry.specs.Registered.{entries_from}
use Rattle.redo_reader.specs.Ahead.{told_logs}
use Rattle.standby_spec.specs.KeptState.{KeptState}

-- what an archive tells: the bytes of each log that is there
abbrev pub Archived : Type 0
Archived = ℕ → Option (List ℕ)

-- the records of the registered logs from the first one on, and what ends them
abbrev pub standby_redo : Archived → KeptState → Redo
standby_redo logs s = redo_from s.first 0 (told_logs logs (entries_from s.first s.logs))

abbrev pub redo_entries : Archived → KeptState → List Entry
redo_entries logs s = (standby_redo logs s).entries

-- what these records leave, up to the first bad one
abbrev pub admitted_redo : Archived → KeptState → Admitted
admitted_redo logs s = admission (beginning s.first s.base) (no_history 0) (redo_entries logs s)

abbrev pub commits_of : Archived → KeptState → Commits
commits_of logs s = (admitted_redo logs s).history.commits

-- what the first k records leave
abbrev pub front_at : Archived → KeptState → ℕ → Admitted
front_at logs s k = front s.first s.base (redo_entries logs s) k
