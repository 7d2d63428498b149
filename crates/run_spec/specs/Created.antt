-- What its first log makes of a standby: the tables that the records of that log make known, at the count 0.
-- They are known once the dictionary is whole. Where its end does not come, or a record with it or before it is bad, no table is
-- known; the standby is created all the same, and a run tells the cause. This project's own.
use Rattle.std.specs.Prelude.{ℕ, ◌-◌, List, [], if◌then◌else◌}
use Rattle.redo_vec.specs.declared.table.TableRow.{TableRow}
use Rattle.redo_spec.specs.Dictionary.{Dictionary}
use Rattle.redo_spec.specs.History.{Entry, no_history}
use Rattle.redo_spec.specs.Standing.{beginning}
use Rattle.redo_spec.specs.Law.{admission}
use Rattle.redo_spec.specs.Redo.{records_of}
use Rattle.log_registry.specs.declared.entry.LogEntry.{LogEntry}
use Rattle.redo_reader.specs.Ahead.{bytes_or_none}
use Rattle.standby_spec.specs.KeptState.{KeptState}
use Rattle.standby_spec.specs.StandbyRedo.{Archived}
use Rattle.standby_spec.specs.Writings.{created_state}

-- the dictionary that these records leave, where the first log has this sequence and follows this SCN
abbrev pub dictionary_by : ℕ → ℕ → List Entry → Dictionary
dictionary_by first base es = (admission (beginning first base) (no_history 0) es).standing.dictionary

-- the tables of a dictionary that is whole
abbrev pub tables_if_whole : Dictionary → List TableRow
tables_if_whole d = if d.finished then d.tables else []

-- the tables that the records of a first log make known
abbrev pub tables_by_log : ℕ → ℕ → List ℕ → List TableRow
tables_by_log seq base bytes = tables_if_whole (dictionary_by seq base (records_of bytes).entries)

-- the standby that begins with this log
abbrev pub created_by : Archived → LogEntry → KeptState
created_by logs e = created_state e (tables_by_log e.head.seq (e.head.first - 1) (bytes_or_none (logs e.head.seq)))
