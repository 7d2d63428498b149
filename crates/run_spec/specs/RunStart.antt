-- Where a run begins: behind record q of the kept mark, or before the first record where no mark is kept.
-- A store keeps the tables of the whole dictionary, and not how much of it the first q records have. A COMMIT stands behind the
-- end of the dictionary; so where a commit stands in the first q records the dictionary is whole there. Where none does, a run
-- begins before the first record again and reads the dictionary anew. That the records up to m are well is known all the same.
-- The fold that a run follows begins there too (`primary`, Starts). This project's own.
use Rattle.std.specs.Prelude.{ℕ, List, map, true, ◌==◌, if◌then◌else◌, Option, None}
use Rattle.std.specs.Option.{option_map}
use Rattle.redo_spec.specs.declared.header.Header.{Header}
use Rattle.redo_spec.specs.Dictionary.{Dictionary, no_dictionary}
use Rattle.redo_spec.specs.Tables.{Tables, RowsById, definitions_of}
use Rattle.redo_law.specs.declared.start.LawStart.{LawStart}
use Rattle.log_registry.specs.declared.entry.LogEntry.{LogEntry}
use Rattle.log_registry.specs.Registered.{entry_of}
use Rattle.primary.specs.declared.plain.Plain.{Plain}
use Rattle.standby_spec.specs.declared.mark.Mark.{Mark}
use Rattle.standby_spec.specs.KeptState.{KeptState}
use Rattle.standby_spec.specs.Checkpoint.{first_mark, begin_of}

-- ---- the mark from which the redo is read

abbrev pub reading_mark : ℕ → ℕ → Mark → Mark
reading_mark first base k =
    if k.before == 0 then record (first_mark first base k.n) { m = k.m; m_scn = k.m_scn } else k

abbrev pub run_mark : KeptState → Mark
run_mark s = reading_mark s.first s.base (begin_of s)

-- ---- what the law of the redo begins with

-- the dictionary of tables that are there
abbrev pub whole_dictionary : Tables → Dictionary
whole_dictionary tables = record { tables = definitions_of tables; finished = true }

abbrev pub dictionary_at : Mark → Tables → Dictionary
dictionary_at k tables = if k.before == 0 then no_dictionary else whole_dictionary tables

-- the header of the log that holds record q
abbrev pub head_at : Mark → List LogEntry → Option Header
head_at k logs = if k.before == 0 then None else option_map (λ e. e.head) (entry_of k.place.seq logs)

abbrev pub law_start : ℕ → ℕ → Mark → List LogEntry → Tables → LawStart
law_start first base k logs tables = record {
  first = first;
  base = base;
  dict = dictionary_at k tables;
  head = head_at k logs;
  rec = k.q;
  known = k.m;
  scn = k.q_scn;
  commit_scn = k.commit_scn;
}

-- ---- the fold that a run follows

-- the rows of tables by their ids
abbrev pub rows_by_id : Tables → RowsById
rows_by_id tables = map (λ t. (t.row.id, t.rows)) tables

-- it begins behind the mark with the rows, the count and the SCN that the run finds
abbrev pub start_at : Mark → KeptState → Plain
start_at k s = record {
  law = law_start s.first s.base k s.logs s.tables;
  before = k.before;
  n = s.n;
  scn = s.scn;
  tables = rows_by_id s.tables;
}

abbrev pub run_start : KeptState → Plain
run_start s = start_at (run_mark s) s
