-- Worked examples: a kept state, its pairs, what changes of it leave of them, and pairs that are no layout. `src/worked.rt`
-- states each as a theorem that holds by computing. The tables and records are those of `redo_spec` (Worked).
use Rattle.std.specs.Prelude.{ℕ, ◌≡◌, List, [], ◌∷◌, length, codes, ◌==◌, if◌then◌else◌, Option, Some, None, negsuc, false}
use Rattle.rl_value.specs.declared.value.Value.{Value}
use Rattle.rl_value.specs.declared.value.Value.TheVariants.{Null, Number, Text}
use Rattle.rl_ports.specs.Store.{Store, after_batch}
use Rattle.rl_ports.specs.declared.batch.Item.{Item}
use Rattle.redo_vec.specs.declared.vector.Vector.TheVariants.{Commit, Table, DictEnd}
use Rattle.redo_spec.specs.Log.{Log, log_bytes}
use Rattle.redo_spec.specs.Skips.{Tables as OfTables, Transaction}
use Rattle.redo_spec.specs.Worked.{emp, audit, one_of, n, rec, start, row, update, head_of, side_by_side}
use Rattle.skip_guard.specs.declared.guard.Level.TheVariants.{Standby}
use Rattle.log_registry.specs.declared.entry.LogEntry.{LogEntry}
use Rattle.row_apply.specs.declared.writes.Write.{Write}
use Rattle.standby_spec.specs.declared.mark.Mark.{Mark}
use Rattle.standby_spec.specs.KeptState.{KeptState}
use Rattle.standby_spec.specs.Layout.{pairs_of}
use Rattle.standby_spec.specs.Writings.{Writing, Publish, state_after, items_for, created_state}
use Rattle.standby_spec.specs.Loading.{Loaded, loaded}
use Rattle.standby_spec.specs.Checkpoint.{first_mark, mark_at}
use Rattle.standby_spec.specs.Publishing.{Publishing}

-- ---- a state

-- a log of database 9
abbrev pub log_of : ℕ → ℕ → ℕ → LogEntry
log_of seq first next = record { head = record { seq = seq; dbid = 9; first = first; next = next; count = 3 }; length = 146 }

-- a row of HR.EMP under its ID
abbrev pub emp_row : ℕ → Value → Value → List Value × List Value
emp_row id name email = (n id ∷ [], n id ∷ name ∷ email ∷ [])

-- the row of ID -1: it comes first among the rows, and last among the keys' bytes
abbrev pub below_zero : List Value × List Value
below_zero = (Number (negsuc 0) ∷ [], Number (negsuc 0) ∷ Null ∷ Null ∷ [])

abbrev pub sample_mark : Mark
sample_mark = record {
  q = 2;
  m = 3;
  before = 1;
  place = record { seq = 1; at = 120; done = 2; rec = 2 };
  q_scn = 101;
  m_scn = 102;
  commit_scn = 101;
  n = 2;
}

-- a standby with two logs, two tables with three rows, two skip rules and a mark
abbrev pub sample : KeptState
sample = record {
  dbid = 9;
  first = 1;
  base = 99;
  level = Standby;
  logs = log_of 1 100 200 ∷ log_of 3 210 300 ∷ [];
  skips = record { rule = OfTables (codes "HR.AUD%"); from = 0 } ∷ record { rule = Transaction (one_of 2); from = 1 } ∷ [];
  tables =
      record { row = emp; rows = below_zero ∷ emp_row 1 (Text (codes "Ann")) (Text (codes "x@a")) ∷ [] }
      ∷ record { row = audit; rows = (n 1 ∷ [], n 1 ∷ Text (codes "x") ∷ []) ∷ [] } ∷ [];
  n = 2;
  scn = 104;
  mark = Some sample_mark;
}

-- ---- a change of it

-- what a writing leaves of the pairs are the pairs of the state after it
abbrev pub FollowsOn : Writing → KeptState → Type 0
FollowsOn w s = after_batch (items_for w s) (pairs_of s) ≡ pairs_of (state_after w s)

-- a write of a row of HR.EMP, and one that it is gone
abbrev pub put_emp : ℕ → Value → Value → Write
put_emp id name email = record { table = 1; key = n id ∷ []; row = Some (n id ∷ name ∷ email ∷ []) }

abbrev pub drop_emp : ℕ → Write
drop_emp id = record { table = 1; key = n id ∷ []; row = None }

-- the email of ID 1 goes to ID 2
abbrev pub moved_email : List Write
moved_email = put_emp 1 (Text (codes "Ann")) Null ∷ put_emp 2 Null (Text (codes "x@a")) ∷ []

-- two rows have one email
abbrev pub doubled_email : List Write
doubled_email = put_emp 2 Null (Text (codes "x@a")) ∷ []

-- ---- pairs that are no layout

-- the pairs of the sample after these items
abbrev pub spoiled : List Item → Store
spoiled items = after_batch items (pairs_of sample)

abbrev pub load_spoiled : List Item → Loaded
load_spoiled items = loaded (spoiled items)

-- ---- marks

-- three transactions side by side: 1 has committed and 2 and 3 are open behind record 5
abbrev pub side_log : Log
side_log = record { head = head_of 7; records = rec 100 (Table emp ∷ DictEnd ∷ []) ∷ side_by_side }

-- an archive that has this log alone, and a standby that was created from it
abbrev pub logs_of : Log → ℕ → Option (List ℕ)
logs_of l seq = if seq == l.head.seq then Some (log_bytes l) else None

abbrev pub standby_of : Log → KeptState
standby_of l = created_state (record { head = l.head; length = length (log_bytes l) }) (emp ∷ [])

abbrev pub side_mark : Mark → ℕ → ℕ → Mark
side_mark begin built told = mark_at (logs_of side_log) (standby_of side_log) begin built told

-- the mark of a run from the first record on, that has built five records and was told of one commit
abbrev pub early_mark : Mark
early_mark = side_mark (first_mark 1 99 0) 5 1

-- ---- the next commit

-- one transaction inserts a row, and changes its name
abbrev pub two_changes : Log
two_changes = record {
  head = head_of 4;
  records =
      rec 100 (Table emp ∷ DictEnd ∷ [])
      ∷ rec 101 (start 1 ∷ row 1 1 ∷ [])
      ∷ rec 102 (update 1 ((0, n 1) ∷ (1, Null) ∷ []) ((1, Text (codes "B")) ∷ []) ∷ [])
      ∷ rec 103 (Commit (one_of 1) ∷ [])
      ∷ [];
}

-- a standby over these records, before and after the commit is published
abbrev pub standby_before : KeptState
standby_before = standby_of two_changes

abbrev pub standby_after : KeptState
standby_after = state_after (Publish 103 (put_emp 1 (Text (codes "B")) Null ∷ [])) standby_before

-- a publisher over a store that tells its pairs and never fails, which shows the standby before
abbrev pub publisher_before : Publishing Store
publisher_before = record { keeper = pairs_of standby_before; state = Some standby_before; stopped = false }
