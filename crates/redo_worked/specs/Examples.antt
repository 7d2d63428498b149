-- More worked examples: folds over rows that are there, a run behind a mark, a second log, and work ahead of a commit. They
-- stand beside those of `redo_spec` (specs/Worked), whose words they use; `src/examples.rt` states each as a theorem that holds
-- by computing.
use Rattle.std.specs.Prelude.{ℕ, List, [], ◌∷◌, if◌then◌else◌, ◌==◌, codes, Result, Ok}
use Rattle.rl_value.specs.declared.key.Key.{Key}
use Rattle.rl_value.specs.declared.miss.Miss.{Miss}
use Rattle.rl_value.specs.declared.value.Value.{Value}
use Rattle.rl_value.specs.declared.value.Value.TheVariants.{Null, Text}
use Rattle.rl_value.specs.declared.verdict.Verdict.{Verdict}
use Rattle.rl_value.specs.declared.verdict.Verdict.TheVariants.{Mismatch}
use Rattle.rl_value.specs.declared.verdict.Stop.TheVariants.{Drained}
use Rattle.redo_vec.specs.declared.change.Change.{Change}
use Rattle.redo_vec.specs.declared.change.Op.TheVariants.{Insert, Update, Delete}
use Rattle.redo_vec.specs.declared.redo_rec.RedoRec.{RedoRec}
use Rattle.redo_vec.specs.declared.vector.Vector.TheVariants.{Undo, Commit, Rollback, Table, DictEnd}
use Rattle.redo_spec.specs.History.{no_history}
use Rattle.redo_spec.specs.Tables.{Rows, Tables}
use Rattle.redo_spec.specs.Standing.{beginning}
use Rattle.redo_spec.specs.Law.{admission}
use Rattle.redo_spec.specs.Mark.{resumed}
use Rattle.redo_spec.specs.Skips.{Skip}
use Rattle.redo_spec.specs.Fold.{folded, empty_base, fold_of_redo, redo_end, Missed}
use Rattle.redo_spec.specs.Lines.{fold_lines}
use Rattle.redo_spec.specs.Work.{Written, work}
use Rattle.redo_spec.specs.Worked.{rec, one_of, start, row, n, emp, head_of, emp_entries, last_line}

-- ---- over rows that are there

-- the fold of records over these rows of HR.EMP
abbrev pub folded_over : Rows → List Skip → List RedoRec → List (List ℕ)
folded_over rows skips records =
    let a = admission (beginning 1 99) (no_history 0) (emp_entries records) in
    fold_lines (folded (record { tables = record { row = emp; rows = rows } ∷ []; n = 0; scn = 99; local = [] }) skips
    a.history.commits (redo_end a Drained))

-- the row of ID 1 with these two texts
abbrev pub row_one : Value → Value → Rows
row_one name email = (n 1 ∷ [], n 1 ∷ name ∷ email ∷ []) ∷ []

-- ---- behind a mark, where a transaction that began before is rolled back

abbrev pub rolled_back_behind : List RedoRec
rolled_back_behind =
    rec 101 (start 1 ∷ row 1 1 ∷ [])
    ∷ rec 102 (start 2 ∷ row 2 2 ∷ [])
    ∷ rec 103 (row 1 5 ∷ Undo (one_of 1) ∷ [])
    ∷ rec 104 (Rollback (one_of 1) ∷ [])
    ∷ rec 105 (Commit (one_of 2) ∷ [])
    ∷ []

-- the fold of it by a run from record 3 on over no rows, where records up to this one are known
abbrev pub rolled_back_from : ℕ → List (List ℕ)
rolled_back_from known =
    let a = resumed 1 99 (emp_entries rolled_back_behind) 2 known in
    fold_lines (folded (empty_base 99 a.standing) [] a.history.commits (redo_end a Drained))

-- ---- a second log

-- the END line of two logs, where the second one begins at this SCN and its record has that one
abbrev pub two_logs_at : ℕ → ℕ → List ℕ
two_logs_at first scn = last_line (fold_lines (fold_of_redo 1 99 (
    (head_of 1, rec 100 (Table emp ∷ DictEnd ∷ []))
    ∷ (record { seq = 2; dbid = 9; first = first; next = 300; count = 1 }, rec scn (start 1 ∷ []))
    ∷ []) Drained))

-- ---- work ahead of a commit

-- HR.EMP without a row at count 0, and with the row of ID 1 at each later one
abbrev pub emp_at : ℕ → Result Tables Missed
emp_at count = Ok (record { row = emp; rows = if count == 0 then [] else row_one (Text (codes "A")) Null } ∷ [])

-- the primary key of this ID
abbrev pub emp_key : ℕ → Key
emp_key id = record { table = 1; index = 0; values = n id ∷ [] }

-- the row of ID 2 comes, and goes again; the row of ID 1 has its name changed
abbrev pub added_2 : Change
added_2 = record { xid = one_of 1; op = Insert; table = 1; old = []; new = (0, n 2) ∷ (1, Null) ∷ (2, Null) ∷ [] }

abbrev pub removed_2 : Change
removed_2 = record { xid = one_of 1; op = Delete; table = 1; old = (0, n 2) ∷ (1, Null) ∷ (2, Null) ∷ []; new = [] }

abbrev pub renamed_1 : Change
renamed_1 = record {
  xid = one_of 1;
  op = Update;
  table = 1;
  old = (0, n 1) ∷ (1, Text (codes "A")) ∷ [];
  new = (1, Text (codes "B")) ∷ [];
}

-- the work of the row of ID 2 that comes, done at count 0, and then of this change of record 3, done at this count
abbrev pub work_behind : Change → ℕ → Result (List Written) Missed
work_behind change count = work emp_at (emp ∷ []) [] (((record { rec = 2; vec = 2 }, added_2), 0) ∷
    ((record { rec = 3; vec = 1 }, change), count) ∷ [])

-- the commit of SCN 104 stops at a change of HR.EMP with this miss
abbrev pub missed_with : Miss → Verdict
missed_with miss = Mismatch 104 (record { rec = 4; vec = 2 }) 1 miss
