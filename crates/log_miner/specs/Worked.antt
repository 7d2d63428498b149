-- Worked examples: the contents of small logs. `src/worked.rt` states each as a theorem that holds by computing.
-- HR.EMP, its records and its logs are those of redo_spec (specs/Worked), whose words these use.
use Rattle.std.specs.Prelude.{ℕ, zero, suc, ◌+◌, List, [], ◌∷◌, ◌++◌, codes, Bool, Option}
use Rattle.rl_value.specs.declared.value.Value.TheVariants.{Null, Text}
use Rattle.rl_value.specs.declared.verdict.Stop.{Stop}
use Rattle.redo_vec.specs.declared.vector.Vector.TheVariants.{Undo, Commit, Rollback}
use Rattle.redo_vec.specs.declared.redo_rec.RedoRec.{RedoRec}
use Rattle.redo_spec.specs.Worked.{rec, one_of, start, row, n, insert, update, emp_entries}
use Rattle.redo_spec.specs.Lines.{Line}
use Rattle.log_miner.specs.MinedLines.{mined_of_redo, mined_lines, mined_of_logs}
use Rattle.log_miner.specs.Mining.{unbegun, records_given}

-- the lines of `mine` of a log of HR.EMP with these records behind its dictionary, which ends so
abbrev pub emp_mined : Bool → List RedoRec → Stop → List Line
emp_mined committed records stop = mined_lines (mined_of_redo committed 1 99 (record {
  entries = emp_entries records;
  stop = stop;
}))

-- what a miner gives for the same records, all of which may follow
abbrev pub emp_given : Bool → List RedoRec → List Line
emp_given committed records = records_given (emp_entries records) (unbegun committed)

-- the lines of `mine` of these logs, from the first sequence to the last
abbrev pub logs_mined : Bool → (ℕ → Option (List ℕ)) → ℕ → ℕ → List Line
logs_mined committed logs first last = mined_lines (mined_of_logs committed logs first last)

-- ---- a transaction of 64 inserts that is rolled back, and one behind it

-- so many rows from this ID on, one a record
abbrev pub rows_from : ℕ → ℕ → List RedoRec
rows_from id zero = []
rows_from id (suc count) = rec 102 (row 1 id ∷ []) ∷ rows_from (id + 1) count

abbrev pub rolled_back_64 : List RedoRec
rolled_back_64 =
    rec 101 (start 1 ∷ [])
    ∷ rows_from 1 64
    ++ rec 103 (Rollback (one_of 1) ∷ [])
    ∷ rec 104 (start 2 ∷ [])
    ∷ rec 104 (insert 2 (n 1) (Text (codes "New")) Null ∷ [])
    ∷ rec 105 (Commit (one_of 2) ∷ [])
    ∷ []

-- ---- two transactions side by side; the second one ends first, and its second change is undone

abbrev pub crossed : List RedoRec
crossed =
    rec 101 (start 1 ∷ insert 1 (n 1) Null Null ∷ [])
    ∷ rec 102 (start 2 ∷ insert 2 (n 2) Null Null ∷ [])
    ∷ rec 103 (insert 2 (n 3) Null Null ∷ update 1 ((0, n 1) ∷ []) ((0, n 5) ∷ []) ∷ [])
    ∷ rec 104 (Undo (one_of 2) ∷ [])
    ∷ rec 105 (Commit (one_of 2) ∷ [])
    ∷ rec 106 (Commit (one_of 1) ∷ [])
    ∷ []
