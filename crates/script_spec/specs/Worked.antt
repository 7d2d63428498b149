-- Worked examples: scripts over small logs, and what they print. `src/worked.rt` states each as a theorem that holds by
-- computing.
-- HR.EMP, its logs and the short words for records are those of the worked examples of `redo_spec`.
use Rattle.std.specs.Prelude.{ℕ, ◌+◌, List, [], ◌∷◌, length, take, ◌==◌, if◌then◌else◌, codes, Some, None}
use Rattle.rl_value.specs.declared.value.Value.TheVariants.{Null, Text}
use Rattle.redo_vec.specs.declared.change.Op.TheVariants.{Insert}
use Rattle.redo_vec.specs.declared.redo_rec.RedoRec.{RedoRec}
use Rattle.redo_vec.specs.declared.vector.Vector.TheVariants.{Change as OfChange, Commit, Table, DictEnd}
use Rattle.redo_spec.specs.declared.header.Header.{Header}
use Rattle.redo_spec.specs.Log.{log_bytes}
use Rattle.redo_spec.specs.Lines.{Line, written}
use Rattle.redo_spec.specs.Worked.{rec, one_of, head_of, n, start, insert, update, emp, audit, first_bytes}
use Rattle.standby_spec.specs.StandbyRedo.{Archived}
use Rattle.script_spec.specs.Scripts.{Printed, printed_by}

-- logs, each with its sequence
abbrev pub told : List (ℕ × List ℕ) → Archived
told [] seq = None
told ((s, bytes) ∷ more) seq = if s == seq then Some bytes else told more seq

-- log 1 of database 9, with the dictionary of HR.EMP as its first record
abbrev pub emp_log : List RedoRec → Archived
emp_log records = told ((
  1,
  log_bytes (record {
    head = head_of (1 + length records);
    records = rec 100 (Table emp ∷ DictEnd ∷ []) ∷ records;
  }),
) ∷ [])

-- what a script of these lines prints over these logs, and its status, where no standby was created before
abbrev pub prints : Archived → List Line → Printed
prints logs lines = printed_by logs (written lines) None

-- a row moves to another key, and the next transaction puts one at the key that it left
abbrev pub moved_key : List RedoRec
moved_key =
    rec 101 (start 1 ∷ update 1 ((0, n 1) ∷ []) ((0, n 5) ∷ []) ∷ [])
    ∷ rec 102 (Commit (one_of 1) ∷ [])
    ∷ rec 103 (start 2 ∷ insert 2 (n 1) (Text (codes "N")) Null ∷ [])
    ∷ rec 104 (Commit (one_of 2) ∷ []) ∷ []

-- an update whose old value is not the one that the standby has
abbrev pub other_row : List RedoRec
other_row =
    rec 101 (start 1 ∷ update 1 ((0, n 1) ∷ (1, Text (codes "A")) ∷ []) ((1, Text (codes "B")) ∷ []) ∷ [])
    ∷ rec 102 (Commit (one_of 1) ∷ []) ∷ []

-- a transaction inserts into HR.AUDIT and HR.EMP
abbrev pub audited : Archived
audited = told ((
  1,
  log_bytes (record {
    head = head_of 3;
    records =
        rec 100 (Table emp ∷ Table audit ∷ DictEnd ∷ [])
        ∷ rec 101 (
        start 1
        ∷ OfChange (record { xid = one_of 1; op = Insert; table = 2; old = []; new = (0, n 1) ∷ (1, Text (codes "p")) ∷ [] })
        ∷ insert 1 (n 1) (Text (codes "A")) Null ∷ [])
        ∷ rec 102 (Commit (one_of 1) ∷ [])
        ∷ [];
  }),
) ∷ [])

-- a log of one record
abbrev pub one_record : Header → RedoRec → List ℕ
one_record head r = log_bytes (record { head = head; records = r ∷ [] })

-- logs of which none but the first can be registered
abbrev pub odd_logs : Archived
odd_logs = told (
    (1, first_bytes)
    ∷ (2, first_bytes)
    ∷ (3, one_record (record { seq = 3; dbid = 8; first = 200; next = 300; count = 1 }) (rec 200 (start 1 ∷ [])))
    ∷ (4, take 39 first_bytes)
    ∷ (5, one_record (record { seq = 5; dbid = 9; first = 100; next = 200; count = 1 }) (rec 100 (Table emp ∷ DictEnd ∷ [])))
    ∷ [])
