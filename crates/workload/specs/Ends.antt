-- Which transactions the logs of a workload end, by their numbers.
use Rattle.std.specs.Prelude.{ℕ, zero, suc, ◌+◌, List, [], ◌∷◌}
use Rattle.std.specs.List.{flat_map}
use Rattle.redo_vec.specs.declared.vector.Vector.{Vector}
use Rattle.redo_vec.specs.declared.vector.Vector.TheVariants.{Start, Change as OfChange, Undo, Commit, Rollback, Table, DictEnd}
use Rattle.redo_vec.specs.declared.redo_rec.RedoRec.{RedoRec}
use Rattle.redo_spec.specs.Log.{Log}

-- the transaction that a vector ends, by a COMMIT or a ROLLBACK
abbrev pub ended_by : Vector → List ℕ
ended_by (Start x) = []
ended_by (OfChange c) = []
ended_by (Undo x) = []
ended_by (Commit x) = x.sqn ∷ []
ended_by (Rollback x) = x.sqn ∷ []
ended_by (Table t) = []
ended_by DictEnd = []

abbrev pub ended_in : List Vector → List ℕ
ended_in vectors = flat_map ended_by vectors

abbrev pub ended_in_record : RedoRec → List ℕ
ended_in_record r = ended_in r.vectors

abbrev pub ended_in_log : Log → List ℕ
ended_in_log l = flat_map ended_in_record l.records

-- the transactions that logs end, in order
abbrev pub ended_in_logs : List Log → List ℕ
ended_in_logs logs = flat_map ended_in_log logs

-- so many numbers, from this one on
abbrev pub counted_up : ℕ → ℕ → List ℕ
counted_up from zero = []
counted_up from (suc count) = from ∷ counted_up (from + 1) count
