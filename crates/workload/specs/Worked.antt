-- Worked examples of workloads. `src/worked.rt` states each as a theorem that holds by computing.
use Rattle.std.specs.Prelude.{ℕ, List, [], ◌∷◌, map, length}
use Rattle.std.specs.List.{flat_map}
use Rattle.rl_value.specs.declared.value.Value.{Value}
use Rattle.redo_vec.specs.declared.vector.Vector.{Vector}
use Rattle.redo_vec.specs.declared.vector.Vector.TheVariants.{Start, Change as OfChange, Undo, Commit, Rollback, Table, DictEnd}
use Rattle.redo_vec.specs.declared.redo_rec.RedoRec.{RedoRec}
use Rattle.redo_spec.specs.declared.header.Header.{Header}
use Rattle.redo_spec.specs.Log.{Log}
use Rattle.redo_spec.specs.History.{no_history, commit_count}
use Rattle.redo_spec.specs.Standing.{beginning}
use Rattle.redo_spec.specs.Law.{Admitted, admission}
use Rattle.workload.specs.Workload.{workload_logs}
use Rattle.workload.specs.Summary.{entries_of_all}

-- the headers of logs
abbrev pub heads : List Log → List Header
heads logs = map (λ l. l.head) logs

-- the values that a change gives
abbrev pub values_of : Vector → List (List Value)
values_of (Start x) = []
values_of (OfChange c) = map (λ k. k.1) c.new ∷ []
values_of (Undo x) = []
values_of (Commit x) = []
values_of (Rollback x) = []
values_of (Table t) = []
values_of DictEnd = []

abbrev pub values_of_record : RedoRec → List (List Value)
values_of_record r = flat_map values_of r.vectors

abbrev pub values_of_log : Log → List (List Value)
values_of_log l = flat_map values_of_record l.records

-- the values that the changes of logs give, in order
abbrev pub values_given : List Log → List (List Value)
values_given logs = flat_map values_of_log logs

-- the admission of a workload's records
abbrev pub admitted : ℕ → ℕ → Admitted
admitted seed txns = admission (beginning 1 0) (no_history 0) (entries_of_all (workload_logs seed txns))

-- how many transactions of a workload commit, and how many are rolled back
abbrev pub ends : ℕ → ℕ → ℕ × ℕ
ends seed txns = let h = (admitted seed txns).history in (commit_count h.commits, length h.rolled_back)
