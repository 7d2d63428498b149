use Rattle.std.proofs.Common.{◌≡◌, ◌≤◌, length}
use Rattle.table_store.specs.Shared.{writes_past}
use Rattle.table_store.proofs.table_list.writes_past.Given as goal

-- what stands behind those that are left stands behind all
abbrev pub invariant-loop-rest : goal.invariant-loop-rest
invariant-loop-rest l = record {
  same : writes_past l.id l.rest ≡ writes_past l.id l.writes;
  few : length l.rest ≤ length l.writes;
}

abbrev pub decreases-loop-rest : goal.decreases-loop-rest
decreases-loop-rest l = length l.rest
