use Rattle.std.proofs.Common.{◌≡◌, ◌+◌, ◌≤◌, length}
use Rattle.table_store.specs.Counts.{removed_in}
use Rattle.table_store.proofs.counts.count_removed.Given as goal

-- what was counted, and what is left
abbrev pub invariant-loop-rest : goal.invariant-loop-rest
invariant-loop-rest l = record {
  same : l.removed + removed_in l.id l.rest l.rows ≡ removed_in l.id l.writes l.rows;
  few : l.removed + length l.rest ≤ length l.writes;
}

abbrev pub decreases-loop-rest : goal.decreases-loop-rest
decreases-loop-rest l = length l.rest
