use Rattle.std.proofs.Common.{◌≡◌, ◌+◌, ◌≤◌, length}
use Rattle.redo_spec.specs.Dictionary.{uniques_of}
use Rattle.plain_store.specs.Checked.{leads_from}
use Rattle.plain_store.proofs.unique_index.UniqueIndex.leads_all.Given as goal

-- the keys that are left decide
abbrev pub invariant-loop-rest : goal.invariant-loop-rest
invariant-loop-rest l = record {
  same : leads_from l.self l.table.id l.number l.rest l.key l.row ≡
      leads_from l.self l.table.id 1 (uniques_of l.table) l.key l.row;
  few : l.number + length l.rest ≤ 5;
}

abbrev pub decreases-loop-rest : goal.decreases-loop-rest
decreases-loop-rest l = length l.rest
