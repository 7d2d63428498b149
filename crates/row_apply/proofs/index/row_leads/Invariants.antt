use Rattle.std.proofs.Common.{◌≡◌, ◌+◌, ◌≤◌, length}
use Rattle.redo_spec.specs.Dictionary.{uniques_of}
use Rattle.row_apply.specs.Kept.{leads_by}
use Rattle.row_apply.proofs.index.row_leads.Given as goal

-- what is left decides
abbrev pub invariant-loop-keys : goal.invariant-loop-keys
invariant-loop-keys l = record {
  rest : leads_by l.owners.entries l.table.id l.row l.key l.index l.keys ≡
      leads_by l.owners.entries l.table.id l.row l.key 1 (uniques_of l.table);
  few : l.index + length l.keys ≤ 5;
}

abbrev pub decreases-loop-keys : goal.decreases-loop-keys
decreases-loop-keys l = length l.keys
