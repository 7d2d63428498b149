use Rattle.std.proofs.Common.{◌≡◌, ◌+◌, ◌≤◌, length}
use Rattle.redo_spec.specs.Dictionary.{uniques_of}
use Rattle.row_apply.specs.Kept.{index_by, OwnersOnly}
use Rattle.row_apply.proofs.index.index_row.Given as goal

-- what is left makes the whole of it
abbrev pub invariant-loop-keys : goal.invariant-loop-keys
invariant-loop-keys l = record {
  rest : index_by l.table.id l.row l.key l.index l.keys l.owners.entries ≡
      index_by l.table.id l.row l.key 1 (uniques_of l.table) l.initial.owners.entries;
  others : OwnersOnly l.table.id l.initial.owners.entries l.owners.entries;
  few : l.index + length l.keys ≤ 5;
}

abbrev pub decreases-loop-keys : goal.decreases-loop-keys
decreases-loop-keys l = length l.keys
