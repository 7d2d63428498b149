use Rattle.std.proofs.Common.{◌≡◌, ◌+◌, ◌≤◌, length}
use Rattle.redo_spec.specs.Dictionary.{uniques_of}
use Rattle.constraint_check.specs.LookUps.{values_behind}
use Rattle.constraint_check.proofs.unique_values.push_row.Given as goal

-- what is left makes the whole of it
abbrev pub invariant-loop-uniques : goal.invariant-loop-uniques
invariant-loop-uniques l = record {
  rest : values_behind l.keys.items l.table.id l.row l.index l.uniques ≡
      values_behind l.initial.keys.items l.table.id l.row 1 (uniques_of l.table);
  few : l.index + length l.uniques ≤ 5;
}

abbrev pub decreases-loop-uniques : goal.decreases-loop-uniques
decreases-loop-uniques l = length l.uniques
