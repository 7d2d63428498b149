use Rattle.std.proofs.Common.{◌≡◌, ◌++◌, ◌+◌, length, map}
use Rattle.rl_value.specs.Outcome.{all_of}
use Rattle.redo_spec.specs.ConflictKeys.{cell_of}
use Rattle.redo_law.proofs.CellLaws.{values_with}
use Rattle.redo_law.proofs.conflicts.values_of.Given as goal

-- the values so far, with those of the columns that are left
abbrev pub invariant-loop-rest : goal.invariant-loop-rest
invariant-loop-rest l = record {
  so_far : values_with l.values.items (all_of (map (cell_of (l.first ++ l.second)) l.rest)) ≡
      all_of (map (cell_of (l.first ++ l.second)) l.columns);
  size : length l.values.items + length l.rest ≡ length l.columns;
}

abbrev pub decreases-loop-rest : goal.decreases-loop-rest
decreases-loop-rest l = length l.rest
