use Rattle.std.proofs.Common.{◌≡◌, length}
use Rattle.redo_spec.specs.ConflictKeys.{cell_of}
use Rattle.redo_law.proofs.conflicts.value_in.Given as goal

abbrev pub invariant-loop-rest : goal.invariant-loop-rest
invariant-loop-rest l = cell_of l.rest l.column ≡ cell_of l.cells l.column

abbrev pub decreases-loop-rest : goal.decreases-loop-rest
decreases-loop-rest l = length l.rest
