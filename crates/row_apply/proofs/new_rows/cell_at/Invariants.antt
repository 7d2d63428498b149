use Rattle.std.proofs.Common.{◌≡◌, length}
use Rattle.redo_spec.specs.ConflictKeys.{cell_of}
use Rattle.row_apply.proofs.new_rows.cell_at.Given as goal

-- the cells that are left give it
abbrev pub invariant-loop-rest : goal.invariant-loop-rest
invariant-loop-rest l = cell_of l.rest l.column ≡ cell_of l.cells l.column

abbrev pub decreases-loop-rest : goal.decreases-loop-rest
decreases-loop-rest l = length l.rest
