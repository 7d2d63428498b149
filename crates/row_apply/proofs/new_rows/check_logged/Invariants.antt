use Rattle.std.proofs.Common.{◌≡◌, length}
use Rattle.redo_spec.specs.Effect.{difference}
use Rattle.row_apply.proofs.new_rows.check_logged.Given as goal

-- the cells that are left decide
abbrev pub invariant-loop-rest : goal.invariant-loop-rest
invariant-loop-rest l = difference l.row l.rest ≡ difference l.row l.cells

abbrev pub decreases-loop-rest : goal.decreases-loop-rest
decreases-loop-rest l = length l.rest
