use Rattle.std.proofs.Common.{◌≡◌, length}
use Rattle.redo_spec.specs.ConflictKeys.{cell_of}
use Rattle.sql_text.proofs.lists.value_after.Given as goal

-- no cell so far is of the column
abbrev pub invariant-loop-rest : goal.invariant-loop-rest
invariant-loop-rest l = cell_of l.rest l.column ≡ cell_of l.new l.column

abbrev pub decreases-loop-rest : goal.decreases-loop-rest
decreases-loop-rest l = length l.rest
