use Rattle.std.proofs.Common.{◌≡◌, take}
use Rattle.redo_spec.specs.Effect.{cell_values}
use Rattle.row_apply.proofs.new_rows.copied_values.Given as goal

-- the values of the cells so far
abbrev pub invariant-loop-cell : goal.invariant-loop-cell
invariant-loop-cell l = l.values.items ≡ cell_values (take l.cell-index l.cells)
