use Rattle.std.proofs.Common.{◌≡◌, ◌+◌, ◌≤◌, ◌++◌, length, map, unwrap_or}
use Rattle.redo_spec.specs.ConflictKeys.{cell_of}
use Rattle.redo_spec.specs.Dictionary.{numbers_from}
use Rattle.redo_spec.specs.Effect.{with_cells}
use Rattle.redo_spec.specs.Tables.{value_in}
use Rattle.row_apply.proofs.new_rows.values_after.Given as goal

-- with the values of the columns that are left it is the row
abbrev pub invariant-loop-columns : goal.invariant-loop-columns
invariant-loop-columns l = record {
  whole : l.values.items ++ map (λ column. unwrap_or (cell_of l.cells column) (value_in l.row column))
      (numbers_from l.column l.columns) ≡ with_cells l.table l.row l.cells;
  few : l.column + length l.columns ≤ 32;
}

abbrev pub decreases-loop-columns : goal.decreases-loop-columns
decreases-loop-columns l = length l.columns
