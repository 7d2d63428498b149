use Rattle.std.proofs.Common.{◌≡◌, ◌++◌, length}
use Rattle.std.specs.List.{filter_map}
use Rattle.redo_spec.specs.ConflictKeys.{cell_of}
use Rattle.row_apply.proofs.new_rows.logged_values.Given as goal

-- with what the cells give for the columns that are left it is all
abbrev pub invariant-loop-rest : goal.invariant-loop-rest
invariant-loop-rest l = l.values.items ++ filter_map (cell_of l.cells) l.rest ≡ filter_map (cell_of l.cells) l.columns

abbrev pub decreases-loop-rest : goal.decreases-loop-rest
decreases-loop-rest l = length l.rest
