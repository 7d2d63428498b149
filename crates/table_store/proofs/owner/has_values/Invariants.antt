use Rattle.std.proofs.Common.{◌≡◌, length}
use Rattle.std.specs.Ordering.{eq_by_cmp}
use Rattle.rl_value.specs.Order.{row_cmp}
use Rattle.redo_spec.specs.Tables.{values_at}
use Rattle.table_store.proofs.owner.has_values.Given as goal

-- what is left decides
abbrev pub invariant-loop-columns_left : goal.invariant-loop-columns_left
invariant-loop-columns_left l = eq_by_cmp row_cmp (values_at l.row l.columns_left) l.values_left ≡
    eq_by_cmp row_cmp (values_at l.row l.columns) l.values

abbrev pub decreases-loop-columns_left : goal.decreases-loop-columns_left
decreases-loop-columns_left l = length l.columns_left
