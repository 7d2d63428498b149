use Rattle.std.proofs.Common.{◌≡◌, length}
use Rattle.row_apply.specs.Values.{has_at}
use Rattle.row_apply.proofs.key_values.has_values.Given as goal

-- what is left decides
abbrev pub invariant-loop-columns_left : goal.invariant-loop-columns_left
invariant-loop-columns_left l = has_at l.row l.columns_left l.values_left ≡ has_at l.row l.columns l.values

abbrev pub decreases-loop-columns_left : goal.decreases-loop-columns_left
decreases-loop-columns_left l = length l.columns_left
