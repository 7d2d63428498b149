use Rattle.std.proofs.Common.{List, ap, ◌∙◌}
use Rattle.std.specs.Ordering.{eq_by_cmp}
use Rattle.rl_value.specs.declared.value.Value.{Value}
use Rattle.rl_value.specs.declared.key.Key.{Key}
use Rattle.rl_value.specs.Order.{row_cmp, key_cmp}
use Rattle.row_apply.proofs.Orders.{row_is, row_self, key_is, key_self}
use Rattle.row_apply.proofs.laws.equal_in_order_is_equal.Goals as goal

pub returns : goal.returns
returns c = record {
  rows = λ one other. (row_is one other, λ same. ap (λ (x : List Value). eq_by_cmp row_cmp x other) same ∙ row_self other);
  keys = λ one other. (key_is one other, λ same. ap (λ (x : Key). eq_by_cmp key_cmp x other) same ∙ key_self other);
}
