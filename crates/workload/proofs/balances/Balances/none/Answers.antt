use Rattle.workload.specs.Balances.{no_balances}
use Rattle.workload.proofs.balances.Balances.none.Goals as goal

pub returns : goal.returns
unfolding no_balances
returns c = c.in-Ok.ensures.items_if_clones_equal (λ y h. h)
