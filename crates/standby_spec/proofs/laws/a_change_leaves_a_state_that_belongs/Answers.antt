use Rattle.standby_spec.proofs.RestLaws.{changed-belongs}
use Rattle.standby_spec.proofs.laws.a_change_leaves_a_state_that_belongs.Goals as goal

pub returns : goal.returns
returns c = record { belongs = changed-belongs }
