use Rattle.run_spec.proofs.Longer.{created-belongs}
use Rattle.run_spec.proofs.between.a_created_standby_belongs.Goals as goal

pub returns : goal.returns
returns c = record { belongs = created-belongs }
