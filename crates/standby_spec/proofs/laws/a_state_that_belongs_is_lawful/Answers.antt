use Rattle.standby_spec.proofs.AgainLaws.{belonging-lawful}
use Rattle.standby_spec.proofs.laws.a_state_that_belongs_is_lawful.Goals as goal

pub returns : goal.returns
returns c = record { lawful = belonging-lawful }
