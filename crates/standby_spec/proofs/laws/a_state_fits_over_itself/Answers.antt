use Rattle.standby_spec.proofs.FitsLaws.{itself-fits}
use Rattle.standby_spec.proofs.laws.a_state_fits_over_itself.Goals as goal

pub returns : goal.returns
returns c = record { itself = itself-fits }
