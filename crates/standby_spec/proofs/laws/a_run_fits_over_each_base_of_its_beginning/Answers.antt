use Rattle.standby_spec.proofs.OverLaws.{over-fits}
use Rattle.standby_spec.proofs.laws.a_run_fits_over_each_base_of_its_beginning.Goals as goal

pub returns : goal.returns
returns c = record { fits = over-fits }
