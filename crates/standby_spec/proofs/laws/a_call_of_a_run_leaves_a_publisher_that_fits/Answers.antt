use Rattle.standby_spec.proofs.PublisherLaws.{call-keeps}
use Rattle.standby_spec.proofs.laws.a_call_of_a_run_leaves_a_publisher_that_fits.Goals as goal

pub returns : goal.returns
returns c s = record { fits = call-keeps _ _ }
