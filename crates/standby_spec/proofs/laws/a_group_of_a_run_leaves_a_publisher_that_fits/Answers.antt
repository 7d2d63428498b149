use Rattle.standby_spec.proofs.PublisherLaws.{group-keeps}
use Rattle.standby_spec.proofs.laws.a_group_of_a_run_leaves_a_publisher_that_fits.Goals as goal

pub returns : goal.returns
returns c s = record { fits = group-keeps _ _ }
