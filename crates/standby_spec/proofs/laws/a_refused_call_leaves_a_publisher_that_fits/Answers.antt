use Rattle.standby_spec.proofs.PublisherLaws.{refused-keeps-all}
use Rattle.standby_spec.proofs.laws.a_refused_call_leaves_a_publisher_that_fits.Goals as goal

pub returns : goal.returns
returns c s = record { fits = refused-keeps-all _ _ }
