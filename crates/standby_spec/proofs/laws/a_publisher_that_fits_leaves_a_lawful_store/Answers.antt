use Rattle.standby_spec.proofs.PublisherLaws.{fits-lawful}
use Rattle.standby_spec.proofs.laws.a_publisher_that_fits_leaves_a_lawful_store.Goals as goal

pub returns : goal.returns
returns c s = record { lawful = fits-lawful _ _ }
