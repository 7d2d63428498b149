use Rattle.standby_spec.proofs.LayoutLaws.{writings-layout, front-may}
use Rattle.standby_spec.proofs.PublishLaws.{group-fits}
use Rattle.standby_spec.proofs.laws.a_published_group_fits.Goals as goal

pub returns : goal.returns
returns c = record { fits = group-fits; may = front-may; layout = writings-layout }
