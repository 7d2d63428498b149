use Rattle.redo_spec.proofs.MarkLaws.{fits_at_more, fits_longer}
use Rattle.redo_spec.proofs.laws.a_mark_fits_on.Goals as goal

pub returns-clause-count : goal.returns-clause-count
returns-clause-count c = fits_at_more

pub returns-clause-longer : goal.returns-clause-longer
returns-clause-longer c = fits_longer
