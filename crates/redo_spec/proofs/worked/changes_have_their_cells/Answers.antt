use Rattle.std.proofs.Common.{refl}
use Rattle.std.specs.Fmt.{digits}
use Rattle.redo_spec.proofs.worked.changes_have_their_cells.Goals as goal

pub returns-clause-old_of_insert : goal.returns-clause-old_of_insert
unfolding digits
returns-clause-old_of_insert c = refl

pub returns-clause-new_of_delete : goal.returns-clause-new_of_delete
unfolding digits
returns-clause-new_of_delete c = refl

pub returns-clause-short_delete : goal.returns-clause-short_delete
unfolding digits
returns-clause-short_delete c = refl

pub returns-clause-beyond : goal.returns-clause-beyond
unfolding digits
returns-clause-beyond c = refl

pub returns-clause-differs_before_exists : goal.returns-clause-differs_before_exists
unfolding digits
returns-clause-differs_before_exists c = refl
