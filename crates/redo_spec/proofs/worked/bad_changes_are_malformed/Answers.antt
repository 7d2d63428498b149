use Rattle.std.proofs.Common.{refl}
use Rattle.std.specs.Fmt.{digits}
use Rattle.redo_spec.proofs.worked.bad_changes_are_malformed.Goals as goal

pub returns-clause-no_table : goal.returns-clause-no_table
unfolding digits
returns-clause-no_table c = refl

pub returns-clause-columns : goal.returns-clause-columns
unfolding digits
returns-clause-columns c = refl

pub returns-clause-types : goal.returns-clause-types
unfolding digits
returns-clause-types c = refl

pub returns-clause-supplement : goal.returns-clause-supplement
unfolding digits
returns-clause-supplement c = refl

pub returns-clause-logged : goal.returns-clause-logged
unfolding digits
returns-clause-logged c = refl
