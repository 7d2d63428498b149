use Rattle.std.proofs.Common.{refl}
use Rattle.std.specs.Fmt.{digits}
use Rattle.redo_spec.proofs.worked.unique_values_are_taken.Goals as goal

pub returns-clause-second : goal.returns-clause-second
unfolding digits
returns-clause-second c = refl

pub returns-clause-least : goal.returns-clause-least
unfolding digits
returns-clause-least c = refl

pub returns-clause-exists_first : goal.returns-clause-exists_first
unfolding digits
returns-clause-exists_first c = refl

pub returns-clause-null : goal.returns-clause-null
unfolding digits
returns-clause-null c = refl
