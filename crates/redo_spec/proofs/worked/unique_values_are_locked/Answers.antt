use Rattle.std.proofs.Common.{refl}
use Rattle.std.specs.Fmt.{digits}
use Rattle.redo_spec.proofs.worked.unique_values_are_locked.Goals as goal

pub returns-clause-new : goal.returns-clause-new
unfolding digits
returns-clause-new c = refl

pub returns-clause-old : goal.returns-clause-old
unfolding digits
returns-clause-old c = refl

pub returns-clause-null : goal.returns-clause-null
unfolding digits
returns-clause-null c = refl
