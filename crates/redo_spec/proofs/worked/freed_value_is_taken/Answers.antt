use Rattle.std.proofs.Common.{refl}
use Rattle.std.specs.Fmt.{digits}
use Rattle.redo_spec.proofs.worked.freed_value_is_taken.Goals as goal

pub returns-clause-folds : goal.returns-clause-folds
unfolding digits
returns-clause-folds c = refl
