use Rattle.std.proofs.Common.{refl}
use Rattle.std.specs.Fmt.{digits}
use Rattle.redo_spec.proofs.worked.bad_header_folds.Goals as goal

pub returns-clause-magic : goal.returns-clause-magic
unfolding digits
returns-clause-magic c = refl

pub returns-clause-short : goal.returns-clause-short
unfolding digits
returns-clause-short c = refl

pub returns-clause-sequence : goal.returns-clause-sequence
unfolding digits
returns-clause-sequence c = refl
