use Rattle.std.proofs.Common.{refl}
use Rattle.std.specs.Fmt.{digits}
use Rattle.redo_spec.proofs.worked.skips_pass_changes_over.Goals as goal

pub returns-clause-by_pattern : goal.returns-clause-by_pattern
unfolding digits
returns-clause-by_pattern c = refl

pub returns-clause-later : goal.returns-clause-later
unfolding digits
returns-clause-later c = refl

pub returns-clause-too_late : goal.returns-clause-too_late
unfolding digits
returns-clause-too_late c = refl
