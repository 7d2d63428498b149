use Rattle.std.proofs.Common.{refl}
use Rattle.std.specs.Fmt.{digits}
use Rattle.redo_spec.proofs.worked.rolled_back_changes_leave_nothing.Goals as goal

pub returns-clause-key : goal.returns-clause-key
unfolding digits
returns-clause-key c = refl

pub returns-clause-miss : goal.returns-clause-miss
unfolding digits
returns-clause-miss c = refl
