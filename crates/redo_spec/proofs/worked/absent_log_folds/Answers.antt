use Rattle.std.proofs.Common.{refl}
use Rattle.std.specs.Fmt.{digits}
use Rattle.redo_spec.proofs.worked.absent_log_folds.Goals as goal

pub returns : goal.returns
unfolding digits
returns c = record { gap = refl }
