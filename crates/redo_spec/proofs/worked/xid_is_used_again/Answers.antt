use Rattle.std.proofs.Common.{refl}
use Rattle.std.specs.Fmt.{digits}
use Rattle.redo_spec.proofs.worked.xid_is_used_again.Goals as goal

pub returns : goal.returns
unfolding digits
returns c = record { again = refl }
