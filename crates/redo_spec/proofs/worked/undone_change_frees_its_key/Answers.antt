use Rattle.std.proofs.Common.{refl}
use Rattle.std.specs.Fmt.{digits}
use Rattle.redo_spec.proofs.worked.undone_change_frees_its_key.Goals as goal

pub returns : goal.returns
unfolding digits
returns c = record { freed = refl }
