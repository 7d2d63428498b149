use Rattle.std.proofs.Common.{refl}
use Rattle.std.specs.Fmt.{digits}
use Rattle.redo_spec.proofs.worked.dictionary_alone_folds.Goals as goal

pub returns : goal.returns
unfolding digits
returns c = record { rowless = refl }
