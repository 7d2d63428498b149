use Rattle.std.proofs.Common.{refl}
use Rattle.std.specs.Fmt.{digits}
use Rattle.redo_spec.proofs.worked.lock_beside_the_dictionary_names_its_table.Goals as goal

pub returns : goal.returns
unfolding digits
returns c = record { named = refl }
