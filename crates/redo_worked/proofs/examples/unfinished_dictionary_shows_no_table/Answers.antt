use Rattle.std.proofs.Common.{refl}
use Rattle.std.specs.Fmt.{digits}
use Rattle.redo_worked.proofs.examples.unfinished_dictionary_shows_no_table.Goals as goal

pub returns : goal.returns
unfolding digits
returns c = record { absent = refl }
