use Rattle.std.proofs.Common.{refl}
use Rattle.std.specs.Fmt.{digits}
use Rattle.redo_spec.proofs.worked.skipped_table_shows_local_rows.Goals as goal

pub returns : goal.returns
unfolding digits
returns c = record { local = refl }
