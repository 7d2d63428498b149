use Rattle.row_apply.proofs.Sound.{empty-sound}
use Rattle.row_apply.proofs.laws.tables_without_rows_are_sound.Goals as goal

pub returns : goal.returns
returns c = record { sound = empty-sound }
