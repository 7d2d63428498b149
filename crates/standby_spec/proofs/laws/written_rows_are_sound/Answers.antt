use Rattle.standby_spec.proofs.WrittenLaws.{written-sound}
use Rattle.standby_spec.proofs.laws.written_rows_are_sound.Goals as goal

pub returns : goal.returns
returns c = record { sound = written-sound }
