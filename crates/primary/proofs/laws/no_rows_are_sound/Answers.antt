use Rattle.primary.proofs.SoundLaws.{none_sound, none_later}
use Rattle.primary.proofs.laws.no_rows_are_sound.Goals as goal

pub returns : goal.returns
returns c = record { sound = none_sound; none = none_later }
