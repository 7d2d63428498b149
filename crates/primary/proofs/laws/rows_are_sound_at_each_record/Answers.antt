use Rattle.primary.proofs.SoundLaws.{sound_at_each}
use Rattle.primary.proofs.laws.rows_are_sound_at_each_record.Goals as goal

pub returns : goal.returns
returns c = record { sound = sound_at_each }
