use Rattle.primary.proofs.SoundLaws.{fold_sound}
use Rattle.primary.proofs.laws.a_fold_leaves_sound_tables.Goals as goal

pub returns : goal.returns
returns c = record { sound = fold_sound }
