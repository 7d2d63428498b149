use Rattle.row_apply.proofs.Staying.{effect_sound, effect_same}
use Rattle.row_apply.proofs.laws.an_effect_leaves_sound_tables.Goals as goal

pub returns : goal.returns
returns c = record { sound = effect_sound; same = effect_same }
