use Rattle.primary.proofs.SoundLaws.{whole_start}
use Rattle.primary.proofs.laws.a_whole_dictionary_stays.Goals as goal

pub returns : goal.returns
returns c = record { any = whole_start }
