use Rattle.script_words.proofs.WordLaws.{words_join}
use Rattle.script_words.proofs.laws.words_join_to_their_line.Goals as goal

pub returns : goal.returns
returns c = record { joined = words_join }
