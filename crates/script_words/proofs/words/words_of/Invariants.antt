use Rattle.std.proofs.Common.{◌≡◌, length}
use Rattle.script_words.specs.Words.{words_from, words_of, with_front}
use Rattle.script_words.proofs.words.words_of.Given as goal

-- the words that have ended, and those that the rest gives behind the word that has begun
abbrev pub invariant-loop-rest : goal.invariant-loop-rest
invariant-loop-rest l = with_front l.words.items (words_from l.place l.word.items l.rest) ≡ words_of l.line

abbrev pub decreases-loop-rest : goal.decreases-loop-rest
decreases-loop-rest l = length l.rest
