use Rattle.std.proofs.Common.{◌≡◌, length, map}
use Rattle.rl_value.specs.Outcome.{all_of}
use Rattle.script_words.specs.Words.{with_front}
use Rattle.script.specs.Fields.{value_said}
use Rattle.script.proofs.fields.value_list.Given as goal

-- what is read, and what is still to be read, is what the words say
abbrev pub invariant-loop-rest : goal.invariant-loop-rest
invariant-loop-rest l = with_front l.values.items (all_of (map value_said l.rest)) ≡ all_of (map value_said l.words)

abbrev pub decreases-loop-rest : goal.decreases-loop-rest
decreases-loop-rest l = length l.rest
