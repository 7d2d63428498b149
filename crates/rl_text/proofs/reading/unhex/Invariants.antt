use Rattle.std.proofs.Common.{◌≡◌, length}
use Rattle.rl_value.specs.LiteralValue.{unhexed}
use Rattle.rl_text.specs.Reading.{with_read}
use Rattle.rl_text.proofs.reading.unhex.Given as goal

-- what is read, and what is still to be read, is what is spelled
abbrev pub invariant-loop-rest : goal.invariant-loop-rest
invariant-loop-rest l = with_read l.read.items (unhexed l.rest) ≡ unhexed l.bytes

abbrev pub decreases-loop-rest : goal.decreases-loop-rest
decreases-loop-rest l = length l.rest
