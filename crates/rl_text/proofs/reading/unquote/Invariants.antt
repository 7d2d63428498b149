use Rattle.std.proofs.Common.{◌≡◌, length, false}
use Rattle.rl_value.specs.LiteralValue.{unquoted}
use Rattle.rl_text.specs.Reading.{with_read}
use Rattle.rl_text.proofs.reading.unquote.Given as goal

-- what is read, and what is still to be read, is what stands between the quotes
abbrev pub invariant-loop-rest : goal.invariant-loop-rest
invariant-loop-rest l = with_read l.read.items (unquoted l.half l.rest) ≡ unquoted false l.bytes

abbrev pub decreases-loop-rest : goal.decreases-loop-rest
decreases-loop-rest l = length l.rest
