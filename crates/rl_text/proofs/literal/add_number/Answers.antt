use Rattle.std.proofs.Common.{arith}
use Rattle.rl_text.proofs.Texts.{line-decimal}
use Rattle.rl_text.proofs.literal.add_number.Goals as goal

-- digits hold no line end
pub extend-requires : goal.extend-requires
extend-requires c = record { inside = rw (c.as_bytes.ensures.value, c.in-Ok.ensures.ok) (line-decimal _ (omega arith)) }
