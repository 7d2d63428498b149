use Rattle.std.proofs.Common.{arith}
use Rattle.query_sessions.proofs.LineForms.{decimal_is_line}
use Rattle.query_sessions.proofs.lines.put_decimal.Goals as goal

-- digits end no line
pub extend-requires : goal.extend-requires
extend-requires c = record { inside = rw (c.as_bytes.ensures.value, c.in-Ok.ensures.ok) (decimal_is_line _ (omega arith)) }
