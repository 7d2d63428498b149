use Rattle.std.proofs.Common.{◌≡◌, ◌++◌, take}
use Rattle.rl_value.specs.Literal.{hex}
use Rattle.sql_text.proofs.expression.push_hex.Given as goal

-- the bytes so far are there in hexadecimal
abbrev pub invariant-loop-byte : goal.invariant-loop-byte
invariant-loop-byte l = l.out.items ≡ l.fn.out.items ++ hex (take l.byte-index l.bytes)
