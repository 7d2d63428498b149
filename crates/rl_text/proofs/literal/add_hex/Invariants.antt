use Rattle.std.proofs.Common.{◌≡◌, ◌++◌, take}
use Rattle.rl_value.specs.Literal.{hex}
use Rattle.rl_text.proofs.literal.add_hex.Given as goal

-- the bytes so far are there in hexadecimal
abbrev pub invariant-loop-byte : goal.invariant-loop-byte
invariant-loop-byte l = l.text ≡ l.fn.text ++ hex (take l.byte-index l.bytes)
