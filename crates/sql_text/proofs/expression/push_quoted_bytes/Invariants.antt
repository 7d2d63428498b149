use Rattle.std.proofs.Common.{◌≡◌, ◌++◌, take}
use Rattle.std.specs.List.{flat_map}
use Rattle.rl_value.specs.Literal.{quoted_byte}
use Rattle.sql_text.proofs.expression.push_quoted_bytes.Given as goal

-- the bytes so far are there, a quote among them twice
abbrev pub invariant-loop-byte : goal.invariant-loop-byte
invariant-loop-byte l = l.out.items ≡ l.fn.out.items ++ flat_map quoted_byte (take l.byte-index l.bytes)
