use Rattle.std.proofs.Common.{◌≡◌, ◌++◌, take}
use Rattle.line_fields.specs.Words.{joined_behind}
use Rattle.line_fields.proofs.words.push_each.Given as goal

-- as many are there as were passed
abbrev pub invariant-loop-part : goal.invariant-loop-part
invariant-loop-part l = l.out.items ≡ l.initial.out.items ++ joined_behind l.between (take l.part-index l.parts)
