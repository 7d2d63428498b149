use Rattle.std.proofs.Common.{◌≡◌, ◌++◌, length}
use Rattle.line_fields.specs.Words.{split_from, split}
use Rattle.line_fields.proofs.words.split.Given as goal

-- the parts that are whole, and those that the rest gives behind the part that has begun
abbrev pub invariant-loop-rest : goal.invariant-loop-rest
invariant-loop-rest l = l.parts.items ++ split_from l.between l.inside l.part.items l.rest ≡ split l.between l.bytes

abbrev pub decreases-loop-rest : goal.decreases-loop-rest
decreases-loop-rest l = length l.rest
