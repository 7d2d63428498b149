use Rattle.std.proofs.Common.{◌≡◌, take}
use Rattle.eager_work.proofs.part.copied_parts.Given as goal

-- the copies equal what was passed
abbrev pub invariant-loop-part : goal.invariant-loop-part
invariant-loop-part l = l.copies.items ≡ take l.part-index l.parts.items
