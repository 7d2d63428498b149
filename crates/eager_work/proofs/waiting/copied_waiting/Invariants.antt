use Rattle.std.proofs.Common.{◌≡◌, take}
use Rattle.eager_work.proofs.waiting.copied_waiting.Given as goal

-- the copies equal what was passed
abbrev pub invariant-loop-change : goal.invariant-loop-change
invariant-loop-change l = l.copies.items ≡ take l.change-index l.waiting.items
