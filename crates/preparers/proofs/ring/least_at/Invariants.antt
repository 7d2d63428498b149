use Rattle.std.proofs.Common.{◌≡◌, [], take}
use Rattle.preparers.specs.Pending.{raws_of}
use Rattle.preparers.proofs.ring.least_at.Given as goal

-- no cut record stands before this index
abbrev pub invariant-loop-at : goal.invariant-loop-at
invariant-loop-at l = raws_of (take l.at l.slots.items) ≡ []
