use Rattle.std.proofs.Common.{◌≡◌, ◌≤◌, [], drop, length}
use Rattle.preparers.specs.Pending.{raws_of}
use Rattle.preparers.proofs.ring.greatest_at.Given as goal

-- no cut record stands from here on
abbrev pub invariant-loop-end : goal.invariant-loop-end
invariant-loop-end l = (l.end ≤ length l.slots.items) × (raws_of (drop l.end l.slots.items) ≡ [])

abbrev pub decreases-loop-end : goal.decreases-loop-end
decreases-loop-end l = l.end
