use Rattle.std.proofs.Common.{◌≡◌, ◌++◌, take}
use Rattle.circular_buffer.specs.Buffer.{buffer}
use Rattle.preparers.proofs.ring.put_copies.Given as goal

-- the slots so far are put, and the ring keeps its room
abbrev pub invariant-loop-slot : goal.invariant-loop-slot
invariant-loop-slot l = l.slots ≡ buffer (l.initial.slots.items ++ take l.slot-index l.from) l.initial.slots.capacity
