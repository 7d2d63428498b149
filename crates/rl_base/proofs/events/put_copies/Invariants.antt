use Rattle.std.proofs.Common.{◌≡◌, ◌++◌, take}
use Rattle.circular_buffer.specs.Buffer.{buffer}
use Rattle.rl_base.proofs.events.put_copies.Given as goal

-- the events so far are put, and the ring keeps its room
abbrev pub invariant-loop-event : goal.invariant-loop-event
invariant-loop-event l = l.ring ≡ buffer (l.initial.ring.items ++ take l.event-index l.events) l.initial.ring.capacity
