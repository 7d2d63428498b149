use Rattle.std.proofs.Common.{refl}
use Rattle.rl_base.proofs.EventLaws.{numbered-noted}
use Rattle.rl_base.proofs.events.Events.note.Goals as goal

-- one event more keeps the numbers in order
pub invariant_of-self : goal.invariant_of-self
invariant_of-self c = rw c.push_back.ensures.items (rw c.self.invariant.0
    (rw c.saturating_add-self-inside.ensures (
      refl,
      numbered-noted c.self.inside.count c.args.line c.self.inside.ring.items
          c.self.invariant.1,
    )))
