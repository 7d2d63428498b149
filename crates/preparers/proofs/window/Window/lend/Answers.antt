use Rattle.std.proofs.Common.{sym, ◌∙◌}
use Rattle.preparers.specs.Pending.{pending}
use Rattle.preparers.proofs.Windows.{window-lent, is-lent, is-least, least-is-least, is-whole}
use Rattle.preparers.proofs.window.Window.lend.Goals as goal

pub invariant_of-self : goal.invariant_of-self
invariant_of-self c = rw c.lend_at.ensures.lent (
  c.self.invariant.0,
  window-lent (pending c.self.inside.first c.self.inside.slots.items) c.in_ok-at.at c.in_ok-at.ensures.found.0
      c.self.invariant.1,
)

pub returns-clause-exact : goal.returns-clause-exact
returns-clause-exact c = rw c.lend_at.ensures.raw (rw (sym c.self.view_is)
    (is-least (pending c.self.inside.first c.self.inside.slots.items) c.in_ok-at.at c.in_ok-at.ensures.found.0
    c.in_ok-at.ensures.found.1))

pub returns-clause-lent : goal.returns-clause-lent
returns-clause-lent c = rw c.lend_at.ensures.lent (rw c.lend_at.ensures.raw
    (rw (sym c.self.view_is) (is-lent (pending c.self.inside.first c.self.inside.slots.items) c.in_ok-at.at
    c.in_ok-at.ensures.found.0 c.self.invariant.1)))

pub returns-clause-least : goal.returns-clause-least
returns-clause-least c = rw (sym c.self.view_is) (least-is-least (pending c.self.inside.first c.self.inside.slots.items)
    c.lend_at.result c.self.invariant.1 (c.lend_at.ensures.raw ∙
    is-least (pending c.self.inside.first c.self.inside.slots.items) c.in_ok-at.at c.in_ok-at.ensures.found.0
    c.in_ok-at.ensures.found.1))

pub returns-clause-whole : goal.returns-clause-whole
returns-clause-whole c = is-whole (pending c.self.inside.first c.self.inside.slots.items) c.in_ok-at.at c.lend_at.result
    c.self.invariant.1 (sym c.lend_at.ensures.raw)
