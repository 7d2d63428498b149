use Rattle.std.proofs.Common.{sym, ◌∙◌}
use Rattle.preparers.specs.Pending.{pending}
use Rattle.preparers.proofs.Windows.{window-lent, is-lent, is-greatest, greatest-is-greatest, is-whole}
use Rattle.preparers.proofs.window.Window.lend_last.Goals as goal

pub invariant_of-self : goal.invariant_of-self
invariant_of-self c = rw c.lend_at.ensures.lent (
  c.self.invariant.0,
  window-lent (pending c.self.inside.first c.self.inside.slots.items) c.in_ok-at.at c.in_ok-at.ensures.found.0
      c.self.invariant.1,
)

pub returns-clause-exact : goal.returns-clause-exact
returns-clause-exact c = rw c.lend_at.ensures.raw (rw (sym c.self.view_is)
    (is-greatest (pending c.self.inside.first c.self.inside.slots.items) c.in_ok-at.at c.in_ok-at.ensures.found.0
    c.in_ok-at.ensures.found.1))

pub returns-clause-lent : goal.returns-clause-lent
returns-clause-lent c = rw c.lend_at.ensures.lent (rw c.lend_at.ensures.raw
    (rw (sym c.self.view_is) (is-lent (pending c.self.inside.first c.self.inside.slots.items) c.in_ok-at.at
    c.in_ok-at.ensures.found.0 c.self.invariant.1)))

pub returns-clause-greatest : goal.returns-clause-greatest
returns-clause-greatest c = rw (sym c.self.view_is) (greatest-is-greatest (pending c.self.inside.first c.self.inside.slots.items)
    c.lend_at.result c.self.invariant.1 (c.lend_at.ensures.raw ∙
    is-greatest (pending c.self.inside.first c.self.inside.slots.items) c.in_ok-at.at c.in_ok-at.ensures.found.0
    c.in_ok-at.ensures.found.1))

pub returns-clause-whole : goal.returns-clause-whole
returns-clause-whole c = is-whole (pending c.self.inside.first c.self.inside.slots.items) c.in_ok-at.at c.lend_at.result
    c.self.invariant.1 (sym c.lend_at.ensures.raw)
