use Rattle.std.proofs.Common.{◌≡◌, ◌≤◌, ◌-◌, sym, arith}
use Rattle.preparers.specs.Pending.{pending}
use Rattle.preparers.proofs.Windows.{window-prepared, put-back}
use Rattle.preparers.proofs.window.Window.prepared.Goals as goal

pub invariant_of-self : goal.invariant_of-self
invariant_of-self c =
    let b : c.self.inside.first ≤ c.args.piece.rec = omega (arith, c.in-Some.ensures.0, c.from.ensures) in
    let a : c.in-Some.at ≡ c.args.piece.rec - c.self.inside.first = omega (arith, c.in-Some.ensures.1, c.from.ensures) in
    rw c.put_at.ensures.put (
      c.self.invariant.0,
      rw a (window-prepared (pending c.self.inside.first c.self.inside.slots.items)
          c.args.piece b c.self.invariant.1),
    )

pub returns-clause-prepared : goal.returns-clause-prepared
returns-clause-prepared c =
    let b : c.self.inside.first ≤ c.args.piece.rec = omega (arith, c.in-Some.ensures.0, c.from.ensures) in
    let a : c.in-Some.at ≡ c.args.piece.rec - c.self.inside.first = omega (arith, c.in-Some.ensures.1, c.from.ensures) in
    rw c.put_at.ensures.put (rw a (rw (sym c.self.view_is)
    (put-back (pending c.self.inside.first c.self.inside.slots.items) c.args.piece b)))
