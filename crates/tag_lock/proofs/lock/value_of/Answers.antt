use Rattle.std.proofs.Common.{◌≡◌, ◌≤◌, sym, ◌∙◌, subst}
use Rattle.std.specs.Prelude.{Some}
use mathlib.Core.Option.{some-injective}
use Rattle.std.specs.Slots.{slots_items}
use Rattle.tag_lock.specs.Token.{StandsFor}
use Rattle.tag_lock.proofs.Keeps.{ends}
use Rattle.tag_lock.proofs.lock.value_of.Goals as goal
use Rattle.tag_lock.proofs.lock.value_of.Goals.{After-take-slot}
use Rattle.tag_lock.proofs.lock.value_of.Given.{Over}

-- the slot has a value that stands for the tag, and its rank is not below what the seat saw
home : (g : Over) (c : After-take-slot g)
    → (x : g.row.V.Denot) × (c.take-slot.result ≡ Some x) ×
    StandsFor g.V.Tagged.stands c.args.seat.me.0.tag c.args.seat.me.0.start x × (c.args.seat.me.0.seen ≤ g.V.Tagged.height x)
home g c =
    let closed = c.close_with-closed.result in
    let seat = c.args.seat in
    let h = ends g.V.Tagged.stands g.V.Tagged.height seat.id seat.me.0 (slots_items closed.words) (slots_items closed.slots)
    c.requires.all c.requires.idle c.close_with-closed.ensures.values.2 in
    (h.0, some-injective c.take-slot.result (Some h.0) (sym c.take-slot.ensures.value ∙ h.1), h.2, h.3)

pub unreachable-requires : goal.unreachable-requires
unreachable-requires g c = let h = home g (goal.at.unreachable-requires g c).After-take-slot in c.in_default.not-Some h.0 h.1

pub returns-clause-stands : goal.returns-clause-stands
returns-clause-stands g c =
    let h = home g (goal.at.returns-clause-stands g c).After-take-slot in
    let same : h.0 ≡ c.in-Some.value = cc in
    subst (λ (x : g.row.V.Denot). StandsFor g.V.Tagged.stands c.args.seat.me.0.tag c.args.seat.me.0.start x) same h.2

pub returns-clause-not_below : goal.returns-clause-not_below
returns-clause-not_below g c =
    let h = home g (goal.at.returns-clause-not_below g c).After-take-slot in
    let same : h.0 ≡ c.in-Some.value = cc in
    subst (λ (x : g.row.V.Denot). c.args.seat.me.0.seen ≤ g.V.Tagged.height x) same h.3
