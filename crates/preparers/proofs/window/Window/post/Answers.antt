use Rattle.std.proofs.Common.{rules, ◌≡◌, ◌+◌, ◌<◌, ◌≤◌, ◌++◌, ◌∷◌, [], length, arith, length-append}
use Rattle.preparers.specs.declared.slot.Slot.TheVariants as slots
use Rattle.preparers.proofs.Windows.{has-room, kept-whole, window-posted}
use Rattle.preparers.proofs.window.Window.post.Goals as goal

pub invariant_of-self : goal.invariant_of-self
invariant_of-self c =
    let xs = c.self.inside.slots.items in
    let full = c.self.inside.slots.capacity in
    let n : length xs ≤ full = omega (arith, c.len.ensures.len, c.len.ensures.within.0) in
    let room : length xs < full = has-room (length xs) full n c.if-is_full.ensures in
    let e : length (xs ++ slots.Raw c.args.raw ∷ []) ≡ length xs + 1 = length-append xs (slots.Raw c.args.raw ∷ []) in
    rw c.push_back.ensures.items (
      c.self.invariant.0,
      rw (kept-whole full (xs ++ slots.Raw c.args.raw ∷ []) (omega (arith, e, room)))
          (window-posted c.self.inside.first xs c.args.raw c.self.invariant.1
          (omega (arith, c.from.ensures, c.if-from-self.false, c.len.ensures.len)) (search rules)
          (omega (arith, room, c.self.invariant.0)) c.requires.whole),
    )
