use Rattle.std.proofs.Common.{◌≡◌, List, [], ◌∷◌, length, refl, ap, sym, ◌∙◌, arith}
use Rattle.std.specs.Vec.Iter.{into_iter_items}
use Rattle.rl_mem.proofs.Places.{first, second}
use Rattle.rl_mem.proofs.Stores.{is_store-item}
use Rattle.rl_mem.proofs.rows.do_items.Goals as goal

nothing_left : {X : Type 0} (l : List X) → length l ≡ 0 → l ≡ []
nothing_left [] h = refl
nothing_left (x ∷ xs) h = absurd (omega arith)

-- one item more is done, and the others are to come
pub loop-item-preserved : goal.loop-item-preserved
loop-item-preserved c =
    let at = c.loop-item in
    let x = c.in-Some.item in
    let steps : into_iter_items at.item-iterator ≡ x ∷ into_iter_items c.next.new.self = c.in-Some.ensures.steps.0 in
    let keys = rw steps at at.invariant.keys in
    let gone = c.in-Some.ensures.steps.1 in
    let short = ap length steps in
    record {
      whole = rw c.do_item.ensures.done (rw steps at at.invariant.whole);
      store = rw c.do_item.ensures.done (is_store-item x at.rows.items (first _ _ keys) at.invariant.store);
      keys = second _ _ keys;
      count = let was = at.invariant.count in omega arith;
      room = let was = at.invariant.room in omega (arith, c.do_item.ensures.size, c.do_item.ensures.room);
    }

-- no item is left
pub returns : goal.returns
returns c =
    let at = c.loop-item in
    let none = c.in-None.ensures.steps in
    let empty : into_iter_items at.item-iterator ≡ [] = nothing_left _ (sym at.invariant.count ∙ none.0) in
    record {
      done = rw c.into_iter-item-iterator.ensures.into_iter_gives.0 at (rw empty at at.invariant.whole);
      store = at.invariant.store;
    }
