use Rattle.std.proofs.Common.{◌≡◌, sym, ap, ◌∙◌, Result, Ok, Err, IfOk}
use Rattle.rl_mem.specs.Places.{first_in}
use Rattle.rl_mem.proofs.Stores.{next_pair-at}
use Rattle.rl_mem.proofs.rows.pair_after.Goals as goal

IfOk-moved : {T U E : Type 0} (r : Result T E) (f : T → U) (x y : U) → x ≡ y → IfOk r (λ t. f t ≡ x) → IfOk r (λ t. f t ≡ y)
IfOk-moved (Ok t) f x y e h = h ∙ e
IfOk-moved (Err e) f x y p h = tt

-- the next pair is the first of those behind the place
pub returns : goal.returns
returns c =
    IfOk-moved c.first_pair.result _ _ _
    (ap (λ l. first_in c.args.area l) c.split_at.ensures.back ∙
    sym (next_pair-at c.next_of-at.result c.args.area c.args.key.now c.args.rows.now c.requires.store
    c.next_of-at.ensures.next))
    c.first_pair.ensures
