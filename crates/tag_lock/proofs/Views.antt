-- Lists of views: their parts, what holds of each, and which of them is holding.
use Rattle.std.proofs.Common.{◌≡◌, ◌≢◌, ℕ, zero, suc, ◌+◌, ◌<◌, ◌≤◌, Bool, true, false, List, [], ◌∷◌, ◌++◌, length, set, refl, sym, ap, ◌∙◌, subst, ⊎_elim, true≢false, arith}
use mathlib.Core.Option.{some, some-injective, some-ne-none}
use native.Mathlib.Decide.{ℕ_discrete}
use mathlib.Core.Logic.{dite}
use lib.ListN.{get_elem?}
use Rattle.atomic_table.proofs.Lists.{at_set, at_snoc, at_longer, set_here, set_else}
use Rattle.tag_lock.specs.declared.rule.Known.{Known}
use Rattle.tag_lock.specs.Rule.{parts_of}

pub not_true : (b : Bool) → (b ≡ true → ⊥) → b ≡ false
not_true true never = absurd (never refl)
not_true false never = refl

pub inside : {A : Type 0} (l : List A) (i : ℕ) (a : A) → get_elem? l i ≡ some a → i < length l
inside [] i a e = absurd (some-ne-none a (sym e))
inside (x ∷ xs) zero a e = omega arith
inside (x ∷ xs) (suc i) a e = let below = inside xs i a e in omega arith

module _ {T : Type 0} where
  -- a view is written over
  pub parts_set : (vs : List (Known T)) (j : ℕ) (v w : Known T) → get_elem? vs j ≡ some v →
      parts_of (set vs j w) + v.parts ≡ parts_of vs + w.parts
  parts_set [] j v w e = absurd (some-ne-none v (sym e))
  parts_set (u ∷ us) zero v w e = let same : u.parts ≡ v.parts =
      ap (λ (x : Known T). x.parts) (some-injective u v e) in omega arith
  parts_set (u ∷ us) (suc j) v w e = let later = parts_set us j v w e in omega arith

  -- a view is added
  pub parts_more : (vs : List (Known T)) (w : Known T) → parts_of (vs ++ w ∷ []) ≡ parts_of vs + w.parts
  parts_more [] w = omega arith
  parts_more (u ∷ us) w = let later = parts_more us w in omega arith

  pub parts_at : (vs : List (Known T)) (j : ℕ) (v : Known T) → get_elem? vs j ≡ some v → v.parts ≤ parts_of vs
  parts_at [] j v e = absurd (some-ne-none v (sym e))
  parts_at (u ∷ us) zero v e = let same : u.parts ≡ v.parts = ap (λ (x : Known T). x.parts) (some-injective u v e) in omega arith
  parts_at (u ∷ us) (suc j) v e = let later = parts_at us j v e in omega arith

  -- two views have no more parts than all
  pub parts_two : (vs : List (Known T)) (i j : ℕ) (v w : Known T) → i ≢ j → get_elem? vs i ≡ some v → get_elem? vs j ≡ some w →
      v.parts + w.parts ≤ parts_of vs
  parts_two [] i j v w apart e f = absurd (some-ne-none v (sym e))
  parts_two (u ∷ us) zero zero v w apart e f = absurd (apart refl)
  parts_two (u ∷ us) zero (suc j) v w apart e f =
      let same : u.parts ≡ v.parts = ap (λ (x : Known T). x.parts) (some-injective u v e) in
      let later = parts_at us j w f in
      omega arith
  parts_two (u ∷ us) (suc i) zero v w apart e f =
      let same : u.parts ≡ w.parts = ap (λ (x : Known T). x.parts) (some-injective u w f) in
      let later = parts_at us i v e in
      omega arith
  parts_two (u ∷ us) (suc i) (suc j) v w apart e f = let later =
      parts_two us i j v w (λ same. apart (ap suc same)) e f in omega arith

  -- what holds of the view that was written, and of each other one, holds of each
  pub each_set : (P : ℕ → Known T → Type 0) (vs : List (Known T)) (id : ℕ) (w : Known T) → P id w →
      ((j : ℕ) (v : Known T) → j ≢ id → get_elem? vs j ≡ some v → P j v)
      → (j : ℕ) (v : Known T) → get_elem? (set vs id w) j ≡ some v → P j v
  each_set P vs id w mine others j v e =
      ⊎_elim
      (λ (t : (j ≡ id) × (w ≡ v)). subst (λ (x : ℕ × Known T). P x.0 x.1) (λ i. (sym t.0 i, t.1 i)) mine)
      (λ (t : (j ≢ id) × (get_elem? vs j ≡ some v)). others j v t.0 t.1)
      (at_set vs id j w v e)

  pub each_more : (P : ℕ → Known T → Type 0) (vs : List (Known T)) (w : Known T) → ((j : ℕ) → P j w) →
      ((j : ℕ) (v : Known T) → get_elem? vs j ≡ some v → P j v)
      → (j : ℕ) (v : Known T) → get_elem? (vs ++ w ∷ []) j ≡ some v → P j v
  each_more P vs w mine others j v e =
      ⊎_elim (λ (was : get_elem? vs j ≡ some v). others j v was) (λ (same : w ≡ v). subst (P j) same (mine j))
      (at_snoc vs w v j e)

  -- the same seats are holding, before and after
  pub record StaysHeld (before after : List (Known T)) : Type 0 where
    pub back : (j : ℕ) (v : Known T) → get_elem? after j ≡ some v → v.holding ≡ true → (u : Known T) ×
        (get_elem? before j ≡ some u) × (u.holding ≡ true)
    pub forth : (j : ℕ) (v : Known T) → get_elem? before j ≡ some v → v.holding ≡ true → (u : Known T) ×
        (get_elem? after j ≡ some u) × (u.holding ≡ true)

  pub held_through : (a b c : List (Known T)) → StaysHeld a b → StaysHeld b c → StaysHeld a c
  held_through a b c f g = record {
    back = λ j v e holds. let t = g.back j v e holds in f.back j t.0 t.1 t.2;
    forth = λ j v e holds. let t = f.forth j v e holds in g.forth j t.0 t.1 t.2;
  }

  pub held_set : (vs : List (Known T)) (id : ℕ) (v w : Known T) → get_elem? vs id ≡ some v → w.holding ≡ v.holding →
      StaysHeld vs (set vs id w)
  held_set vs id v w at same = record {
    back =
        each_set
        (λ j x. x.holding ≡ true → (u : Known T) × (get_elem? vs j ≡ some u) × (u.holding ≡ true))
        vs
        id
        w
        (λ holds. (v, at, sym same ∙ holds))
        (λ j x apart e holds. (x, e, holds));
    forth = λ j x e holds.
        dite
        (ℕ_discrete j id)
        (λ is.
        let this : v ≡ x = some-injective v x (sym at ∙ (ap (get_elem? vs) (sym is) ∙ e)) in (
          w,
          ap (get_elem? (set vs id w)) is ∙ set_here vs id w (inside vs id v at),
          same ∙ (ap (λ (y : Known T). y.holding) this ∙ holds),
        ))
        (λ apart. (x, set_else vs id j w apart ∙ e, holds));
  }

  pub held_more : (vs : List (Known T)) (w : Known T) → w.holding ≡ false → StaysHeld vs (vs ++ w ∷ [])
  held_more vs w idle = record {
    back =
        each_more
        (λ j x. x.holding ≡ true → (u : Known T) × (get_elem? vs j ≡ some u) × (u.holding ≡ true))
        vs
        w
        (λ j holds. absurd (true≢false (sym holds ∙ idle)))
        (λ j x e holds. (x, e, holds));
    forth = λ j x e holds. (x, at_longer vs (w ∷ []) j x e, holds);
  }
