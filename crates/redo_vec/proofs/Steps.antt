-- What a reading that ended well has passed: its steps, its tests, its items.
use Rattle.std.proofs.Common.{◌≡◌, ℕ, zero, suc, Bool, true, false, cond, List, [], ◌∷◌, length, Result, Ok, Err, refl, ap, subst, inl, inr}
use Rattle.std.specs.Prelude.{◌||◌, ◌⊎◌}
use Rattle.redo_vec.specs.Reading.{◌>>=◌, Fault, Read, items_from}

-- the value of a step that did not fail
pub bind_ok : {A B : Type 0} (r : Result A Fault) (f : A → Result B Fault) (y : B) → (r >>= f) ≡ Ok y → (x : A) ×
    (r ≡ Ok x) × (f x ≡ Ok y)
bind_ok (Ok x) f y e = (x, refl, e)
bind_ok (Err d) f y e = absurd cc

-- a test that did not refuse
pub passed : {A : Type 0} (b : Bool) (f : Fault) (r : Result A Fault) (y : A) → cond b (Err f) r ≡ Ok y → (b ≡ false) × (r ≡ Ok y)
passed true f r y e = absurd cc
passed false f r y e = (refl, e)

-- a test that had to hold
pub held : {A : Type 0} (b : Bool) (f : Fault) (r : Result A Fault) (y : A) → cond b r (Err f) ≡ Ok y → (b ≡ true) × (r ≡ Ok y)
held true f r y e = (refl, e)
held false f r y e = absurd cc

-- which way a test went
pub chosen : {A : Type 0} (b : Bool) (x y z : A) → cond b x y ≡ z → ((b ≡ true) × (x ≡ z)) ⊎ ((b ≡ false) × (y ≡ z))
chosen true x y z e = inl (refl, e)
chosen false x y z e = inr (refl, e)

abbrev done : {A : Type 0} → A → Result A Fault
done x = Ok x

pub ok_is : {A : Type 0} (x y : A) → done x ≡ done y → x ≡ y
ok_is x y e = cc

pub neither : (a b : Bool) → (a || b) ≡ false → (a ≡ false) × (b ≡ false)
neither true b e = absurd cc
neither false b e = (refl, e)

-- each item has this under the number that the one before tells
abbrev pub Chain : {A : Type 0} → (ℕ → A → Type 0) → (A → ℕ) → ℕ → List A → Type 0
Chain P next under [] = Unit {0}
Chain P next under (x ∷ xs) = P under x × Chain P next (next x) xs

pub items_have : {A : Type 0} (item : ℕ → List ℕ → Read A) (next : A → ℕ) (P : ℕ → A → Type 0) →
    ((under : ℕ) (bytes : List ℕ) (x : A × List ℕ) → item under bytes ≡ Ok x → P under x.0)
    → (count under : ℕ) (bytes : List ℕ) (x : List A × List ℕ) → items_from item next count under bytes ≡ Ok x →
    Chain P next under x.0 × (length x.0 ≡ count)
items_have item next P each zero under bytes x e = subst (λ (y : List _ × List ℕ). Chain P next under y.0 × (length y.0 ≡ 0))
    (ok_is ([], bytes) x e) (tt, refl)
items_have item next P each (suc count) under bytes x e =
    let a = bind_ok (item under bytes) (λ first. items_from item next count (next first.0) first.1 >>=
    λ more. Ok (first.0 ∷ more.0, more.1)) x e in
    let b = bind_ok (items_from item next count (next a.0.0) a.0.1) (λ more. Ok (a.0.0 ∷ more.0, more.1)) x a.2 in
    let rest = items_have item next P each count (next a.0.0) a.0.1 b.0 b.1 in
    subst (λ (y : List _ × List ℕ). Chain P next under y.0 × (length y.0 ≡ suc count)) (ok_is (a.0.0 ∷ b.0.0, b.0.1) x b.2)
    ((each under bytes a.0 a.1, rest.0), ap suc rest.1)
