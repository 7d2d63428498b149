-- Where an entry with a key stands in a list in order, or would stand: behind all whose keys are less.
use Rattle.std.specs.Prelude.{◌≡◌, ℕ, suc, zero, List, [], ◌∷◌, Bool, true, false, ⊤, ◌==◌, if◌then◌else◌, Option, Some, None}
use Rattle.std.specs.declared.cmp.Ordering.{Ordering}
use Rattle.std.specs.declared.cmp.Ordering.TheVariants.{Less, Greater}
use Rattle.std.specs.Ordering.{is_lt}
use Rattle.rl_ports.specs.Store.{Store}

-- the keys before this index are less than k, and the one there is not
abbrev pub IsSpot : {K X : Type 0} → (K → K → Ordering) → ℕ → K → List (K × X) → Type 0
IsSpot R zero k [] = ⊤
IsSpot R zero k (e ∷ es) = is_lt (R e.0 k) ≡ false
IsSpot R (suc i) k [] = ⊥
IsSpot R (suc i) k (e ∷ es) = (R k e.0 ≡ Greater) × IsSpot R i k es

-- the keys before this index are less than k, and those from there on are greater
abbrev pub IsFree : {K X : Type 0} → (K → K → Ordering) → ℕ → K → List (K × X) → Type 0
IsFree R zero k [] = ⊤
IsFree R zero k (e ∷ es) = R k e.0 ≡ Less
IsFree R (suc i) k [] = ⊥
IsFree R (suc i) k (e ∷ es) = (R k e.0 ≡ Greater) × IsFree R i k es

-- the keys before this index are not greater than k, and the one there is
abbrev pub IsNext : {K X : Type 0} → (K → K → Ordering) → ℕ → K → List (K × X) → Type 0
IsNext R zero k [] = ⊤
IsNext R zero k (e ∷ es) = is_lt (R k e.0) ≡ true
IsNext R (suc i) k [] = ⊥
IsNext R (suc i) k (e ∷ es) = (is_lt (R k e.0) ≡ false) × IsNext R i k es

-- the first of these, if there is one, passes the test
abbrev pub first_is : {X : Type 0} → (X → Bool) → List X → Bool
first_is test [] = false
first_is test (x ∷ xs) = test x

-- the first of these pairs, if it lies in the area
abbrev pub first_in : ℕ → Store → Option ((ℕ × List ℕ) × List ℕ)
first_in area [] = None
first_in area (e ∷ es) = if e.0.0 == area then Some e else None
