-- Items that are read one behind the other, as a loop reads them.
use Rattle.std.proofs.Common.{◌≡◌, ℕ, suc, ◌-◌, ◌+◌, ◌≤◌, ◌<◌, List, [], ◌∷◌, ◌++◌, Ok, Err, refl, sym, ap, ◌∙◌, append_assoc, arith}
use Rattle.std.proofs.lemmas.List.{append-nil}
use Rattle.redo_vec.specs.declared.fault.DecodeFault.{DecodeFault}
use Rattle.redo_vec.specs.declared.fault.DecodeFault.TheVariants as faults
use Rattle.redo_vec.specs.Reading.{◌>>=◌, Read, items_from, with_front}
use Rattle.redo_vec.specs.Given.{Fails}

regroup : {A : Type 0} (front : List A) (x : A) (read : Read (List A)) →
    with_front front (read >>= λ y. Ok (x ∷ y.0, y.1)) ≡ with_front (front ++ x ∷ []) read
regroup front x (Ok y) = ap (λ (xs : List _). Ok (xs, y.1)) (simp append_assoc)
regroup front x (Err f) = refl

pub goes_on : {A : Type 0} (item : ℕ → List ℕ → Read A) (next : A → ℕ) (front : List A) (count i under : ℕ) (bytes : List ℕ)
    (x : A) (after : List ℕ) (total : Read (List A)) → i < count → item under bytes ≡ Ok (x, after)
    → with_front front (items_from item next (count - i) under bytes) ≡ total →
    with_front (front ++ x ∷ []) (items_from item next (count - (i + 1)) (next x) after) ≡ total
goes_on item next front count i under bytes x after total lt h so_far =
    let k : count - i ≡ suc (count - (i + 1)) = omega arith in
    let one : with_front front (items_from item next (count - i) under bytes) ≡
    with_front (front ++ x ∷ []) (items_from item next (count - (i + 1)) (next x) after) =
    rw (k, h) (regroup front x (items_from item next (count - (i + 1)) (next x) after)) in
    sym one ∙ so_far

pub ends : {A : Type 0} (item : ℕ → List ℕ → Read A) (next : A → ℕ) (e : DecodeFault) (front : List A) (count i under : ℕ)
    (bytes : List ℕ) (total : Read (List A)) → i < count → Fails e (item under bytes)
    → with_front front (items_from item next (count - i) under bytes) ≡ total → Fails e total
ends item next faults.Memory front count i under bytes total lt h so_far = tt
ends item next (faults.Vector f p) front count i under bytes total lt h so_far =
    let k : count - i ≡ suc (count - (i + 1)) = omega arith in
    let one : with_front front (items_from item next (count - i) under bytes) ≡ Err (record { fault = f; place = p }) =
    rw (k, h) refl in
    sym so_far ∙ one

pub is_done : {A : Type 0} (item : ℕ → List ℕ → Read A) (next : A → ℕ) (front : List A) (count i under : ℕ) (bytes : List ℕ)
    (total : Read (List A)) → count ≤ i
    → with_front front (items_from item next (count - i) under bytes) ≡ total → total ≡ Ok (front, bytes)
is_done item next front count i under bytes total le so_far =
    let k : count - i ≡ 0 = omega arith in
    let one : with_front front (items_from item next (count - i) under bytes) ≡ Ok (front, bytes) =
    rw k (ap (λ (xs : List _). Ok (xs, bytes)) (append-nil front)) in
    sym so_far ∙ one
