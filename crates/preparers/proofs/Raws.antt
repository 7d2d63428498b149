-- Which cut record is the first among the slots, and which the last.
use Rattle.std.proofs.Common.{◌≡◌, ℕ, zero, suc, ◌+◌, ◌-◌, ◌≤◌, ◌<◌, List, [], ◌∷◌, length, take, drop, get_or, refl, sym, ap, ◌∙◌, arith}
use Rattle.std.specs.Prelude.{slice_get, Option, Some, None, IfSome, is_some, All, false}
use Rattle.circular_buffer.specs.Buffer.{last_item}
use Rattle.redo_wire.specs.declared.raw.Raw.{Raw}
use Rattle.preparers.specs.declared.slot.Slot.{Slot}
use Rattle.preparers.specs.declared.slot.Slot.TheVariants as slots
use Rattle.preparers.specs.Ring.{raw_at_index}
use Rattle.preparers.specs.Pending.{Pending, Each, HasNumber, IsWindow, raws_of}
use Rattle.preparers.specs.Steps.{HoldsRawOf, IsWindowOf}
use Rattle.std.proofs.lemmas.Option.{get_or_from_slice_get, slice_get_within}

pub least-here : (xs : List Slot) (k : ℕ) (raw : Raw) → raw_at_index xs k ≡ Some raw → raws_of (take k xs) ≡ [] →
    slice_get (raws_of xs) 0 ≡ Some raw
least-here [] k raw g h = cc
least-here (slots.Raw r ∷ xs) zero raw g h = g
least-here (slots.Lent ∷ xs) zero raw g h = cc
least-here (slots.Prepared p ∷ xs) zero raw g h = cc
least-here (slots.Raw r ∷ xs) (suc k) raw g h = cc
least-here (slots.Lent ∷ xs) (suc k) raw g h = least-here xs k raw g h
least-here (slots.Prepared p ∷ xs) (suc k) raw g h = least-here xs k raw g h

last-cons : (r : Raw) (ys : List Raw) (raw : Raw) → last_item ys ≡ Some raw → last_item (r ∷ ys) ≡ Some raw
last-cons r [] raw h = cc
last-cons r (y ∷ ys) raw h = let e : length (r ∷ y ∷ ys) - 1 ≡ suc (length (y ∷ ys) - 1) = omega arith in rw e h

pub greatest-here : (xs : List Slot) (k : ℕ) (raw : Raw) → raw_at_index xs k ≡ Some raw → raws_of (drop (suc k) xs) ≡ [] →
    last_item (raws_of xs) ≡ Some raw
greatest-here [] k raw g h = cc
greatest-here (slots.Raw r ∷ xs) zero raw g h = rw h g
greatest-here (slots.Lent ∷ xs) zero raw g h = cc
greatest-here (slots.Prepared p ∷ xs) zero raw g h = cc
greatest-here (slots.Raw r ∷ xs) (suc k) raw g h = last-cons r (raws_of xs) raw (greatest-here xs k raw g h)
greatest-here (slots.Lent ∷ xs) (suc k) raw g h = greatest-here xs k raw g h
greatest-here (slots.Prepared p ∷ xs) (suc k) raw g h = greatest-here xs k raw g h

-- no cut record stands before the first number
above : (n : ℕ) (xs : List Slot) → Each HasNumber n xs → (k : ℕ) (d : Raw) → k < length (raws_of xs) →
    n ≤ (get_or (raws_of xs) k d).rec
above n [] e k d l = absurd (omega (arith, l))
above n (slots.Raw r ∷ xs) e zero d l = omega (arith, e.0)
above n (slots.Raw r ∷ xs) e (suc k) d l = omega (arith, above (n + 1) xs e.1 k d (omega (arith, l)))
above n (slots.Lent ∷ xs) e k d l = omega (arith, above (n + 1) xs e.1 k d l)
above n (slots.Prepared p ∷ xs) e k d l = omega (arith, above (n + 1) xs e.1 k d l)

-- the first cut record has the least number
pub least-of : (n : ℕ) (xs : List Slot) (raw : Raw) → Each HasNumber n xs → slice_get (raws_of xs) 0 ≡ Some raw →
    All (λ other. raw.rec ≤ other.rec) (raws_of xs)
least-of n [] raw e g k d l = cc
least-of n (slots.Raw r ∷ xs) raw e g k d l = let s : raw ≡ r = cc in rw s (rw e.0 (above n (slots.Raw r ∷ xs) e k d l))
least-of n (slots.Lent ∷ xs) raw e g k d l = least-of (n + 1) xs raw e.1 g k d l
least-of n (slots.Prepared p ∷ xs) raw e g k d l = least-of (n + 1) xs raw e.1 g k d l

last-above : (m : ℕ) (ys : List Raw) (raw : Raw) → ((k : ℕ) (d : Raw) → k < length ys → m ≤ (get_or ys k d).rec) →
    last_item ys ≡ Some raw → m ≤ raw.rec
last-above m [] raw a g = cc
last-above m (y ∷ []) raw a g = let s : raw ≡ y = cc in rw s (a 0 y (omega arith))
last-above m (y ∷ z ∷ ys) raw a g =
    let e : length (y ∷ z ∷ ys) - 1 ≡ suc (length (z ∷ ys) - 1) = omega arith in
    last-above m (z ∷ ys) raw (λ k d l. a (suc k) d (omega (arith, l))) (rw e at g)

-- the last of these is greatest, where the first is less than the others
last-greatest : (r : Raw) (ys : List Raw) (raw : Raw) → ((k : ℕ) (d : Raw) → k < length ys → r.rec ≤ (get_or ys k d).rec) →
    (last_item ys ≡ Some raw → All (λ other. other.rec ≤ raw.rec) ys) → last_item (r ∷ ys) ≡ Some raw →
    All (λ other. other.rec ≤ raw.rec) (r ∷ ys)
last-greatest r [] raw a f g zero d l = let s : raw ≡ r = cc in rw s (omega arith)
last-greatest r [] raw a f g (suc k) d l = absurd (omega (arith, l))
last-greatest r (y ∷ ys) raw a f g zero d l =
    let e : length (r ∷ y ∷ ys) - 1 ≡ suc (length (y ∷ ys) - 1) = omega arith in
    last-above r.rec (y ∷ ys) raw a (rw e at g)
last-greatest r (y ∷ ys) raw a f g (suc k) d l =
    let e : length (r ∷ y ∷ ys) - 1 ≡ suc (length (y ∷ ys) - 1) = omega arith in
    f (rw e at g) k d (omega (arith, l))

-- the last cut record has the greatest number
pub greatest-of : (n : ℕ) (xs : List Slot) (raw : Raw) → Each HasNumber n xs → last_item (raws_of xs) ≡ Some raw →
    All (λ other. other.rec ≤ raw.rec) (raws_of xs)
greatest-of n [] raw e g k d l = cc
greatest-of n (slots.Raw r ∷ xs) raw e g k d l =
    last-greatest r (raws_of xs) raw (λ i b m. omega (arith, e.0, above (n + 1) xs e.1 i b m))
    (λ h i b m. greatest-of (n + 1) xs raw e.1 h i b m) g k d l
greatest-of n (slots.Lent ∷ xs) raw e g k d l = greatest-of (n + 1) xs raw e.1 g k d l
greatest-of n (slots.Prepared p ∷ xs) raw e g k d l = greatest-of (n + 1) xs raw e.1 g k d l

-- ---- looking for the first one, and for the last

pub none-so-far : (xs : List Slot) (k : ℕ) → raws_of (take k xs) ≡ [] → is_some (raw_at_index xs k) ≡ false →
    raws_of (take (suc k) xs) ≡ []
none-so-far [] k h g = refl
none-so-far (slots.Raw r ∷ xs) zero h g = cc
none-so-far (slots.Lent ∷ xs) zero h g = refl
none-so-far (slots.Prepared p ∷ xs) zero h g = refl
none-so-far (slots.Raw r ∷ xs) (suc k) h g = cc
none-so-far (slots.Lent ∷ xs) (suc k) h g = none-so-far xs k h g
none-so-far (slots.Prepared p ∷ xs) (suc k) h g = none-so-far xs k h g

pub none-behind : (xs : List Slot) (k : ℕ) → raws_of (drop (suc k) xs) ≡ [] → is_some (raw_at_index xs k) ≡ false →
    raws_of (drop k xs) ≡ []
none-behind [] zero h g = refl
none-behind [] (suc k) h g = refl
none-behind (slots.Raw r ∷ xs) zero h g = cc
none-behind (slots.Lent ∷ xs) zero h g = h
none-behind (slots.Prepared p ∷ xs) zero h g = h
none-behind (x ∷ xs) (suc k) h g = none-behind xs k h g

-- ---- the records that a window stands for

among : (raws : ℕ → Raw) (n : ℕ) (xs : List Slot) → Each HasNumber n xs → Each (HoldsRawOf raws) n xs →
    All (λ raw. raw ≡ raws raw.rec) (raws_of xs)
among raws n [] e f k d l = absurd (omega (arith, l))
among raws n (slots.Raw r ∷ xs) e f zero d l = f.0 ∙ ap raws (sym e.0)
among raws n (slots.Raw r ∷ xs) e f (suc k) d l = among raws (n + 1) xs e.1 f.1 k d (omega (arith, l))
among raws n (slots.Lent ∷ xs) e f k d l = among raws (n + 1) xs e.1 f.1 k d l
among raws n (slots.Prepared p ∷ xs) e f k d l = among raws (n + 1) xs e.1 f.1 k d l

at-one : (P : Raw → Type 0) (ys : List Raw) (j : ℕ) (raw : Raw) → All P ys → slice_get ys j ≡ Some raw → P raw
at-one P ys j raw a g = rw (sym (get_or_from_slice_get ys j raw raw g)) (a j raw (slice_get_within ys j raw g))

-- a cut record of a window is the one of its number
pub is-of : (raws : ℕ → Raw) (w : Pending) (j : ℕ) (o : Option Raw) → IsWindow w → IsWindowOf raws w →
    slice_get (raws_of w.slots) j ≡ o → IfSome o (λ raw. raw ≡ raws raw.rec)
is-of raws w j None i f g = tt
is-of raws w j (Some raw) i f g = at-one (λ raw. raw ≡ raws raw.rec) (raws_of w.slots) j raw
    (among raws w.first w.slots i.numbered f) g
