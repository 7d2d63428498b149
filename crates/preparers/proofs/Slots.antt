-- A fact of each slot and its number: at the end, at one index, behind the first slot.
use Rattle.std.proofs.Common.{◌≡◌, ℕ, zero, suc, ◌+◌, List, [], ◌∷◌, ◌++◌, length, drop, refl, arith}
use Rattle.std.specs.Prelude.{slice_get, slice_set, Some}
use Rattle.redo_wire.specs.declared.raw.Raw.{Raw}
use Rattle.preparers.specs.declared.piece.Piece.{Piece}
use Rattle.preparers.specs.declared.slot.Slot.{Slot}
use Rattle.preparers.specs.declared.slot.Slot.TheVariants as slots
use Rattle.preparers.specs.Ring.{raw_at_index}
use Rattle.preparers.specs.Pending.{Each, first_prepared}

-- one slot more
pub each-snoc : (P : ℕ → Slot → Type 0) (n m : ℕ) (xs : List Slot) (x : Slot) → m ≡ n + length xs → Each P n xs → P m x →
    Each P n (xs ++ x ∷ [])
each-snoc P n m [] x q e p = let h : n ≡ m = omega (arith, q) in (rw h p, tt)
each-snoc P n m (y ∷ ys) x q e p = (e.0, each-snoc P (n + 1) m ys x (omega (arith, q)) e.1 p)

-- another slot at this index
pub each-set : (P : ℕ → Slot → Type 0) (n m : ℕ) (xs : List Slot) (k : ℕ) (x : Slot) → m ≡ n + k → Each P n xs → P m x →
    Each P n (slice_set xs k x)
each-set P n m [] k x q e p = tt
each-set P n m (y ∷ ys) zero x q e p = let h : n ≡ m = omega (arith, q) in (rw h p, e.1)
each-set P n m (y ∷ ys) (suc k) x q e p = (e.0, each-set P (n + 1) m ys k x (omega (arith, q)) e.1 p)

-- without the first slot
pub each-tail : (P : ℕ → Slot → Type 0) (n : ℕ) (xs : List Slot) → Each P n xs → Each P (n + 1) (drop 1 xs)
each-tail P n [] e = tt
each-tail P n (y ∷ ys) e = e.1

-- the slot of a cut record
pub each-raw : (P : ℕ → Slot → Type 0) (n m : ℕ) (xs : List Slot) (k : ℕ) (raw : Raw) → m ≡ n + k → Each P n xs →
    raw_at_index xs k ≡ Some raw → P m (slots.Raw raw)
each-raw P n m [] k raw q e g = cc
each-raw P n m (slots.Raw r ∷ ys) zero raw q e g = let h : m ≡ n = omega (arith, q) in let s : raw ≡ r = cc in rw h (rw s e.0)
each-raw P n m (slots.Lent ∷ ys) zero raw q e g = cc
each-raw P n m (slots.Prepared p ∷ ys) zero raw q e g = cc
each-raw P n m (y ∷ ys) (suc k) raw q e g = each-raw P (n + 1) m ys k raw (omega (arith, q)) e.1 g

-- the piece that is drawn
pub each-first : (P : ℕ → Slot → Type 0) (n : ℕ) (xs : List Slot) (piece : Piece) → Each P n xs → first_prepared xs ≡ Some piece →
    P n (slots.Prepared piece)
each-first P n [] piece e g = cc
each-first P n (slots.Raw r ∷ ys) piece e g = cc
each-first P n (slots.Lent ∷ ys) piece e g = cc
each-first P n (slots.Prepared p ∷ ys) piece e g = let s : piece ≡ p = cc in rw s e.0

-- a slot that stays as it is
pub set-same : (xs : List Slot) (k : ℕ) (x : Slot) → slice_get xs k ≡ Some x → slice_set xs k x ≡ xs
set-same [] k x g = refl
set-same (y ∷ ys) zero x g = let s : x ≡ y = cc in rw s refl
set-same (y ∷ ys) (suc k) x g = let h = set-same ys k x g in rw h refl
