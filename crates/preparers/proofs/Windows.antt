-- What each call of a window answers and leaves.
use Rattle.std.proofs.Common.{◌≡◌, ℕ, zero, suc, ◌+◌, ◌-◌, ◌≤◌, ◌<◌, ◌^◌, List, [], ◌∷◌, ◌++◌, length, take, drop, Bool, true, false, refl, sym, ◌∙◌, arith, length-append}
use Rattle.std.specs.Prelude.{slice_get, slice_set, Option, Some, None, Ok, is_some, IsTrue, IfSome, All, ◌==◌, nat_le, if◌then◌else◌}
use Rattle.std.proofs.lemmas.Bool.Decides.{nat_tests}
use Rattle.circular_buffer.specs.Buffer.{keep_last}
use Rattle.redo_vec.specs.Cutting.{first_record}
use Rattle.redo_wire.specs.declared.raw.Raw.{Raw}
use Rattle.preparers.specs.declared.piece.Piece.{Piece}
use Rattle.preparers.specs.declared.slot.Slot.{Slot}
use Rattle.preparers.specs.declared.slot.Slot.TheVariants as slots
use Rattle.preparers.specs.Ring.{raw_of, raw_at_index, lent_from, lent_at, is_lent_of, is_lent_at, prepared_from, prepared_at}
use Rattle.preparers.specs.Pending.{Pending, pending, HasNumber, IsWhole, IsWindow, raws_of, least_raw, greatest_raw, after_lend, is_lent, with_slot, after_prepared, first_prepared}
use Rattle.preparers.proofs.Raws.{least-here, greatest-here, least-of, greatest-of}
use Rattle.preparers.proofs.Slots.{each-snoc, each-set, each-raw, set-same}

-- ---- lending

lent-of : (o : Option Slot) (xs : List Slot) (k : ℕ) (raw : Raw) → raw_of o ≡ Some raw →
    lent_from o xs k ≡ slice_set xs k slots.Lent
lent-of None xs k raw g = cc
lent-of (Some (slots.Raw r)) xs k raw g = refl
lent-of (Some slots.Lent) xs k raw g = cc
lent-of (Some (slots.Prepared p)) xs k raw g = cc

length-set-slot : (xs : List Slot) (k : ℕ) (x : Slot) → length (slice_set xs k x) ≡ length xs
length-set-slot [] k x = refl
length-set-slot (y ∷ ys) zero x = refl
length-set-slot (y ∷ ys) (suc k) x = omega (arith, length-set-slot ys k x)

window-set : (w : Pending) (m k : ℕ) (x : Slot) → m ≡ w.first + k → IsWindow w → HasNumber m x → IsWhole m x →
    IsWindow (pending w.first (slice_set w.slots k x))
window-set w m k x q i n h =
    record {
      few = rw (length-set-slot w.slots k x) i.few;
      numbered = each-set HasNumber w.first m w.slots k x q i.numbered n;
      whole = each-set IsWhole w.first m w.slots k x q i.whole h;
      fits = rw (length-set-slot w.slots k x) i.fits;
    }

-- the slots once the cut record at this index is given away are those in which its number is lent
pub lends : (w : Pending) (k : ℕ) (raw : Raw) → IsWindow w → raw_at_index w.slots k ≡ Some raw →
    pending w.first (lent_at w.slots k) ≡ after_lend (Some raw) w
lends w k raw i g =
    let n : raw.rec - w.first ≡ k = omega (arith, each-raw HasNumber w.first (w.first + k) w.slots k raw refl i.numbered g) in
    rw n (rw (lent-of (slice_get w.slots k) w.slots k raw g) refl)

some-of : (o : Option Raw) → IsTrue (is_some o) → (raw : Raw) × (o ≡ Some raw)
some-of None s = absurd cc
some-of (Some raw) s = (raw, refl)

pub window-lent : (w : Pending) (k : ℕ) → IsTrue (is_some (raw_at_index w.slots k)) → IsWindow w →
    IsWindow (pending w.first (lent_at w.slots k))
window-lent w k s i =
    let p = some-of (raw_at_index w.slots k) s in
    rw (lent-of (slice_get w.slots k) w.slots k p.0 p.1) (window-set w (w.first + k) k slots.Lent refl i tt tt)

pub is-lent : (w : Pending) (k : ℕ) → IsTrue (is_some (raw_at_index w.slots k)) → IsWindow w →
    pending w.first (lent_at w.slots k) ≡ after_lend (raw_at_index w.slots k) w
is-lent w k s i = let p = some-of (raw_at_index w.slots k) s in rw p.1 (lends w k p.0 i p.1)

pub is-least : (w : Pending) (k : ℕ) → IsTrue (is_some (raw_at_index w.slots k)) → raws_of (take k w.slots) ≡ [] →
    raw_at_index w.slots k ≡ least_raw w
is-least w k s h = let p = some-of (raw_at_index w.slots k) s in p.1 ∙ sym (least-here w.slots k p.0 p.1 h)

pub is-greatest : (w : Pending) (k : ℕ) → IsTrue (is_some (raw_at_index w.slots k)) → raws_of (drop (k + 1) w.slots) ≡ [] →
    raw_at_index w.slots k ≡ greatest_raw w
is-greatest w k s h =
    let p = some-of (raw_at_index w.slots k) s in
    let e : k + 1 ≡ suc k = omega arith in
    p.1 ∙ sym (greatest-here w.slots k p.0 p.1 (rw e at h))

pub least-is-least : (w : Pending) (o : Option Raw) → IsWindow w → o ≡ least_raw w →
    IfSome o (λ raw. All (λ other. raw.rec ≤ other.rec) (raws_of w.slots))
least-is-least w None i g = tt
least-is-least w (Some raw) i g = least-of w.first w.slots raw i.numbered (sym g)

pub greatest-is-greatest : (w : Pending) (o : Option Raw) → IsWindow w → o ≡ greatest_raw w →
    IfSome o (λ raw. All (λ other. other.rec ≤ raw.rec) (raws_of w.slots))
greatest-is-greatest w None i g = tt
greatest-is-greatest w (Some raw) i g = greatest-of w.first w.slots raw i.numbered (sym g)

-- the bytes of a record that is lent are one record
pub is-whole : (w : Pending) (k : ℕ) (o : Option Raw) → IsWindow w → raw_at_index w.slots k ≡ o →
    IfSome o (λ raw. first_record raw.bytes ≡ Ok (raw.bytes, []))
is-whole w k None i g = tt
is-whole w k (Some raw) i g = each-raw IsWhole w.first (w.first + k) w.slots k raw refl i.whole g

-- ---- taking a piece back

prepared-of : (o : Option Slot) (xs : List Slot) (k : ℕ) (piece : Piece) → slice_get xs k ≡ o →
    prepared_from o piece xs k ≡ (if is_lent_of o then slice_set xs k (slots.Prepared piece) else xs)
prepared-of None xs k piece g = refl
prepared-of (Some (slots.Raw r)) xs k piece g = set-same xs k (slots.Raw r) g
prepared-of (Some slots.Lent) xs k piece g = refl
prepared-of (Some (slots.Prepared p)) xs k piece g = set-same xs k (slots.Prepared p) g

begun : (a b : ℕ) → a ≤ b → nat_le a b ≡ true
begun a b h = grind (arith, nat_tests)

not-begun : (a b : ℕ) → b < a → nat_le a b ≡ false
not-begun a b h = grind (arith, nat_tests)

pub takes : (w : Pending) (piece : Piece) → w.first ≤ piece.rec → is_lent_at w.slots (piece.rec - w.first) ≡ is_lent piece.rec w
takes w piece h = rw (begun w.first piece.rec h) refl

pub too-low : (w : Pending) (piece : Piece) → piece.rec < w.first → is_lent piece.rec w ≡ false
too-low w piece h = rw (not-begun w.first piece.rec h) refl

pub stays : (w : Pending) (piece : Piece) → piece.rec < w.first → after_prepared piece w ≡ w
stays w piece h = rw (too-low w piece h) refl

prepared-if : (b : Bool) (w : Pending) (piece : Piece) →
    pending w.first (if b then slice_set w.slots (piece.rec - w.first) (slots.Prepared piece) else w.slots) ≡
    (if b then with_slot piece.rec (slots.Prepared piece) w else w)
prepared-if true w piece = refl
prepared-if false w piece = refl

pub put-back : (w : Pending) (piece : Piece) → w.first ≤ piece.rec →
    pending w.first (prepared_at piece w.slots (piece.rec - w.first)) ≡ after_prepared piece w
put-back w piece h =
    rw (prepared-of (slice_get w.slots (piece.rec - w.first)) w.slots (piece.rec - w.first) piece refl)
    (rw (begun w.first piece.rec h) (prepared-if (is_lent_at w.slots (piece.rec - w.first)) w piece))

window-if : (b : Bool) (w : Pending) (piece : Piece) → w.first ≤ piece.rec → IsWindow w →
    IsWindow (if b then with_slot piece.rec (slots.Prepared piece) w else w)
window-if false w piece h i = i
window-if true w piece h i = window-set w piece.rec (piece.rec - w.first) (slots.Prepared piece) (omega (arith, h)) i refl tt

pub window-prepared : (w : Pending) (piece : Piece) → w.first ≤ piece.rec → IsWindow w →
    IsWindow (pending w.first (prepared_at piece w.slots (piece.rec - w.first)))
window-prepared w piece h i = rw (put-back w piece h) (window-if (is_lent piece.rec w) w piece h i)

-- ---- posting and drawing

pub has-room : (a b : ℕ) → a ≤ b → false ≡ (a == b) → a < b
has-room a b h g = grind (arith, nat_tests)

-- a list that fits is kept whole
pub kept-whole : (n : ℕ) (xs : List Slot) → length xs ≤ n → keep_last n xs ≡ xs
kept-whole n xs h = let e : length xs - n ≡ 0 = omega (arith, h) in rw e refl

pub window-posted : (first : ℕ) (xs : List Slot) (raw : Raw) → IsWindow (pending first xs) → raw.rec ≡ first + length xs →
    raw.rec < 2 ^ 64 → length xs < 64 → first_record raw.bytes ≡ Ok (raw.bytes, []) →
    IsWindow (pending first (xs ++ slots.Raw raw ∷ []))
window-posted first xs raw i q r l h =
    let e : length (xs ++ slots.Raw raw ∷ []) ≡ length xs + 1 = length-append xs (slots.Raw raw ∷ []) in
    record {
      few = rw e (omega (arith, l));
      numbered = each-snoc HasNumber first raw.rec xs (slots.Raw raw) q i.numbered refl;
      whole = each-snoc IsWhole first raw.rec xs (slots.Raw raw) q i.whole h;
      fits = rw e (omega (arith, q, r));
    }

pub window-drawn : (first : ℕ) (xs : List Slot) (piece : Piece) → IsWindow (pending first xs) → first_prepared xs ≡ Some piece →
    IsWindow (pending (first + 1) (drop 1 xs))
window-drawn first [] piece i g = absurd cc
window-drawn first (x ∷ xs) piece i g = record {
  few = omega (arith, i.few);
  numbered = i.numbered.1;
  whole = i.whole.1;
  fits = omega (arith, i.fits);
}
