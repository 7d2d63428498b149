-- What a contract sees of a window: the records that are posted and not drawn, as far as each has come.
-- They stand in the order of their numbers, one number each, so the first one's number says all of them.
use Rattle.std.specs.Prelude.{◌≡◌, ℕ, ◌+◌, ◌-◌, ◌^◌, ◌≤◌, List, [], ◌∷◌, ◌++◌, length, drop, Bool, true, false, ◌&&◌, ◌==◌, nat_le, nat_lt, if◌then◌else◌, slice_get, slice_set, Option, Some, None, Result, Ok, Err}
use Rattle.circular_buffer.specs.Buffer.{last_item}
use Rattle.redo_vec.specs.Cutting.{first_record}
use Rattle.redo_wire.specs.declared.raw.Raw.{Raw}
use Rattle.preparers.specs.declared.piece.Piece.{Piece}
use Rattle.preparers.specs.declared.slot.Slot.{Slot}
use Rattle.preparers.specs.declared.slot.Slot.TheVariants as slots
use Rattle.preparers.specs.declared.window.Unposted.{Unposted}
use Rattle.preparers.specs.declared.window.Unposted.TheVariants.{NotNext, Full}
use Rattle.preparers.specs.Ring.{is_lent_at}

-- the number of the first record that is not drawn, and the slots from it on
pub record Pending : Type 0 where
  pub first : ℕ
  pub slots : List Slot

abbrev pub pending : ℕ → List Slot → Pending
pending first slots = record { first = first; slots = slots }

-- a window into which the record of this number comes first
abbrev pub none_pending : ℕ → Pending
none_pending next = pending next []

-- the number that is posted next
abbrev pub next_number : Pending → ℕ
next_number w = w.first + length w.slots

-- the window with this slot at this number
abbrev pub with_slot : ℕ → Slot → Pending → Pending
with_slot n slot w = pending w.first (slice_set w.slots (n - w.first) slot)

-- ---- posting

abbrev pub posting_or : Bool → Bool → Raw → Result (Unit {0}) Unposted
posting_or false room raw = Err (NotNext raw)
posting_or true false raw = Err (Full raw)
posting_or true true raw = Ok tt

-- what posting answers: the record has to be the next one, and then there has to be room
abbrev pub posting : Raw → Pending → Result (Unit {0}) Unposted
posting raw w = posting_or (raw.rec == next_number w) (nat_lt (length w.slots) 64) raw

abbrev pub after_post_if : Result (Unit {0}) Unposted → Raw → Pending → Pending
after_post_if (Ok done) raw w = pending w.first (w.slots ++ slots.Raw raw ∷ [])
after_post_if (Err refused) raw w = w

-- the window once this record is posted
abbrev pub after_post : Raw → Pending → Pending
after_post raw w = after_post_if (posting raw w) raw w

-- ---- lending

-- the cut records among these slots, in order
abbrev pub raws_of : List Slot → List Raw
raws_of [] = []
raws_of (slots.Raw raw ∷ rest) = raw ∷ raws_of rest
raws_of (slots.Lent ∷ rest) = raws_of rest
raws_of (slots.Prepared piece ∷ rest) = raws_of rest

-- the cut record of least number, and of greatest
abbrev pub least_raw : Pending → Option Raw
least_raw w = slice_get (raws_of w.slots) 0

abbrev pub greatest_raw : Pending → Option Raw
greatest_raw w = last_item (raws_of w.slots)

-- the window once this record is lent
abbrev pub after_lend : Option Raw → Pending → Pending
after_lend None w = w
after_lend (Some raw) w = with_slot raw.rec slots.Lent w

-- ---- taking a piece back

-- the record of this number is with a preparer
abbrev pub is_lent : ℕ → Pending → Bool
is_lent n w = nat_le w.first n && is_lent_at w.slots (n - w.first)

-- the window once this piece has come back: a piece whose number is not lent changes nothing
abbrev pub after_prepared : Piece → Pending → Pending
after_prepared piece w = if is_lent piece.rec w then with_slot piece.rec (slots.Prepared piece) w else w

-- ---- drawing

abbrev pub first_prepared : List Slot → Option Piece
first_prepared [] = None
first_prepared (slots.Raw raw ∷ rest) = None
first_prepared (slots.Lent ∷ rest) = None
first_prepared (slots.Prepared piece ∷ rest) = Some piece

-- the piece of the first number, where it is prepared
abbrev pub drawn_piece : Pending → Option Piece
drawn_piece w = first_prepared w.slots

abbrev pub without_drawn : Option Piece → Pending → Pending
without_drawn None w = w
without_drawn (Some piece) w = pending (w.first + 1) (drop 1 w.slots)

-- the window once that piece is drawn
abbrev pub after_draw : Pending → Pending
after_draw w = without_drawn (drawn_piece w) w

-- ---- what holds of each window

-- a fact of each slot and its number, the first one's being this
abbrev pub Each : (ℕ → Slot → Type 0) → ℕ → List Slot → Type 0
Each P n [] = Unit {0}
Each P n (slot ∷ rest) = P n slot × Each P (n + 1) rest

-- what it holds is of this number
abbrev pub HasNumber : ℕ → Slot → Type 0
HasNumber n (slots.Raw raw) = raw.rec ≡ n
HasNumber n slots.Lent = Unit {0}
HasNumber n (slots.Prepared piece) = piece.rec ≡ n

-- the cutter takes the bytes of its cut record as one record
abbrev pub IsWhole : ℕ → Slot → Type 0
IsWhole n (slots.Raw raw) = first_record raw.bytes ≡ Ok (raw.bytes, [])
IsWhole n slots.Lent = Unit {0}
IsWhole n (slots.Prepared piece) = Unit {0}

pub record IsWindow (w : Pending) : Type 0 where
  pub few : length w.slots ≤ 64
  pub numbered : Each HasNumber w.first w.slots
  pub whole : Each IsWhole w.first w.slots
  pub fits : w.first + length w.slots ≤ 2 ^ 64
