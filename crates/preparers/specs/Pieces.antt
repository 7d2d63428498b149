-- Pieces: what a cut record becomes when it is decoded, and how far a record of the window has come.
use Rattle.std.specs.Prelude.{ℕ, List, Bool, true, false, Option, Some, None, Result, Ok, Err}
use Rattle.redo_vec.specs.Reading.{Fault, record_at}
use Rattle.redo_vec.specs.declared.redo_rec.RedoRec.{RedoRec}
use Rattle.redo_wire.specs.declared.raw.Raw.{Raw}
use Rattle.preparers.specs.declared.piece.Made.{Made}
use Rattle.preparers.specs.declared.piece.Made.TheVariants.{Rec, Bad}
use Rattle.preparers.specs.declared.piece.Piece.{Piece}
use Rattle.preparers.specs.declared.slot.Slot.{Slot}
use Rattle.preparers.specs.declared.slot.Slot.TheVariants as slots

-- ---- preparing

abbrev pub made_or : Result RedoRec Fault → Made
made_or (Ok rec) = Rec rec
made_or (Err f) = Bad f.fault f.place

-- what the bytes of a cut record say: the record, or the first fault and its place
abbrev pub made_of : List ℕ → Made
made_of bytes = made_or (record_at bytes)

-- a cut record, decoded
abbrev pub piece_of : Raw → Piece
piece_of raw = record { rec = raw.rec; head = raw.head; end = raw.end; done = raw.done; made = made_of raw.bytes }

-- ---- a slot

-- the cut record that it has
abbrev pub raw_in : Slot → Option Raw
raw_in (slots.Raw raw) = Some raw
raw_in slots.Lent = None
raw_in (slots.Prepared piece) = None

-- its record is with a preparer
abbrev pub is_lent_slot : Slot → Bool
is_lent_slot (slots.Raw raw) = false
is_lent_slot slots.Lent = true
is_lent_slot (slots.Prepared piece) = false

-- the slot once its cut record is given away
abbrev pub lent_slot : Slot → Slot
lent_slot (slots.Raw raw) = slots.Lent
lent_slot slots.Lent = slots.Lent
lent_slot (slots.Prepared piece) = slots.Prepared piece

-- the slot once this piece has come back
abbrev pub prepared_slot : Piece → Slot → Slot
prepared_slot piece (slots.Raw raw) = slots.Raw raw
prepared_slot piece slots.Lent = slots.Prepared piece
prepared_slot piece (slots.Prepared other) = slots.Prepared other
