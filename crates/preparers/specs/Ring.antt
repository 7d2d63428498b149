-- One slot of a list, by its index.
use Rattle.std.specs.Prelude.{ℕ, List, slice_get, slice_set, Bool, false, Option, Some, None}
use Rattle.redo_wire.specs.declared.raw.Raw.{Raw}
use Rattle.preparers.specs.declared.piece.Piece.{Piece}
use Rattle.preparers.specs.declared.slot.Slot.{Slot}
use Rattle.preparers.specs.Pieces.{raw_in, lent_slot, is_lent_slot, prepared_slot}

abbrev pub raw_of : Option Slot → Option Raw
raw_of None = None
raw_of (Some slot) = raw_in slot

-- the cut record at this index
abbrev pub raw_at_index : List Slot → ℕ → Option Raw
raw_at_index slots at = raw_of (slice_get slots at)

abbrev pub lent_from : Option Slot → List Slot → ℕ → List Slot
lent_from None slots at = slots
lent_from (Some slot) slots at = slice_set slots at (lent_slot slot)

-- the slots once the cut record at this index is given away
abbrev pub lent_at : List Slot → ℕ → List Slot
lent_at slots at = lent_from (slice_get slots at) slots at

abbrev pub is_lent_of : Option Slot → Bool
is_lent_of None = false
is_lent_of (Some slot) = is_lent_slot slot

-- the record at this index is with a preparer
abbrev pub is_lent_at : List Slot → ℕ → Bool
is_lent_at slots at = is_lent_of (slice_get slots at)

abbrev pub prepared_from : Option Slot → Piece → List Slot → ℕ → List Slot
prepared_from None piece slots at = slots
prepared_from (Some slot) piece slots at = slice_set slots at (prepared_slot piece slot)

-- the slots once this piece has come back to this index
abbrev pub prepared_at : Piece → List Slot → ℕ → List Slot
prepared_at piece slots at = prepared_from (slice_get slots at) piece slots at
