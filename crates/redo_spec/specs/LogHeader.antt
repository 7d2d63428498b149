-- The header of a log, read from its first 40 bytes, and its first fault.
use Rattle.std.specs.Prelude.{ℕ, List, [], ◌∷◌, length, take, not, ◌||◌, ◌==◌, nat_lt, nat_le, Option, codes}
use Rattle.std.specs.Int.{w16, w32, w64}
use Rattle.rl_value.specs.declared.cause.HeadFault.{HeadFault}
use Rattle.rl_value.specs.declared.cause.HeadFault.TheVariants as heads
use Rattle.rl_value.specs.Order.{same_bytes}
use Rattle.rl_value.specs.Outcome.{first_fault}
use Rattle.redo_vec.specs.Cutting.{number_in}
use Rattle.redo_spec.specs.declared.header.Header.{Header}

-- the fields at their places
abbrev pub header_in : List ℕ → Header
header_in bytes = record {
  seq = number_in w32 12 bytes;
  dbid = number_in w32 8 bytes;
  first = number_in w64 16 bytes;
  next = number_in w64 24 bytes;
  count = number_in w32 32 bytes;
}

-- the first fault of a log's header, where this sequence was asked for
abbrev pub header_fault : ℕ → List ℕ → Option HeadFault
header_fault seq bytes =
    let h = header_in bytes in
    first_fault (
    (nat_lt (length bytes) 40, heads.Short)
    ∷ (not (same_bytes (take 4 bytes) (codes "SRL1")), heads.Magic)
    ∷ (not (number_in w16 4 bytes == 1), heads.Version)
    ∷ (not (number_in w16 6 bytes == 1), heads.Thread)
    ∷ (not (h.seq == seq), heads.Sequence)
    ∷ (h.first == 0 || nat_le h.next h.first, heads.Range)
    ∷ (h.count == 0, heads.Records)
    ∷ (not (number_in w32 36 bytes == 0), heads.Reserved)
    ∷ [])
