-- What the cutter accepts as the first record of bytes: its length and its count of vectors are within their limits.
-- A record: length (4 bytes, of the whole record), SCN (8), number of vectors (2), the vectors. Big-endian.
use Rattle.std.specs.Prelude.{ℕ, List, [], ◌∷◌, length, take, drop, ◌||◌, ◌==◌, nat_lt, Result}
use Rattle.std.specs.Int.{Width, w16, w32, from_be_bytes}
use Rattle.rl_value.specs.declared.cause.CutFault.{CutFault}
use Rattle.rl_value.specs.declared.cause.CutFault.TheVariants as cuts
use Rattle.rl_value.specs.Outcome.{first_fault, refused_by}

-- the number of this width at this offset
abbrev pub number_in : Width → ℕ → List ℕ → ℕ
number_in w at bytes = from_be_bytes w (drop at bytes)

-- the bytes of the first record, and those behind it
abbrev pub first_record : List ℕ → Result (List ℕ × List ℕ) CutFault
first_record bytes =
    let size = number_in w32 0 bytes in
    let count = number_in w16 12 bytes in
    refused_by (first_fault (
    (nat_lt (length bytes) 4, cuts.Truncated)
    ∷ (nat_lt size 15 || nat_lt 65536 size, cuts.Length)
    ∷ (nat_lt (length bytes) size, cuts.Truncated)
    ∷ (count == 0 || nat_lt 255 count, cuts.Count)
    ∷ [])) (take size bytes, drop size bytes)
