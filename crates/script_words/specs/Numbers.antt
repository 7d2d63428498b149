-- Numbers of a script: in decimal, without a sign or a leading zero, and within their limits. This project's own.
use Rattle.std.specs.Prelude.{ℕ, List, [], ◌∷◌, Bool, true, false, not, ◌&&◌, ◌==◌, nat_le, if◌then◌else◌, Option, Some, None}
use Rattle.std.specs.List.{list_all}
use Rattle.std.specs.Str.Parse.{digits_value}

-- 0 to 9
abbrev pub is_digit : ℕ → Bool
is_digit b = nat_le 48 b && nat_le b 57

-- there is a digit, and no 0 before another one
abbrev pub begins_well : List ℕ → Bool
begins_well [] = false
begins_well (b ∷ []) = true
begins_well (b ∷ c ∷ bytes) = not (b == 48)

-- digits without a leading zero
abbrev pub is_decimal : List ℕ → Bool
is_decimal word = begins_well word && list_all is_digit word

-- the number that a word says, where it is one from the first of these limits to the second
unfoldable pub number_in : ℕ → ℕ → List ℕ → Option ℕ
number_in least most word =
    let n = digits_value 10 word in if is_decimal word && (nat_le least n && nat_le n most) then Some n else None

-- a number of 16, 32 or 64 bits
abbrev pub of_16_bits : List ℕ → Option ℕ
of_16_bits = number_in 0 65535

abbrev pub of_32_bits : List ℕ → Option ℕ
of_32_bits = number_in 0 4294967295

abbrev pub of_64_bits : List ℕ → Option ℕ
of_64_bits = number_in 0 18446744073709551615

-- a log's sequence
abbrev pub sequence : List ℕ → Option ℕ
sequence = number_in 1 4294967295
