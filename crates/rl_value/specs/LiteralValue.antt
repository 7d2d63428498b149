-- The value of a literal, read from left to right, or none where the bytes are no literal.
-- That it is the value of which the bytes are a literal (IsLiteralOf of Literal.antt), and none where there is no
-- such value, is the law of rl_text's `literals_have_one_value`.
use Rattle.std.specs.Prelude.{ℕ, ◌+◌, ◌-◌, ◌*◌, List, [], ◌∷◌, length, Bool, true, false, ◌&&◌, ◌==◌, nat_le, if◌then◌else◌, codes, Option, Some, None}
use Rattle.std.specs.Option.{option_map, option_and_then}
use Rattle.std.specs.Fmt.{signed_decimal}
use Rattle.std.specs.Str.Parse.{signed_digits_value}
use Rattle.std.specs.Str.Lossy.{utf8_valid_len}
use Rattle.rl_value.specs.Literal.{quote, text_letter, raw_letter, is_printed, is_number}
use Rattle.rl_value.specs.Order.{same_bytes}
use Rattle.rl_value.specs.declared.value.Value.{Value}
use Rattle.rl_value.specs.declared.value.Value.TheVariants.{Null, Number, Text, Raw}
use Rattle.rl_value.specs.declared.limits.TheConstants.{MAX_VALUE}

-- the value of an upper-case hexadecimal digit
abbrev pub hex_value : ℕ → Option ℕ
hex_value c = if nat_le 48 c && nat_le c 57 then Some (c - 48) else if nat_le 65 c && nat_le c 70 then Some (c - 55) else None

-- a byte of two digits, and the bytes behind it
abbrev pub with_pair : Option ℕ → Option ℕ → Option (List ℕ) → Option (List ℕ)
with_pair None low rest = None
with_pair (Some h) None rest = None
with_pair (Some h) (Some l) None = None
with_pair (Some h) (Some l) (Some bytes) = Some ((16 * h + l) ∷ bytes)

-- what stands in pairs of digits up to the closing quote, the last byte
abbrev pub unhexed : List ℕ → Option (List ℕ)
unhexed [] = None
unhexed (b ∷ []) = if b == quote then Some [] else None
unhexed (h ∷ l ∷ rest) = with_pair (hex_value h) (hex_value l) (unhexed rest)

-- the same behind the opening quote
abbrev pub unhexed_in_quotes : List ℕ → Option (List ℕ)
unhexed_in_quotes [] = None
unhexed_in_quotes (b ∷ rest) = if b == quote then unhexed rest else None

-- one more byte of a quoted text
abbrev pub with_byte : ℕ → Option (List ℕ) → Option (List ℕ)
with_byte b rest = option_map (λ bytes. b ∷ bytes) rest

-- what stands up to the closing quote, the last byte; `half` says that a quote came before, which closes the text
-- at its end and is one of the text's own before a second quote
abbrev pub unquoted : Bool → List ℕ → Option (List ℕ)
unquoted true [] = Some []
unquoted false [] = None
unquoted true (b ∷ rest) = if b == quote then with_byte quote (unquoted false rest) else None
unquoted false (b ∷ rest) =
    if b == quote then unquoted true rest else if is_printed b then with_byte b (unquoted false rest) else None

-- 1 to MAX_VALUE bytes, and for a text UTF-8
abbrev pub is_raw : List ℕ → Bool
is_raw bytes = nat_le 1 (length bytes) && nat_le (length bytes) MAX_VALUE

abbrev pub is_text : List ℕ → Bool
is_text bytes = is_raw bytes && (utf8_valid_len bytes == length bytes)

-- the text of these bytes, and the raw value, where they are one
abbrev pub text_value : List ℕ → Option Value
text_value bytes = if is_text bytes then Some (Text bytes) else None

abbrev pub raw_value : List ℕ → Option Value
raw_value bytes = if is_raw bytes then Some (Raw bytes) else None

-- nothing between quotes is Null
abbrev pub quoted_value : List ℕ → Option Value
quoted_value [] = Some Null
quoted_value (b ∷ bytes) = text_value (b ∷ bytes)

-- a number that is printed as these bytes
abbrev pub number_value : List ℕ → Option Value
number_value bytes =
    let z = signed_digits_value 10 bytes in if is_number z && same_bytes (signed_decimal z) bytes then Some (Number z) else None

-- the first byte says which literal it is, unless it is NULL
abbrev pub value_after : ℕ → List ℕ → Option Value
value_after b rest =
    if b == quote then option_and_then quoted_value (unquoted false rest)
    else if b == text_letter then option_and_then text_value (unhexed_in_quotes rest)
    else if b == raw_letter then option_and_then raw_value (unhexed_in_quotes rest)
    else number_value (b ∷ rest)

abbrev pub value_of_first : List ℕ → Option Value
value_of_first [] = None
value_of_first (b ∷ rest) = value_after b rest

-- the value of a literal
abbrev pub value_of_literal : List ℕ → Option Value
value_of_literal bytes = if same_bytes bytes (codes "NULL") then Some Null else value_of_first bytes
