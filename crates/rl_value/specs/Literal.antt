-- Literals: how values, rows, keys and transactions are printed, and which bytes are a literal of which value.
--   NULL, ''        Null
--   -12             a number, in decimal without leading zeros, plus sign or -0
--   'it''s'         a text whose bytes may all be printed; a quote in it stands twice
--   U'00A7'         any text, X'00FF' a raw value: its bytes in pairs of upper-case hexadecimal digits
-- A text is printed quoted where it can be. How bytes are read as a literal: LiteralValue.antt.
use Rattle.std.specs.Prelude.{◌≡◌, ℕ, ◌+◌, ◌/◌, ◌%◌, ◌^◌, ◌<◌, List, [], ◌∷◌, ◌++◌, map, All, Bool, not, ◌&&◌, ◌==◌, ◌⊎◌, IsTrue, nat_le, nat_lt, if◌then◌else◌, codes, ℤ, pos, negsuc}
use Rattle.std.specs.List.{list_all, flat_map, join_with_byte}
use Rattle.std.specs.Fmt.{decimal, signed_decimal}
use Rattle.rl_value.specs.Text.{IsText, IsRaw}
use Rattle.rl_value.specs.declared.value.Value.{Value}
use Rattle.rl_value.specs.declared.value.Value.TheVariants.{Null, Number, Text, Raw}
use Rattle.rl_value.specs.declared.xid.Xid.{Xid}

-- the byte '
abbrev pub quote : ℕ
quote = 39

-- the letters before a text and a raw value in hexadecimal, U and X
abbrev pub text_letter : ℕ
text_letter = 85

abbrev pub raw_letter : ℕ
raw_letter = 88

-- the digit of a number below 16, 0 to 9 and A to F
abbrev pub hex_digit : ℕ → ℕ
hex_digit n = if nat_lt n 10 then 48 + n else 55 + n

-- two digits a byte
abbrev pub hex : List ℕ → List ℕ
hex bytes = flat_map (λ b. hex_digit (b / 16) ∷ hex_digit (b % 16) ∷ []) bytes

-- a byte that may stand in a quoted text: no control byte
abbrev pub is_printed : ℕ → Bool
is_printed b = nat_le 32 b && not (b == 127)

-- a byte as it stands between quotes
abbrev pub quoted_byte : ℕ → List ℕ
quoted_byte b = if b == quote then quote ∷ quote ∷ [] else b ∷ []

-- bytes between quotes, a quote among them twice
abbrev pub quoted : List ℕ → List ℕ
quoted bytes = quote ∷ flat_map quoted_byte bytes ++ quote ∷ []

-- bytes in hexadecimal between quotes behind a letter
abbrev pub in_hex : ℕ → List ℕ → List ℕ
in_hex letter bytes = letter ∷ quote ∷ hex bytes ++ quote ∷ []

-- the literal that is printed for a text
abbrev pub text_literal : List ℕ → List ℕ
text_literal bytes = if list_all is_printed bytes then quoted bytes else in_hex text_letter bytes

-- the literal that is printed for a value
abbrev pub literal : Value → List ℕ
literal Null = codes "NULL"
literal (Number z) = signed_decimal z
literal (Text bytes) = text_literal bytes
literal (Raw bytes) = in_hex raw_letter bytes

-- values with one space between
abbrev pub row_text : List Value → List ℕ
row_text values = join_with_byte 32 (map literal values)

-- values in brackets with commas between
abbrev pub key_text : List Value → List ℕ
key_text values = 40 ∷ join_with_byte 44 (map literal values) ++ 41 ∷ []

-- undo segment, slot and sequence in decimal with dots between
abbrev pub xid_text : Xid → List ℕ
xid_text x = decimal x.usn ++ 46 ∷ decimal x.slot ++ 46 ∷ decimal x.sqn

-- a number of 64 bits with its sign
abbrev pub is_number : ℤ → Bool
is_number (pos n) = nat_lt n (2 ^ 63)
is_number (negsuc n) = nat_lt n (2 ^ 63)

-- each of these numbers is a byte
abbrev pub AreBytes : List ℕ → Type 0
AreBytes = All (λ b. b < 2 ^ 8)

-- a text as a literal: between quotes where its bytes may be printed, and in hexadecimal
abbrev pub IsTextLiteral : List ℕ → List ℕ → Type 0
IsTextLiteral text bytes = (IsTrue (list_all is_printed text) × (bytes ≡ quoted text)) ⊎ (bytes ≡ in_hex text_letter text)

-- these bytes are a literal of this value
abbrev pub IsLiteralOf : Value → List ℕ → Type 0
IsLiteralOf Null bytes = (bytes ≡ codes "NULL") ⊎ (bytes ≡ quoted [])
IsLiteralOf (Number z) bytes = IsTrue (is_number z) × (bytes ≡ signed_decimal z)
IsLiteralOf (Text text) bytes = IsText text × AreBytes text × IsTextLiteral text bytes
IsLiteralOf (Raw raw) bytes = IsRaw raw × AreBytes raw × (bytes ≡ in_hex raw_letter raw)
