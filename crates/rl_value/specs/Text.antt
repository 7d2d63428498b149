-- What texts, raw values, names, rows and cells are: their sizes, their bytes, and the order of their columns.
-- The limits are constants of src/limits.rt. This project's own.
use Rattle.std.specs.Prelude.{ℕ, ◌+◌, ◌≤◌, List, [], ◌∷◌, length, Bool, true, false, ◌&&◌, ◌||◌, nat_le, nat_lt, ◌==◌, IsUtf8}
use Rattle.std.specs.List.{list_all}
use Rattle.rl_value.specs.declared.limits.TheConstants.{MAX_VALUE, MAX_NAME, MAX_COLUMNS}
use Rattle.rl_value.specs.declared.value.Value.{Value}

-- a raw value has 1 to MAX_VALUE bytes
pub record IsRaw (bytes : List ℕ) : Type 0 where
  pub some : 1 ≤ length bytes
  pub most : length bytes ≤ MAX_VALUE

-- a text has as many, of UTF-8
pub record IsText (bytes : List ℕ) : Type 0 where
  pub some : 1 ≤ length bytes
  pub most : length bytes ≤ MAX_VALUE
  pub utf8 : IsUtf8 bytes

-- A to Z
abbrev pub is_letter : ℕ → Bool
is_letter c = nat_le 65 c && nat_le c 90

-- A to Z, 0 to 9, _, $ and #
abbrev pub is_name_byte : ℕ → Bool
is_name_byte c = is_letter c || (nat_le 48 c && nat_le c 57) || (c == 95) || (c == 36) || (c == 35)

-- there is a first byte, and it is a letter
abbrev pub first_is_letter : List ℕ → Bool
first_is_letter [] = false
first_is_letter (c ∷ cs) = is_letter c

-- 1 to MAX_NAME name bytes, the first of them a letter
abbrev pub is_name : List ℕ → Bool
is_name bytes = first_is_letter bytes && nat_le (length bytes) MAX_NAME && list_all is_name_byte bytes

-- a row has 1 to MAX_COLUMNS values
pub record IsRow (values : List Value) : Type 0 where
  pub some : 1 ≤ length values
  pub most : length values ≤ MAX_COLUMNS

-- columns rise from this one on, and are below MAX_COLUMNS
abbrev pub columns_rise : ℕ → List (ℕ × Value) → Bool
columns_rise from [] = true
columns_rise from ((column, value) ∷ cells) = nat_le from column && nat_lt column MAX_COLUMNS && columns_rise (column + 1) cells

-- columns with values, the columns rising
abbrev pub are_cells : List (ℕ × Value) → Bool
are_cells cells = columns_rise 0 cells
