-- The tables that a text has said so far, by which its changes may name tables and columns.
-- At most the first 256 are kept, so that memory is bounded; what is not kept goes by its number.
use Rattle.std.specs.Prelude.{ℕ, ◌+◌, ◌<◌, ◌^◌, List, [], ◌∷◌, ◌++◌, length, Bool, false, ◌&&◌, ◌||◌, ◌==◌, nat_lt, if◌then◌else◌, Option, Some, None, Ok, Err, slice_get}
use Rattle.std.specs.List.{list_all, AllByRecursion}
use Rattle.std.specs.Fmt.{decimal}
use Rattle.rl_value.specs.Order.{same_bytes}
use Rattle.rl_value.specs.Outcome.{or_err}
use Rattle.rl_value.specs.Text.{is_name_byte, first_is_letter}
use Rattle.redo_vec.specs.declared.columns.Column.{Column}
use Rattle.redo_vec.specs.declared.table.TableRow.{TableRow}
use Rattle.redo_vec.specs.declared.vector.Vector.{Vector}
use Rattle.redo_vec.specs.declared.vector.Vector.TheVariants as vectors
use Rattle.redo_spec.specs.Dictionary.{table_of, id_of}
use Rattle.line_fields.specs.declared.fault.LineFault.TheVariants as faults
use Rattle.script_words.specs.Numbers.{is_digit}
use Rattle.line_fields.specs.Fields.{Said, number_said}
use Rattle.line_fields.specs.Words.{split, joined, dot}

-- how many tables are kept
abbrev pub known_limit : ℕ
known_limit = 256

abbrev pub with_known : List TableRow → TableRow → List TableRow
with_known tables t = if nat_lt (length tables) known_limit then tables ++ t ∷ [] else tables

-- the tables that are known after a vector
abbrev pub known_after : List TableRow → Vector → List TableRow
known_after tables (vectors.Start x) = tables
known_after tables (vectors.Change c) = tables
known_after tables (vectors.Undo x) = tables
known_after tables (vectors.Commit x) = tables
known_after tables (vectors.Rollback x) = tables
known_after tables (vectors.Table t) = with_known tables t
known_after tables vectors.DictEnd = tables

-- ids of 32 bits
abbrev pub HaveIds : List TableRow → Type 0
HaveIds tables = AllByRecursion (λ t. t.id < 2 ^ 32) tables

-- ---- a number or a name

-- a number begins with a digit
abbrev pub is_numeral : List ℕ → Bool
is_numeral [] = false
is_numeral (b ∷ bytes) = is_digit b

-- a letter first, and then bytes of names and dots
abbrev pub is_plain_byte : ℕ → Bool
is_plain_byte b = is_name_byte b || (b == dot)

abbrev pub is_plain : List ℕ → Bool
is_plain word = first_is_letter word && list_all is_plain_byte word

-- reading gave this number
abbrev pub is_said : ℕ → Said ℕ → Bool
is_said n (Ok m) = m == n
is_said n (Err fault) = false

-- the name where it is plain and reading it gives the number back, and else the number
unfoldable pub name_or_number : (List ℕ → Said ℕ) → List ℕ → ℕ → List ℕ
name_or_number said name n = if is_plain name && is_said n (said name) then name else decimal n

-- ---- tables

-- schema and name
unfoldable pub table_of_parts : List TableRow → List (List ℕ) → Said ℕ
table_of_parts tables [] = Err faults.NoTable
table_of_parts tables (schema ∷ []) = Err faults.NoTable
table_of_parts tables (schema ∷ name ∷ []) = or_err (id_of tables schema name) faults.NoTable
table_of_parts tables (schema ∷ name ∷ other ∷ parts) = Err faults.NoTable

-- the id of a table, by its name or its number
unfoldable pub table_said : List TableRow → List ℕ → Said ℕ
table_said tables word =
    if is_numeral word then number_said 4294967295 word else table_of_parts tables (split dot word)

abbrev pub name_of_table : Option TableRow → List ℕ
name_of_table None = []
name_of_table (Some t) = joined dot (t.schema ∷ t.name ∷ [])

unfoldable pub table_word : List TableRow → ℕ → List ℕ
table_word tables id = name_or_number (table_said tables) (name_of_table (table_of tables id)) id

-- ---- columns

abbrev pub columns_of_table : Option TableRow → List Column
columns_of_table None = []
columns_of_table (Some t) = t.columns

-- the columns of the first table of this id, or none
abbrev pub columns_known : List TableRow → ℕ → List Column
columns_known tables id = columns_of_table (table_of tables id)

-- the number of the first column of this name, where columns count from n
abbrev pub column_named : ℕ → List Column → List ℕ → Said ℕ
column_named n [] word = Err faults.NoColumn
column_named n (c ∷ columns) word = if same_bytes c.name word then Ok n else column_named (n + 1) columns word

-- a column by its name or its number
unfoldable pub column_said : List Column → List ℕ → Said ℕ
column_said columns word = if is_numeral word then number_said 255 word else column_named 0 columns word

abbrev pub name_of_column : Option Column → List ℕ
name_of_column None = []
name_of_column (Some c) = c.name

unfoldable pub column_word : List Column → ℕ → List ℕ
column_word columns n = name_or_number (column_said columns) (name_of_column (slice_get columns n)) n
