-- Tables and columns by their names or numbers: what is printed is read as the same number.
use Rattle.std.proofs.Common.{◌≡◌, ℕ, ◌<◌, ◌^◌, Bool, true, false, List, Ok, Err, refl, ap, arith}
use Rattle.std.specs.Prelude.{◌&&◌, if◌then◌else◌, slice_get}
use Rattle.std.specs.Fmt.{decimal}
use Rattle.std.proofs.lemmas.Bool.{and_parts, eqb-true}
use Rattle.redo_vec.specs.declared.columns.Column.{Column}
use Rattle.redo_vec.specs.declared.table.TableRow.{TableRow}
use Rattle.redo_spec.specs.Dictionary.{table_of}
use Rattle.script_words.specs.Numbers.{is_digit}
use Rattle.line_fields.specs.Fields.{Said}
use Rattle.line_fields.specs.Known.{is_plain_byte, is_plain, is_said, name_or_number, table_said, table_word, name_of_table, column_said, column_word, name_of_column}
use Rattle.line_fields.proofs.Splitting.{closes, closes-kind}
use Rattle.line_fields.proofs.Numbers.{number_printed, decimal_numeral}
use Rattle.line_fields.proofs.FieldLaws.{closes-decimal}

said_is : (n : ℕ) (said : Said ℕ) → is_said n said ≡ true → said ≡ Ok n
said_is n (Ok m) e = ap Ok (eqb-true m n e)
said_is n (Err fault) e = absurd cc

chosen : (t : Bool) (said : List ℕ → Said ℕ) (name : List ℕ) (n : ℕ) → (is_plain name && is_said n (said name)) ≡ t →
    said (decimal n) ≡ Ok n → said (if t then name else decimal n) ≡ Ok n
chosen true said name n is number = said_is n (said name) (and_parts _ _ is).1
chosen false said name n is number = number

-- where the number is read, so is the name in its place
named : (said : List ℕ → Said ℕ) (name : List ℕ) (n : ℕ) → said (decimal n) ≡ Ok n → said (name_or_number said name n) ≡ Ok n
unfolding name_or_number
named said name n number = chosen (is_plain name && is_said n (said name)) said name n refl number

chosen_closes : (t : Bool) (between : ℕ) (name : List ℕ) (said : Bool) (n : ℕ) → (is_plain name && said) ≡ t →
    is_plain_byte between ≡ false → is_digit between ≡ false → n < 2 ^ 64
    → closes between false (if t then name else decimal n) ≡ true
chosen_closes true between name said n is e f h =
    let p = and_parts _ _ is in
    closes-kind is_plain_byte between name refl refl e (and_parts _ _ p.0).1
chosen_closes false between name said n is e f h = closes-decimal between n f h

closes-named : (between : ℕ) (said : List ℕ → Said ℕ) (name : List ℕ) (n : ℕ) → is_plain_byte between ≡ false →
    is_digit between ≡ false → n < 2 ^ 64 → closes between false (name_or_number said name n) ≡ true
unfolding name_or_number
closes-named between said name n e f h = chosen_closes (is_plain name && is_said n (said name))
    between name (is_said n (said name)) n
    refl e f h

-- ---- tables

table_number : (tables : List TableRow) (id : ℕ) → id < 2 ^ 32 → table_said tables (decimal id) ≡ Ok id
unfolding table_said
table_number tables id h =
    rw (decimal_numeral id (omega arith)) (number_printed 4294967295 id (omega arith) (omega arith))

pub table_printed : (tables : List TableRow) (id : ℕ) → id < 2 ^ 32 → table_said tables (table_word tables id) ≡ Ok id
unfolding table_word
table_printed tables id h = named (table_said tables) (name_of_table (table_of tables id)) id (table_number tables id h)

pub closes-table : (tables : List TableRow) (id : ℕ) → id < 2 ^ 32 → closes 32 false (table_word tables id) ≡ true
unfolding table_word
closes-table tables id h = closes-named 32 (table_said tables) (name_of_table (table_of tables id)) id refl refl (omega arith)

-- ---- columns

column_number : (columns : List Column) (n : ℕ) → n < 32 → column_said columns (decimal n) ≡ Ok n
unfolding column_said
column_number columns n h =
    rw (decimal_numeral n (omega arith)) (number_printed 255 n (omega arith) (omega arith))

pub column_printed : (columns : List Column) (n : ℕ) → n < 32 → column_said columns (column_word columns n) ≡ Ok n
unfolding column_word
column_printed columns n h = named (column_said columns) (name_of_column (slice_get columns n)) n (column_number columns n h)

pub closes-column : (between : ℕ) (columns : List Column) (n : ℕ) → is_plain_byte between ≡ false → is_digit between ≡ false →
    n < 32 → closes between false (column_word columns n) ≡ true
unfolding column_word
closes-column between columns n e f h = closes-named between (column_said columns) (name_of_column (slice_get columns n)) n e f
    (omega arith)
