-- Values that are a row: 1 to 32 of them.
use Rattle.std.proofs.Common.{◌≡◌, ◌≤◌, ℕ, ◌+◌, List, [], ◌∷◌, length, refl, sym, ap, ◌∙◌, true, nat_le, arith, unwrap_or}
use Rattle.std.proofs.lemmas.List.{length-map}
use Rattle.std.proofs.lemmas.Bool.Decides.{nat_tests}
use Rattle.std.specs.List.{list_all}
use Rattle.rl_value.specs.declared.value.Value.{Value}
use Rattle.rl_value.specs.Order.{value_eq}
use Rattle.rl_value.specs.Text.{IsRow}
use Rattle.redo_vec.specs.declared.columns.Column.{Column}
use Rattle.redo_vec.specs.declared.table.TableRow.{TableRow}
use Rattle.redo_vec.specs.Columns.{are_columns, is_kind}
use Rattle.redo_vec.specs.Forms.{is_key_columns}
use Rattle.redo_spec.specs.ConflictKeys.{cell_of}
use Rattle.redo_spec.specs.Dictionary.{numbers_from, column_numbers}
use Rattle.redo_spec.specs.Effect.{cell_values, with_cells}
use Rattle.redo_spec.specs.Tables.{values_at, value_in}
use Rattle.row_apply.specs.Values.{has_at}
use Rattle.row_apply.proofs.Fitting.{both, three, join}
use Rattle.row_apply.proofs.Orders.{value_is, value_self}

key_long : (columns : List ℕ) → is_key_columns columns ≡ true → 1 ≤ length columns
key_long [] e = absurd (cc)
key_long (c ∷ cs) e = omega arith

pub key_is_row : (row : List Value) (columns : List ℕ) → is_key_columns columns ≡ true → length columns ≤ 32 →
    IsRow (values_at row columns)
key_is_row row columns e most =
    let count : length (values_at row columns) ≡ length columns = length-map columns (value_in row) in
    let some = key_long columns e in
    record { some = omega (arith, count, some); most = omega (arith, count, most) }

pub cells_are_row : (columns : List Column) (cells : List (ℕ × Value)) → are_columns columns ≡ true →
    length cells ≡ length columns → IsRow (cell_values cells)
cells_are_row columns cells e l =
    let p = three (nat_le 1 (length columns)) (nat_le (length columns) 32)
    (list_all (λ (c : Column). is_kind c.kind) columns) e in
    let some : 1 ≤ length columns = grind (arith, nat_tests, p.0) in
    let most : length columns ≤ 32 = grind (arith, nat_tests, p.1) in
    let count : length (cell_values cells) ≡ length cells = length-map cells (λ (cell : ℕ × Value). cell.1) in
    record { some = omega (arith, count, l, some); most = omega (arith, count, l, most) }

count_from : (n : ℕ) (columns : List Column) → length (numbers_from n columns) ≡ length columns
count_from n [] = refl
count_from n (c ∷ cs) = let rest = count_from (n + 1) cs in omega (arith, rest)

pub with_cells_is_row : (t : TableRow) (row : List Value) (cells : List (ℕ × Value)) → are_columns t.columns ≡ true →
    IsRow (with_cells t row cells)
with_cells_is_row t row cells e =
    let p = three (nat_le 1 (length t.columns)) (nat_le (length t.columns) 32)
    (list_all (λ (c : Column). is_kind c.kind) t.columns) e in
    let some : 1 ≤ length t.columns = grind (arith, nat_tests, p.0) in
    let most : length t.columns ≤ 32 = grind (arith, nat_tests, p.1) in
    let count : length (with_cells t row cells) ≡ length (column_numbers t) =
    length-map (column_numbers t) (λ (column : ℕ). unwrap_or (cell_of cells column) (value_in row column)) in
    let numbers = count_from 0 t.columns in
    record { some = omega (arith, count, numbers, some); most = omega (arith, count, numbers, most) }

-- a row that has these values in the columns has no others there
pub has_at-is : (row : List Value) (columns : List ℕ) (values : List Value) → has_at row columns values ≡ true →
    values_at row columns ≡ values
has_at-is row [] [] e = refl
has_at-is row [] (v ∷ vs) e = absurd (cc)
has_at-is row (c ∷ cs) [] e = absurd (cc)
has_at-is row (c ∷ cs) (v ∷ vs) e =
    let p = both (value_eq v (value_in row c)) (has_at row cs vs) e in
    let here : v ≡ value_in row c = value_is v (value_in row c) p.0 in
    let rest = has_at-is row cs vs p.1 in
    λ i. sym here i ∷ rest i

has_own : (row : List Value) (columns : List ℕ) → has_at row columns (values_at row columns) ≡ true
has_own row [] = refl
has_own row (c ∷ cs) = join (value_eq (value_in row c) (value_in row c)) (has_at row cs (values_at row cs))
    (value_self (value_in row c)) (has_own row cs)

pub is-has_at : (row : List Value) (columns : List ℕ) (values : List Value) → values_at row columns ≡ values →
    has_at row columns values ≡ true
is-has_at row columns values e = ap (has_at row columns) (sym e) ∙ has_own row columns
