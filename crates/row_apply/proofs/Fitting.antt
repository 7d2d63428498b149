-- Rows made of cells that fit a table fit it.
use Rattle.std.proofs.Common.{◌≡◌, ℕ, ◌+◌, ◌≤◌, ◌<◌, zero, suc, List, [], ◌∷◌, length, drop, map, refl, sym, ap, subst, ◌∙◌, Bool, true, false, ◌&&◌, ◌||◌, ◌==◌, arith, Some, if◌then◌else◌, slice_get, nat_le, nat_lt, unwrap_or, add-one}
use Rattle.std.specs.List.{list_any, list_all}
use Rattle.std.proofs.lemmas.Bool.Decides.{nat_tests}
use Rattle.rl_value.specs.declared.value.Value.{Value}
use Rattle.rl_value.specs.Text.{columns_rise}
use Rattle.redo_vec.specs.declared.columns.Column.{Column}
use Rattle.redo_vec.specs.declared.table.TableRow.{TableRow}
use Rattle.redo_spec.specs.ConflictKeys.{cell_of}
use Rattle.redo_spec.specs.Dictionary.{numbers_from}
use Rattle.redo_spec.specs.ChangeForm.{is_row_of, fits, fits_at, cells_fit, beyond}
use Rattle.redo_spec.specs.Tables.{value_in}
use Rattle.redo_spec.specs.Effect.{cell_values, with_cells}

pub both : (a b : Bool) → (a && b) ≡ true → (a ≡ true) × (b ≡ true)
both true true e = (refl, refl)
both true false e = absurd (cc)
both false b e = absurd (cc)

pub join : (a b : Bool) → a ≡ true → b ≡ true → (a && b) ≡ true
join true b x y = y
join false b x y = absurd (cc)

pub either : (a b : Bool) → (a || b) ≡ false → (a ≡ false) × (b ≡ false)
either true b e = absurd (cc)
either false b e = (refl, e)

pub three : (a b c : Bool) → (a && b && c) ≡ true → (a ≡ true) × (b ≡ true) × (c ≡ true)
three true true true e = (refl, refl, refl)
three true true false e = absurd (cc)
three true false c e = absurd (cc)
three false b c e = absurd (cc)

-- rising columns below a bound are no more than there is room for
pub room : (from bound : ℕ) (cells : List (ℕ × Value)) → from ≤ bound → columns_rise from cells ≡ true →
    list_any (λ cell. nat_le bound cell.0) cells ≡ false → from + length cells ≤ bound
room from bound [] low r b = omega (arith, low)
room from bound (cell ∷ cells) low r b =
    let p = three (nat_le from cell.0) (nat_lt cell.0 32) (columns_rise (cell.0 + 1) cells) r in
    let q = either (nat_le bound cell.0) (list_any (λ (c : ℕ × Value). nat_le bound c.0) cells) b in
    let above : from ≤ cell.0 = grind (arith, nat_tests, p.0) in
    let under : cell.0 < bound = grind (arith, nat_tests, q.0) in
    let rest = room (cell.0 + 1) bound cells (omega (arith, under)) p.2 q.1 in
    omega (arith, above, rest)

slice_first : (n : ℕ) (all : List Column) (c : Column) (cs : List Column) → drop n all ≡ c ∷ cs → (slice_get all n ≡ Some c) ×
    (drop (suc n) all ≡ cs)
slice_first zero [] c cs e = absurd (cc)
slice_first zero (a ∷ all) c cs e = (cc, cc)
slice_first (suc n) [] c cs e = absurd (cc)
slice_first (suc n) (a ∷ all) c cs e = slice_first n all c cs e

all_columns : (n bound : ℕ) (all cs : List Column) (cells : List (ℕ × Value)) → drop n all ≡ cs → n + length cs ≡ bound →
    length cells ≡ length cs → columns_rise n cells ≡ true →
    list_any (λ cell. nat_le bound cell.0) cells ≡ false → list_all (λ cell. fits_at (slice_get all cell.0) cell.1) cells ≡ true →
    is_row_of cs (cell_values cells) ≡ true
all_columns n bound all [] [] d b l r u f = refl
all_columns n bound all [] (cell ∷ cells) d b l r u f = absurd (omega (arith, l))
all_columns n bound all (c ∷ cs) [] d b l r u f = absurd (omega (arith, l))
all_columns n bound all (c ∷ cs) (cell ∷ cells) d b l r u f =
    let p = three (nat_le n cell.0) (nat_lt cell.0 32) (columns_rise (cell.0 + 1) cells) r in
    let q = either (nat_le bound cell.0) (list_any (λ (x : ℕ × Value). nat_le bound x.0) cells) u in
    let above : n ≤ cell.0 = grind (arith, nat_tests, p.0) in
    let under : cell.0 < bound = grind (arith, nat_tests, q.0) in
    let rest = room (cell.0 + 1) bound cells (omega (arith, under)) p.2 q.1 in
    let same : cell.0 ≡ n = omega (arith, above, rest, b, l) in
    let s = slice_first n all c cs d in
    let g = both (fits_at (slice_get all cell.0) cell.1)
    (list_all (λ (x : ℕ × Value). fits_at (slice_get all x.0) x.1) cells) f in
    let here : fits c cell.1 ≡ true = sym (ap (λ o. fits_at o cell.1) (ap (slice_get all) same ∙ s.0)) ∙ g.0 in
    let rises : columns_rise (n + 1) cells ≡ true = subst (λ (k : ℕ). columns_rise (k + 1) cells ≡ true) same p.2 in
    join (fits c cell.1) (is_row_of cs (cell_values cells)) here
    (all_columns (n + 1) bound all cs cells (ap (λ k. drop k all) (add-one n) ∙ s.1) (omega (arith, b))
    (omega (arith, l)) rises q.1 g.1)

-- the values of all new cells are a row of the table
pub inserted_fits : (t : TableRow) (cells : List (ℕ × Value)) → columns_rise 0 cells ≡ true → length cells ≡ length t.columns →
    beyond t cells ≡ false → cells_fit t cells ≡ true → is_row_of t.columns (cell_values cells) ≡ true
inserted_fits t cells r l u f = all_columns 0 (length t.columns) t.columns t.columns cells refl (omega arith) l r u f

-- ---- a row with cells put in

values_first : (n : ℕ) (row : List Value) (v : Value) (vs : List Value) → drop n row ≡ v ∷ vs → (value_in row n ≡ v) ×
    (drop (suc n) row ≡ vs)
values_first zero [] v vs e = absurd (cc)
values_first zero (a ∷ row) v vs e = (cc, cc)
values_first (suc n) [] v vs e = absurd (cc)
values_first (suc n) (a ∷ row) v vs e = values_first n row v vs e

cell_fits : (columns : List Column) (cells : List (ℕ × Value)) (n : ℕ) (c : Column) (old : Value) → slice_get columns n ≡ Some c →
    fits c old ≡ true →
    list_all (λ cell. fits_at (slice_get columns cell.0) cell.1) cells ≡ true → fits c (unwrap_or (cell_of cells n) old) ≡ true
cell_fits columns [] n c old s f all = f
cell_fits columns ((column, value) ∷ cells) n c old s f all =
    let g = both (fits_at (slice_get columns column) value)
    (list_all (λ (x : ℕ × Value). fits_at (slice_get columns x.0) x.1) cells) all in
    elim (column == n) as (λ b. (column == n) ≡ b → fits c (unwrap_or (if b then Some value else cell_of cells n) old) ≡ true) [
      | true ↦ λ t.
          let same : column ≡ n = grind (arith, nat_tests) in
          sym (ap (λ o. fits_at o value) (ap (slice_get columns) same ∙ s)) ∙ g.0
      | false ↦ λ t. cell_fits columns cells n c old s f g.1
    ] refl

put_columns : (n : ℕ) (all cs : List Column) (row vs : List Value) (cells : List (ℕ × Value)) → drop n all ≡ cs →
    drop n row ≡ vs → is_row_of cs vs ≡ true →
    list_all (λ cell. fits_at (slice_get all cell.0) cell.1) cells ≡ true →
    is_row_of cs (map (λ column. unwrap_or (cell_of cells column) (value_in row column)) (numbers_from n cs)) ≡ true
put_columns n all [] row vs cells d w r f = refl
put_columns n all (c ∷ cs) row [] cells d w r f = absurd (cc)
put_columns n all (c ∷ cs) row (v ∷ vs) cells d w r f =
    let s = slice_first n all c cs d in
    let x = values_first n row v vs w in
    let g = both (fits c v) (is_row_of cs vs) r in
    join (fits c (unwrap_or (cell_of cells n) (value_in row n)))
    (is_row_of cs (map (λ column. unwrap_or (cell_of cells column) (value_in row column)) (numbers_from (n + 1) cs)))
    (cell_fits all cells n c (value_in row n) s.0 (ap (fits c) x.0 ∙ g.0) f)
    (put_columns (n + 1) all cs row vs cells (ap (λ k. drop k all) (add-one n) ∙ s.1)
    (ap (λ k. drop k row) (add-one n) ∙ x.1) g.1 f)

-- a row of the table with cells put in is one
pub updated_fits : (t : TableRow) (row : List Value) (cells : List (ℕ × Value)) → is_row_of t.columns row ≡ true →
    cells_fit t cells ≡ true → is_row_of t.columns (with_cells t row cells) ≡ true
updated_fits t row cells r f = put_columns 0 t.columns t.columns row row cells refl refl r f
