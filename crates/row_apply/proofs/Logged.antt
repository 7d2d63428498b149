-- The old cells of an accepted UPDATE or DELETE name the whole primary key, so its values are a row.
use Rattle.std.proofs.Common.{◌≡◌, ◌≢◌, ℕ, ◌+◌, ◌≤◌, ◌<◌, List, [], ◌∷◌, length, filter, refl, ap, ◌∙◌, Bool, true, false, cond, not, ◌&&◌, ◌||◌, ◌==◌, nat_le, nat_lt, arith, slice_get, Option, Some, None, is_some}
use Rattle.std.specs.List.{filter_map, cons_option, list_any, list_all}
use Rattle.std.proofs.lemmas.Bool.Decides.{nat_tests}
use Rattle.rl_value.specs.declared.value.Value.{Value}
use Rattle.rl_value.specs.Order.{same_bytes}
use Rattle.rl_value.specs.Outcome.{is_empty}
use Rattle.rl_value.specs.Text.{IsRow, columns_rise}
use Rattle.redo_vec.specs.Forms.{is_key_columns}
use Rattle.redo_vec.specs.declared.change.Change.{Change}
use Rattle.redo_vec.specs.declared.change.Op.{Op}
use Rattle.redo_vec.specs.declared.change.Op.TheVariants.{Insert, Update, Delete}
use Rattle.redo_vec.specs.declared.columns.Column.{Column}
use Rattle.redo_vec.specs.declared.table.TableRow.{TableRow}
use Rattle.redo_spec.specs.ChangeForm.{change_fault_in, has_column, columns_of, is_supplemental, wrong_supplement, wrong_cells, beyond, has_cell}
use Rattle.redo_spec.specs.ConflictKeys.{cell_of}
use Rattle.redo_spec.specs.Dictionary.{first_of, primary_of, uniques_of, numbers_from, column_numbers, has_bad_keys, stands_twice, is_nullable}
use Rattle.redo_spec.specs.Effect.{logged_key}
use Rattle.row_apply.proofs.Accepted.{accepted, holds}
use Rattle.row_apply.proofs.Fitting.{both, either, three, room}

pub left : (a b : Bool) → a ≡ true → (a || b) ≡ true
left true b e = refl
left false b e = absurd (cc)

pub right : (a b : Bool) → b ≡ true → (a || b) ≡ true
right true b e = refl
right false b e = e

-- ---- the columns of the primary key are columns of the table

first_within : (n : ℕ) (keys : List (List ℕ)) → list_all (λ key. list_all (λ c. nat_lt c n) key) keys ≡ true →
    list_all (λ c. nat_lt c n) (first_of keys) ≡ true
first_within n [] e = refl
first_within n (key ∷ keys) e = (both (list_all (λ c. nat_lt c n) key)
    (list_all (λ (k : List ℕ). list_all (λ c. nat_lt c n) k) keys) e).0

pub primary_within : (t : TableRow) → has_bad_keys t ≡ false → list_all (λ c. nat_lt c (length t.columns)) (primary_of t) ≡ true
primary_within t e =
    let inside = list_all (λ key. list_all (λ c. nat_lt c (length t.columns)) key) t.keys in
    let nulls = list_any (λ c. is_nullable (slice_get t.columns c)) (primary_of t) in
    first_within (length t.columns) t.keys (holds inside
    (either (not inside) nulls (either (not inside || nulls) (stands_twice t.keys) e).0).0)

-- ---- the old cells have them

-- among the numbers of the columns those that pass are there
pub passed : (test : ℕ → Bool) (p n : ℕ) (cs : List Column) → test p ≡ true → n ≤ p → p < n + length cs →
    has_column (filter test (numbers_from n cs)) p ≡ true
passed test p n [] t low high = absurd (omega (arith, low, high))
passed test p n (c ∷ cs) t low high =
    elim (n == p) as (λ b. (n == p) ≡ b → has_column (cond (test n) (n ∷ filter test (numbers_from (n + 1) cs))
    (filter test (numbers_from (n + 1) cs))) p ≡ true) [
      | true ↦ λ is.
          let same : n ≡ p = grind (arith, nat_tests) in
          ap (λ b. has_column (cond b (n ∷ filter test (numbers_from (n + 1) cs)) (filter test (numbers_from (n + 1) cs))) p)
          (ap test same ∙ t) ∙ left (n == p) _ is
      | false ↦ λ other.
          let above : n + 1 ≤ p = grind (arith, nat_tests, other, low) in
          let there = passed test p (n + 1) cs t above (omega (arith, high)) in
          elim (test n) as (λ b. has_column (cond b (n ∷ filter test (numbers_from (n + 1) cs))
          (filter test (numbers_from (n + 1) cs))) p ≡ true) [
            | true ↦ right (n == p) _ there
            | false ↦ there
          ]
    ] refl

-- as many cells as columns are of all columns
pub covered : (n bound p : ℕ) (cells : List (ℕ × Value)) → columns_rise n cells ≡ true →
    list_any (λ cell. nat_le bound cell.0) cells ≡ false → n + length cells ≡ bound → n ≤ p → p < bound →
    has_column (columns_of cells) p ≡ true
covered n bound p [] r u l low high = absurd (omega (arith, l, low, high))
covered n bound p (cell ∷ cells) r u l low high =
    let g = three (nat_le n cell.0) (nat_lt cell.0 32) (columns_rise (cell.0 + 1) cells) r in
    let q = either (nat_le bound cell.0) (list_any (λ (c : ℕ × Value). nat_le bound c.0) cells) u in
    let above : n ≤ cell.0 = grind (arith, nat_tests, g.0) in
    let under : cell.0 < bound = grind (arith, nat_tests, q.0) in
    let rest = room (cell.0 + 1) bound cells (omega (arith, under)) g.2 q.1 in
    let same : cell.0 ≡ n = omega (arith, above, rest, l) in
    elim (cell.0 == p) as (λ b. (cell.0 == p) ≡ b → has_column (cell.0 ∷ columns_of cells) p ≡ true) [
      | true ↦ λ is. left (cell.0 == p) _ is
      | false ↦ λ other.
          let beside : cell.0 + 1 ≤ p = grind (arith, nat_tests, other, low, same) in
          right (cell.0 == p) _ (covered (cell.0 + 1) bound p cells g.2 q.1 (omega (arith, same, l)) beside high)
    ] refl

pub same_is : (xs ys : List ℕ) → same_bytes xs ys ≡ true → xs ≡ ys
same_is [] [] e = refl
same_is [] (y ∷ ys) e = absurd (cc)
same_is (x ∷ xs) [] e = absurd (cc)
same_is (x ∷ xs) (y ∷ ys) e =
    let g = both (x == y) (same_bytes xs ys) e in
    let here : x ≡ y = grind (arith, nat_tests, g.0) in
    let rest = same_is xs ys g.1 in
    λ i. here i ∷ rest i

-- a column of the primary key is among the old cells of an accepted change that is no INSERT
pub old_has : (t : TableRow) (c : Change) (op : Op) (p : ℕ) → op ≢ Insert → columns_rise 0 c.old ≡ true → beyond t c.old ≡ false →
    wrong_cells t op c.old c.new ≡ false → wrong_supplement t op c.old c.new ≡ false →
    has_column (primary_of t) p ≡ true → p < length t.columns → has_column (columns_of c.old) p ≡ true
old_has t c Insert p other r u shape logged first inside = absurd (other refl)
old_has t c Update p other r u shape logged first inside =
    let supplemental : is_supplemental t c.new p ≡ true =
    left (has_column (primary_of t) p || has_cell c.new p)
    (list_any (λ key. has_column key p && list_any (has_cell c.new) key) (uniques_of t))
    (left (has_column (primary_of t) p) (has_cell c.new p) first) in
    ap (λ (columns : List ℕ). has_column columns p) (same_is (columns_of c.old)
    (filter (is_supplemental t c.new) (column_numbers t))
    (holds (same_bytes (columns_of c.old) (filter (is_supplemental t c.new) (column_numbers t))) logged))
    ∙ passed (is_supplemental t c.new) p 0 t.columns supplemental (omega arith) (omega (arith, inside))
old_has t c Delete p other r u shape logged first inside =
    let whole = both (is_empty c.new) (length c.old == length t.columns)
    (holds (is_empty c.new && (length c.old == length t.columns)) shape) in
    let count : length c.old ≡ length t.columns = grind (arith, nat_tests, whole.1) in
    covered 0 (length t.columns) p c.old r u (omega (arith, count)) (omega arith) inside

-- ---- their values are a row

pub cell_there : (cells : List (ℕ × Value)) (p : ℕ) → has_column (columns_of cells) p ≡ true → is_some (cell_of cells p) ≡ true
cell_there [] p e = absurd (cc)
cell_there ((column, value) ∷ cells) p e =
    elim (column == p) as (λ b. (b || has_column (columns_of cells) p) ≡ true →
    is_some (cond b (Some value) (cell_of cells p)) ≡ true) [
      | true ↦ λ h. refl
      | false ↦ λ h. cell_there cells p h
    ] e

one_more : {A : Type 0} (o : Option A) (rest : List A) → is_some o ≡ true → 1 ≤ length (cons_option o rest)
one_more None rest e = absurd (cc)
one_more (Some x) rest e = omega arith

no_longer : {A : Type 0} (o : Option A) (rest : List A) → length (cons_option o rest) ≤ 1 + length rest
no_longer None rest = omega arith
no_longer (Some x) rest = omega arith

no_more : (cells : List (ℕ × Value)) (columns : List ℕ) → length (filter_map (cell_of cells) columns) ≤ length columns
no_more cells [] = omega arith
no_more cells (c ∷ cs) =
    let rest = no_more cells cs in
    let here = no_longer (cell_of cells c) (filter_map (cell_of cells) cs) in
    omega (arith, rest, here)

first_there : (cells : List (ℕ × Value)) (columns : List ℕ) (n : ℕ) → is_key_columns columns ≡ true →
    list_all (λ c. nat_lt c n) columns ≡ true →
    ((p : ℕ) → has_column columns p ≡ true → p < n → has_column (columns_of cells) p ≡ true) →
    1 ≤ length (filter_map (cell_of cells) columns)
first_there cells [] n form inside each = absurd (cc)
first_there cells (p ∷ ps) n form inside each =
    let low = both (nat_lt p n) (list_all (λ c. nat_lt c n) ps) inside in
    let own : (p == p) ≡ true = grind (arith, nat_tests) in
    one_more (cell_of cells p) (filter_map (cell_of cells) ps)
    (cell_there cells p (each p (left (p == p) _ own) (grind (arith, nat_tests, low.0))))

pub logged_is_row : (t : TableRow) (c : Change) → has_bad_keys t ≡ false → change_fault_in t c ≡ None → c.op ≢ Insert →
    columns_rise 0 c.old ≡ true → is_key_columns (primary_of t) ≡ true → length (primary_of t) ≤ 32 →
    IsRow (logged_key t c.old)
logged_is_row t c keys e op rising form few =
    let a = accepted t c e in
    let no_longer = no_more c.old (primary_of t) in
    record {
      some = first_there c.old (primary_of t) (length t.columns) form (primary_within t keys)
          (λ p. old_has t c c.op p op rising a.within_old a.shape a.logged);
      most = omega (arith, few, no_longer);
    }
