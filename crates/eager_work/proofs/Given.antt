-- The keys that a change touches: those of the rows that it takes away and adds, as far as it may change who has them.
use Rattle.std.proofs.Common.{◌≡◌, ℕ, ◌+◌, ◌<◌, zero, suc, List, [], ◌∷◌, ◌++◌, length, drop, map, filter, refl, sym, ap, ◌∙◌, Bool, true, false, cond, not, ◌&&◌, ◌||◌, ◌==◌, nat_lt, arith, slice_get, unwrap_or, Option, Some, None}
use Rattle.std.specs.List.{list_any, list_all, flat_map, enumerate_from}
use Rattle.std.specs.Ordering.{is_eq}
use Rattle.std.proofs.lemmas.Bool.Decides.{nat_tests}
use Rattle.rl_value.specs.declared.value.Value.{Value}
use Rattle.rl_value.specs.declared.key.Key.{Key}
use Rattle.rl_value.specs.Order.{key_cmp, same_bytes}
use Rattle.rl_value.specs.Outcome.{all_of, is_empty}
use Rattle.rl_value.specs.Text.{columns_rise}
use Rattle.redo_vec.specs.declared.change.Change.{Change}
use Rattle.redo_vec.specs.declared.change.Op.TheVariants.{Insert, Update, Delete}
use Rattle.redo_vec.specs.declared.table.TableRow.{TableRow}
use Rattle.redo_spec.specs.ChangeForm.{change_fault_in, has_column, has_cell, columns_of, is_supplemental, wrong_cells, wrong_supplement}
use Rattle.redo_spec.specs.ConflictKeys.{cell_of, is_null, key_if_whole, key_by_columns, keys_given}
use Rattle.redo_spec.specs.Dictionary.{primary_of, uniques_of, column_numbers, has_bad_keys, stands_twice, is_nullable}
use Rattle.redo_spec.specs.Effect.{cell_values, with_cells, difference}
use Rattle.redo_spec.specs.Tables.{value_in, values_at}
use Rattle.row_apply.specs.Kept.{row_key, unique_key}
use Rattle.row_apply.proofs.Accepted.{accepted, insert_count, holds}
use Rattle.row_apply.proofs.Fitting.{both, either}
use Rattle.row_apply.proofs.Logged.{left, right, passed, covered, same_is, cell_there}
use Rattle.row_apply.proofs.Orders.{key_self}
use Rattle.row_apply.proofs.Untouched.{all_values, within, cell_value, number_at, joined_value, logged_value}

-- the key is among these
abbrev pub among : List Key → Key → Bool
among keys q = list_any (λ k. is_eq (key_cmp k q)) keys

pub any_front : {A : Type 0} (p : A → Bool) (xs ys : List A) → list_any p xs ≡ true → list_any p (xs ++ ys) ≡ true
any_front p [] ys e = absurd (cc)
any_front p (x ∷ xs) ys e =
    elim (p x) as (λ b. (b || list_any p xs) ≡ true → (b || list_any p (xs ++ ys)) ≡ true) [
      | true ↦ λ h. refl
      | false ↦ λ h. any_front p xs ys h
    ] e

pub any_back : {A : Type 0} (p : A → Bool) (xs ys : List A) → list_any p ys ≡ true → list_any p (xs ++ ys) ≡ true
any_back p [] ys e = e
any_back p (x ∷ xs) ys e = right (p x) (list_any p (xs ++ ys)) (any_back p xs ys e)

-- ---- keys that cells give

abbrev of_index : ℕ → ℕ → List Value → Key
of_index id index values = record { table = id; index = index; values = values }

given_at : (id m n i : ℕ) (given : ℕ → Option Value) (us : List (List ℕ)) (columns : List ℕ) (values : List Value) →
    slice_get us i ≡ Some columns → m ≡ n + i → all_of (map given columns) ≡ Some values →
    (nat_lt 0 m && list_any is_null values) ≡ false →
    among (flat_map (key_by_columns id given) (enumerate_from n us)) (of_index id m values) ≡ true
given_at id m n i given [] columns values s is all whole = absurd (cc)
given_at id m n zero given (u ∷ us) columns values s is all whole =
    let q = of_index id m values in
    let rest = flat_map (key_by_columns id given) (enumerate_from (n + 1) us) in
    let same : u ≡ columns = cc in
    let at : n ≡ m = omega (arith, is) in
    let first : key_if_whole id n (all_of (map given u)) ≡ q ∷ [] =
    ap (λ (cs : List ℕ). key_if_whole id n (all_of (map given cs))) same
    ∙ ap (λ (k : ℕ). key_if_whole id k (all_of (map given columns))) at
    ∙ ap (key_if_whole id m) all
    ∙ ap (λ (b : Bool). cond b [] (q ∷ [])) whole in
    ap (λ (ks : List Key). among (ks ++ rest) q) first ∙ left (is_eq (key_cmp q q)) (among rest q) (key_self q)
given_at id m n (suc i) given (u ∷ us) columns values s is all whole =
    any_back (λ k. is_eq (key_cmp k (of_index id m values))) (key_if_whole id n (all_of (map given u)))
    (flat_map (key_by_columns id given) (enumerate_from (n + 1) us))
    (given_at id m (n + 1) i given us columns values s (omega (arith, is)) all whole)

-- a unique key of a table is one of its keys
slice_behind : (keys : List (List ℕ)) (i : ℕ) (columns : List ℕ) → slice_get (drop 1 keys) i ≡ Some columns →
    slice_get keys (suc i) ≡ Some columns
slice_behind [] i columns s = s
slice_behind (k ∷ keys) i columns s = s

whole_unique : (i : ℕ) (values : List Value) → list_any is_null values ≡ false →
    (nat_lt 0 (suc i) && list_any is_null values) ≡ false
whole_unique i values e =
    let later : nat_lt 0 (suc i) ≡ true = grind (arith, nat_tests) in
    ap (λ (b : Bool). b && list_any is_null values) later ∙ e

pub unique_given : (t : TableRow) (given : ℕ → Option Value) (i : ℕ) (columns : List ℕ) (values : List Value) →
    slice_get (uniques_of t) i ≡ Some columns → all_of (map given columns) ≡ Some values → list_any is_null values ≡ false →
    among (keys_given t given) (unique_key t.id (suc i) values) ≡ true
unique_given t given i columns values s all whole =
    given_at t.id (suc i) 0 (suc i) given t.keys columns values (slice_behind t.keys i columns s) (omega arith) all
    (whole_unique i values whole)

-- the columns of the primary key, if there is a key
pub row_given : (t : TableRow) (given : ℕ → Option Value) (values : List Value) → slice_get t.keys 0 ≡ Some (primary_of t) →
    all_of (map given (primary_of t)) ≡ Some values → among (keys_given t given) (row_key t.id values) ≡ true
row_given t given values s all = given_at t.id 0 0 0 given t.keys (primary_of t) values s refl all refl

-- ---- the columns of keys

key_within : (n : ℕ) (keys : List (List ℕ)) (i : ℕ) (columns : List ℕ) →
    list_all (λ key. list_all (λ c. nat_lt c n) key) keys ≡ true → slice_get keys i ≡ Some columns →
    list_all (λ c. nat_lt c n) columns ≡ true
key_within n [] i columns all s = absurd (cc)
key_within n (k ∷ keys) zero columns all s =
    let same : k ≡ columns = cc in
    ap (λ (cs : List ℕ). list_all (λ c. nat_lt c n) cs) (sym same)
    ∙ (both (list_all (λ c. nat_lt c n) k) (list_all (λ (key : List ℕ). list_all (λ c. nat_lt c n) key) keys) all).0
key_within n (k ∷ keys) (suc i) columns all s =
    key_within n keys i columns
    (both (list_all (λ c. nat_lt c n) k) (list_all (λ (key : List ℕ). list_all (λ c. nat_lt c n) key) keys) all).1 s

all_within : (t : TableRow) → has_bad_keys t ≡ false →
    list_all (λ key. list_all (λ c. nat_lt c (length t.columns)) key) t.keys ≡ true
all_within t e =
    let inside = list_all (λ key. list_all (λ c. nat_lt c (length t.columns)) key) t.keys in
    let nulls = list_any (λ c. is_nullable (slice_get t.columns c)) (primary_of t) in
    holds inside (either (not inside) nulls (either (not inside || nulls) (stands_twice t.keys) e).0).0

pub unique_within : (t : TableRow) (i : ℕ) (columns : List ℕ) → has_bad_keys t ≡ false →
    slice_get (uniques_of t) i ≡ Some columns → list_all (λ c. nat_lt c (length t.columns)) columns ≡ true
unique_within t i columns e s =
    key_within (length t.columns) t.keys (suc i) columns (all_within t e) (slice_behind t.keys i columns s)

-- ---- the values that cells give

module _ (t : TableRow) (c : Change) (accept : change_fault_in t c ≡ None) (columns : List ℕ)
    (inside : list_all (λ p. nat_lt p (length t.columns)) columns ≡ true) where
  pub insert_values : c.op ≡ Insert → columns_rise 0 c.new ≡ true →
      all_of (map (cell_of c.new) columns) ≡ Some (values_at (cell_values c.new) columns)
  insert_values op r =
      let a = accepted t c accept in
      let count = insert_count t c op accept in
      let each : (p : ℕ) → has_column columns p ≡ true → cell_of c.new p ≡ Some (value_in (cell_values c.new) p) =
      λ p has.
      let low : p < length t.columns = within columns (length t.columns) p inside has in
      let number : p ≡ 0 + p = omega arith in
      ap (cell_of c.new) number ∙ cell_value 0 (length t.columns) p c.new r a.within (omega (arith, count))
      (omega (arith, count, low)) in
      all_values (cell_of c.new) (cell_values c.new) columns each

  -- of a row that is as it was logged
  pub old_values : (row : List Value) → difference row c.old ≡ None →
      ((p : ℕ) → has_column columns p ≡ true → has_column (columns_of c.old) p ≡ true) →
      all_of (map (cell_of c.old) columns) ≡ Some (values_at row columns)
  old_values row d each =
      all_values (cell_of c.old) row columns (λ p has. logged_value row c.old p d (cell_there c.old p (each p has)))

  pub new_values : (row : List Value) → difference row c.old ≡ None →
      ((p : ℕ) → has_column columns p ≡ true → has_column (columns_of c.old) p ≡ true) →
      all_of (map (cell_of (c.new ++ c.old)) columns) ≡ Some (values_at (with_cells t row c.new) columns)
  new_values row d each =
      all_values (cell_of (c.new ++ c.old)) (with_cells t row c.new) columns (λ p has.
      let number : p ≡ 0 + p = omega arith in
      joined_value c.new c.old p (value_in row p) (logged_value row c.old p d (cell_there c.old p (each p has)))
      ∙ ap (λ (v : Value). Some v)
      (ap (λ (column : ℕ). unwrap_or (cell_of c.new column) (value_in row column)) number
      ∙ sym (number_at (λ column. unwrap_or (cell_of c.new column) (value_in row column)) 0 p t.columns
      (within columns (length t.columns) p inside has))))

  -- a DELETE logs all columns
  pub delete_logs : c.op ≡ Delete → columns_rise 0 c.old ≡ true → (p : ℕ) → has_column columns p ≡ true →
      has_column (columns_of c.old) p ≡ true
  delete_logs op r p has =
      let a = accepted t c accept in
      let shape : not (is_empty c.new && (length c.old == length t.columns)) ≡ false =
      sym (ap (λ o. wrong_cells t o c.old c.new) op) ∙ a.shape in
      let whole = both (is_empty c.new) (length c.old == length t.columns)
      (holds (is_empty c.new && (length c.old == length t.columns)) shape) in
      let count : length c.old ≡ length t.columns = grind (arith, nat_tests, whole.1) in
      covered 0 (length t.columns) p c.old r a.within_old (omega (arith, count)) (omega arith)
      (within columns (length t.columns) p inside has)

-- ---- what an UPDATE logs

any_at : (test : List ℕ → Bool) (us : List (List ℕ)) (i : ℕ) (columns : List ℕ) → slice_get us i ≡ Some columns →
    test columns ≡ true → list_any test us ≡ true
any_at test [] i columns s e = absurd (cc)
any_at test (u ∷ us) zero columns s e =
    let same : u ≡ columns = cc in
    left (test u) (list_any test us) (ap test same ∙ e)
any_at test (u ∷ us) (suc i) columns s e = right (test u) (list_any test us) (any_at test us i columns s e)

two : (a b : Bool) → a ≡ true → b ≡ true → (a && b) ≡ true
two true b e f = f
two false b e f = absurd (cc)

-- all columns of a unique key of which it sets one
pub update_logs : (t : TableRow) (c : Change) (i : ℕ) (columns : List ℕ) → change_fault_in t c ≡ None → c.op ≡ Update →
    slice_get (uniques_of t) i ≡ Some columns → list_all (λ p. nat_lt p (length t.columns)) columns ≡ true →
    list_any (has_cell c.new) columns ≡ true → (p : ℕ) → has_column columns p ≡ true → has_column (columns_of c.old) p ≡ true
update_logs t c i columns accept op s inside set p has =
    let a = accepted t c accept in
    let logged : wrong_supplement t Update c.old c.new ≡ false = ap (λ o. wrong_supplement t o c.old c.new) (sym op) ∙ a.logged in
    let by_key : list_any (λ key. has_column key p && list_any (has_cell c.new) key) (uniques_of t) ≡ true =
    any_at (λ key. has_column key p && list_any (has_cell c.new) key) (uniques_of t) i columns s
    (two (has_column columns p) (list_any (has_cell c.new) columns) has set) in
    let supplemental : is_supplemental t c.new p ≡ true =
    right (has_column (primary_of t) p || has_cell c.new p)
    (list_any (λ key. has_column key p && list_any (has_cell c.new) key) (uniques_of t)) by_key in
    ap (λ (cs : List ℕ). has_column cs p) (same_is (columns_of c.old) (filter (is_supplemental t c.new) (column_numbers t))
    (holds (same_bytes (columns_of c.old) (filter (is_supplemental t c.new) (column_numbers t))) logged))
    ∙ passed (is_supplemental t c.new) p 0 t.columns supplemental (omega arith)
    (omega (arith, within columns (length t.columns) p inside has))

-- ---- a unique key of which no column is set

no_cell : (cells : List (ℕ × Value)) (p : ℕ) → has_cell cells p ≡ false → cell_of cells p ≡ None
no_cell [] p e = refl
no_cell ((column, value) ∷ cells) p e =
    elim (column == p) as (λ b. (b || has_cell cells p) ≡ false → (cond b (Some value) (cell_of cells p)) ≡ None) [
      | true ↦ λ h. absurd (cc)
      | false ↦ λ h. no_cell cells p h
    ] e

pub unset_values : (t : TableRow) (row : List Value) (cells : List (ℕ × Value)) (columns : List ℕ) →
    list_all (λ p. nat_lt p (length t.columns)) columns ≡ true → list_any (has_cell cells) columns ≡ false →
    values_at (with_cells t row cells) columns ≡ values_at row columns
unset_values t row cells [] inside unset = refl
unset_values t row cells (p ∷ columns) inside unset =
    let l = both (nat_lt p (length t.columns)) (list_all (λ q. nat_lt q (length t.columns)) columns) inside in
    let u = either (has_cell cells p) (list_any (has_cell cells) columns) unset in
    let low : p < length t.columns = grind (arith, nat_tests, l.0) in
    let number : 0 + p ≡ p = omega arith in
    let here : value_in (with_cells t row cells) p ≡ value_in row p =
    number_at (λ column. unwrap_or (cell_of cells column) (value_in row column)) 0 p t.columns low
    ∙ ap (λ (column : ℕ). unwrap_or (cell_of cells column) (value_in row column)) number
    ∙ ap (λ (o : Option Value). unwrap_or o (value_in row p)) (no_cell cells p u.0) in
    let rest = unset_values t row cells columns l.1 u.1 in
    λ i. here i ∷ rest i
