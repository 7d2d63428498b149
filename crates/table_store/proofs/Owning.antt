-- What an index and the rows answer is the owner, where one row has each unique value.
use Rattle.std.proofs.Common.{◌≡◌, ℕ, zero, suc, ◌-◌, ◌<◌, length, List, [], ◌∷◌, refl, sym, ap, ◌∙◌, true, false, cond, arith, Option, Some, None, slice_get, get_or, unwrap_or, drop}
use Rattle.std.specs.FinMap.Entries as entries
use Rattle.std.specs.List.{list_any}
use Rattle.std.specs.Ordering.{eq_by_cmp}
use Rattle.rl_value.specs.declared.value.Value.{Value}
use Rattle.rl_value.specs.Order.{row_cmp}
use Rattle.redo_vec.specs.declared.table.TableRow.{TableRow}
use Rattle.redo_spec.specs.ConflictKeys.{is_null}
use Rattle.redo_spec.specs.Dictionary.{uniques_of}
use Rattle.redo_spec.specs.Tables.{Rows, values_at, owner_in}
use Rattle.row_apply.specs.Found.{key_columns}
use Rattle.row_apply.specs.Soundness.{AreSoundRows}
use Rattle.row_apply.proofs.Orders.{row_is, row_self}
use Rattle.row_apply.proofs.Owners.{owner_found, none_owns}
use Rattle.row_apply.proofs.Slots.{to_T}
use Rattle.table_store.specs.Leads.{unique_of, IsLedBut, AreLedBut}
use Rattle.table_store.specs.Owners.{owner_if, owner_by}
use Rattle.table_store.proofs.Leading.{led_at, as_many_led}

own_value : (columns : List ℕ) (row values : List Value) → list_any is_null values ≡ false → values_at row columns ≡ values →
    unique_of columns row ≡ Some values
own_value columns row values full is =
    ap (λ b. cond b None (Some (values_at row columns))) (ap (list_any is_null) is ∙ full) ∙ ap Some is

owns : (columns : List ℕ) (values primary row : List Value) (rows : Rows) → entries.find row_cmp primary rows ≡ Some row →
    values_at row columns ≡ values → owner_by columns values rows (Some primary) ≡ Some primary
owns columns values primary row rows found is =
    ap (owner_if columns values primary) found ∙
    ap (λ b. cond b (Some primary) None) (ap (λ v. eq_by_cmp row_cmp v values) is ∙ row_self values)

never_if : (columns : List ℕ) (values primary : List Value) (found : Option (List Value)) →
    ((row : List Value) → found ≡ Some row → values_at row columns ≡ values → ⊥) →
    owner_if columns values primary found ≡ None
never_if columns values primary None never = refl
never_if columns values primary (Some row) never =
    elim (eq_by_cmp row_cmp (values_at row columns) values) as (λ b. eq_by_cmp row_cmp (values_at row columns) values ≡ b →
    cond b (Some primary) None ≡ None) [
      | true ↦ λ t. absurd (never row refl (row_is (values_at row columns) values t))
      | false ↦ λ t. refl
    ] refl

never_by : (columns : List ℕ) (values : List Value) (rows : Rows) (lead : Option (List Value)) →
    owner_in rows columns values ≡ None → owner_by columns values rows lead ≡ None
never_by columns values rows None none = refl
never_by columns values rows (Some primary) none =
    never_if columns values primary (entries.find row_cmp primary rows)
    (λ row found is. none_owns rows columns values primary row none found is)

pub owner_is_led : (columns : List ℕ) (rows index : Rows) (values : List Value) → entries.is_sorted row_cmp rows ≡ true →
    list_any is_null values ≡ false → IsLedBut columns [] rows index →
    owner_by columns values rows (entries.find row_cmp values index) ≡ owner_in rows columns values
owner_is_led columns rows index values sorted full led =
    elim (owner_in rows columns values) as (λ o. owner_in rows columns values ≡ o →
    owner_by columns values rows (entries.find row_cmp values index) ≡ o) [
      | None ↦ λ e. never_by columns values rows (entries.find row_cmp values index) e
      | Some owner ↦ λ e.
          let p = owner_found rows columns values owner (to_T (entries.is_sorted row_cmp rows) sorted) e in
          ap (owner_by columns values rows) (led owner p.0 values p.1.0 refl (own_value columns p.0 values full p.1.1)) ∙
          owns columns values owner p.0 rows p.1.0 p.1.1
    ] refl

-- ---- the columns of a unique key, by its number

columns_at : (keys : List (List ℕ)) (at : ℕ) (columns : List ℕ) → slice_get (drop 1 keys) at ≡ Some columns →
    unwrap_or (slice_get keys (suc at)) [] ≡ columns
columns_at [] at columns e = absurd (cc)
columns_at (k ∷ ks) at columns e = ap (λ o. unwrap_or o []) e

less_one : (n at : ℕ) → n ≡ suc at → n - 1 ≡ at
less_one n at e = omega (arith, e)

number_is : (t : TableRow) (number : ℕ) (columns : List ℕ) → 0 < number →
    slice_get (uniques_of t) (number - 1) ≡ Some columns → key_columns t number ≡ columns
number_is t zero columns some e = absurd (omega (arith, some))
number_is t (suc at) columns some e =
    columns_at t.keys at columns (ap (slice_get (uniques_of t)) (sym (less_one (suc at) at refl)) ∙ e)

pub owner_is_stored : (t : TableRow) (rows : Rows) (indexes : List Rows) (number : ℕ) (columns : List ℕ) (index : Rows)
    (values : List Value) → 0 < number → list_any is_null values ≡ false → AreLedBut (uniques_of t) [] rows indexes →
    slice_get (uniques_of t) (number - 1) ≡ Some columns → slice_get indexes (number - 1) ≡ Some index → AreSoundRows t rows →
    owner_by columns values rows (entries.find row_cmp values index) ≡ owner_in rows (key_columns t number) values
owner_is_stored t rows indexes number columns index values some full led key there sound =
    owner_is_led columns rows index values sound.rising full
    (led_at (uniques_of t) rows indexes (number - 1) columns index led key there) ∙
    ap (λ cs. owner_in rows cs values) (sym (number_is t number columns some key))

-- ---- the places of columns and index

item_at : {A : Type 0} (xs : List A) (at : ℕ) (x : A) → at < length xs → x ≡ get_or xs at x → slice_get xs at ≡ Some x
item_at [] at x inside is = absurd (omega (arith, inside))
item_at (y ∷ ys) zero x inside is = ap Some (sym is)
item_at (y ∷ ys) (suc at) x inside is = item_at ys at x (omega (arith, inside)) is

dropped_one : (keys : List (List ℕ)) → length (drop 1 keys) ≡ length keys - 1
dropped_one [] = refl
dropped_one (k ∷ ks) = omega arith

pub key_inside : (t : TableRow) (number : ℕ) → 0 < number → number < length t.keys → number - 1 < length (uniques_of t)
key_inside t number some inside =
    let count = dropped_one t.keys in
    omega (arith, count, some, inside)

pub index_inside : (t : TableRow) (rows : Rows) (indexes : List Rows) (number : ℕ) → 0 < number → number < length t.keys →
    AreLedBut (uniques_of t) [] rows indexes → number - 1 < length indexes
index_inside t rows indexes number some inside led =
    let key = key_inside t number some inside in
    let many = as_many_led (uniques_of t) [] rows indexes led in
    omega (arith, key, many)

pub owner_is_answered : (t : TableRow) (rows : Rows) (indexes : List Rows) (number : ℕ) (columns : List ℕ) (index : Rows)
    (values : List Value) → 0 < number → number < length t.keys → list_any is_null values ≡ false →
    AreLedBut (uniques_of t) [] rows indexes → columns ≡ get_or (uniques_of t) (number - 1) columns →
    index ≡ get_or indexes (number - 1) index → AreSoundRows t rows →
    owner_by columns values rows (entries.find row_cmp values index) ≡ owner_in rows (key_columns t number) values
owner_is_answered t rows indexes number columns index values some inside full led key there sound =
    owner_is_stored t rows indexes number columns index values some full led
    (item_at (uniques_of t) (number - 1) columns (key_inside t number some inside) key)
    (item_at indexes (number - 1) index (index_inside t rows indexes number some inside led) there) sound
