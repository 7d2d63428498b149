-- Whether a row has these values: among rows one of which goes, and to which one comes.
use Rattle.std.proofs.Common.{◌≡◌, ℕ, List, refl, sym, ap, ◌∙◌, Bool, true, false, cond, Option, Some, None, is_some}
use Rattle.std.proofs.Math.Dec.{T}
use Rattle.std.specs.List.{list_any}
use Rattle.std.specs.Ordering.{eq_by_cmp}
use Rattle.std.specs.FinMap.Entries as entries
use Rattle.rl_value.specs.declared.value.Value.{Value}
use Rattle.rl_value.specs.Order.{row_cmp, row_total}
use Rattle.redo_spec.specs.ConflictKeys.{is_null}
use Rattle.redo_spec.specs.Tables.{Rows, values_at, owner_in}
use Rattle.row_apply.specs.Soundness.{HaveOneOwner}
use Rattle.row_apply.specs.Adding.{rows_without, goes}
use Rattle.row_apply.proofs.Orders.{row_is, row_self}
use Rattle.row_apply.proofs.Owners.{owner_found, none_owns, owner_none, left_was}
use Rattle.row_apply.proofs.Slots.{find_minus, sorted_minus}

-- some row has the values in the columns
abbrev pub is_held : Rows → List ℕ → List Value → Bool
is_held rows columns values = is_some (owner_in rows columns values)

pub held : (rows : Rows) (columns : List ℕ) (values key row : List Value) → entries.find row_cmp key rows ≡ Some row →
    values_at row columns ≡ values → is_held rows columns values ≡ true
held rows columns values key row f v =
    elim (owner_in rows columns values) as (λ o. owner_in rows columns values ≡ o → is_some o ≡ true) [
      | None ↦ λ e. absurd (none_owns rows columns values key row e f v)
      | Some owner ↦ λ e. refl
    ] refl

pub unheld : (rows : Rows) (columns : List ℕ) (values : List Value) → T (entries.is_sorted row_cmp rows) →
    ((key row : List Value) → entries.find row_cmp key rows ≡ Some row → values_at row columns ≡ values → ⊥) →
    is_held rows columns values ≡ false
unheld rows columns values s never = ap is_some (owner_none rows columns values s never)

-- values that are equal to those of a row tie with them
ties : (row other values : List Value) (columns : List ℕ) → row ≡ other → values_at other columns ≡ values →
    eq_by_cmp row_cmp (values_at row columns) values ≡ true
ties row other values columns is v =
    ap (λ r. eq_by_cmp row_cmp (values_at r columns) values) is ∙ ap (λ vs. eq_by_cmp row_cmp vs values) v ∙ row_self values

-- ---- a row comes

other_stays : (b : Bool) (key new row x : List Value) (rows : Rows) → eq_by_cmp row_cmp key new ≡ b →
    entries.find row_cmp new rows ≡ None → entries.find row_cmp key rows ≡ Some x →
    cond b (Some row) (entries.find row_cmp key rows) ≡ Some x
other_stays true key new row x rows e none f =
    let gone : entries.find row_cmp key rows ≡ None = ap (λ k. entries.find row_cmp k rows) (row_is key new e) ∙ none in
    absurd (cc)
other_stays false key new row x rows e none f = f

put_found : (b : Bool) (row x : List Value) (F : Option (List Value)) → cond b (Some row) F ≡ Some x → (A : Type 0) →
    (row ≡ x → A) → (F ≡ Some x → A) → A
put_found true row x F e A here there = here (cc)
put_found false row x F e A here there = there e

pub held_put : (rows : Rows) (columns : List ℕ) (values new row : List Value) → T (entries.is_sorted row_cmp rows) →
    entries.find row_cmp new rows ≡ None → is_held (entries.put row_cmp new row rows) columns values ≡
    cond (eq_by_cmp row_cmp (values_at row columns) values) true (is_held rows columns values)
held_put rows columns values new row s none =
    let after = entries.put row_cmp new row rows in
    elim (eq_by_cmp row_cmp (values_at row columns) values) as (λ b. eq_by_cmp row_cmp (values_at row columns) values ≡ b →
    is_held after columns values ≡ cond b true (is_held rows columns values)) [
      | true ↦ λ e. held after columns values new row
          (entries.find-put row_cmp row_total new new row rows
          ∙ ap (λ b. cond b (Some row) (entries.find row_cmp new rows)) (row_self new)) (row_is (values_at row columns) values e)
      | false ↦ λ e. elim (owner_in rows columns values) as (λ o. owner_in rows columns values ≡ o →
          is_held after columns values ≡ is_some o) [
            | Some owner ↦ λ o.
                let p = owner_found rows columns values owner s o in
                held after columns values owner p.0 (entries.find-put row_cmp row_total owner new row rows
                ∙ other_stays (eq_by_cmp row_cmp owner new) owner new row p.0 rows refl none p.1.0) p.1.1
            | None ↦ λ o. unheld after columns values (entries.is_sorted-put row_cmp row_total new row rows s) (λ key x f v.
                put_found (eq_by_cmp row_cmp key new) row x (entries.find row_cmp key rows)
                (sym (entries.find-put row_cmp row_total key new row rows) ∙ f) ⊥
                (λ is. let tie = ties row x values columns is v in cc) (λ was. none_owns rows columns values key x o was v))
          ] refl
    ] refl

-- ---- a row goes

still_there : (b : Bool) (gone owner row x values : List Value) (columns : List ℕ) (rows : Rows) →
    eq_by_cmp row_cmp owner gone ≡ b →
    entries.find row_cmp gone rows ≡ Some row → entries.find row_cmp owner rows ≡ Some x → values_at x columns ≡ values →
    eq_by_cmp row_cmp (values_at row columns) values ≡ false → cond b None (entries.find row_cmp owner rows) ≡ Some x
still_there true gone owner row x values columns rows e f g v other =
    let there : entries.find row_cmp owner rows ≡ Some row = ap (λ k. entries.find row_cmp k rows) (row_is owner gone e) ∙ f in
    let is : row ≡ x = cc in
    let tie = ties row x values columns is v in
    absurd (cc)
still_there false gone owner row x values columns rows e f g v other = g

pub held_minus : (rows : Rows) (columns : List ℕ) (values gone row : List Value) → T (entries.is_sorted row_cmp rows) →
    HaveOneOwner columns rows → list_any is_null values ≡ false → entries.find row_cmp gone rows ≡ Some row →
    is_held (rows_without (Some gone) rows) columns values ≡
    cond (eq_by_cmp row_cmp (values_at row columns) values) false (is_held rows columns values)
held_minus rows columns values gone row s one full f =
    let after = rows_without (Some gone) rows in
    elim (eq_by_cmp row_cmp (values_at row columns) values) as (λ b. eq_by_cmp row_cmp (values_at row columns) values ≡ b →
    is_held after columns values ≡ cond b false (is_held rows columns values)) [
      | true ↦ λ e. unheld after columns values (sorted_minus (Some gone) rows s) (λ key x g v.
          let has = row_is (values_at row columns) values e in
          let l = left_was (Some gone) key x rows g in
          let same : gone ≡ key = one gone key row x f l.1 (ap (list_any is_null) has ∙ full) (has ∙ sym v) in
          let going : goes (Some gone) key ≡ true = ap (λ k. eq_by_cmp row_cmp k gone) (sym same) ∙ row_self gone in
          let stays : goes (Some gone) key ≡ false = l.0 in
          cc)
      | false ↦ λ e. elim (owner_in rows columns values) as (λ o. owner_in rows columns values ≡ o →
          is_held after columns values ≡ is_some o) [
            | Some owner ↦ λ o.
                let p = owner_found rows columns values owner s o in
                held after columns values owner p.0 (find_minus (Some gone) owner rows
                ∙ still_there (goes (Some gone) owner) gone owner row p.0 values columns rows refl f p.1.0 p.1.1 e) p.1.1
            | None ↦ λ o. unheld after columns values (sorted_minus (Some gone) rows s) (λ key x g v.
                none_owns rows columns values key x o (left_was (Some gone) key x rows g).1 v)
          ] refl
    ] refl
