-- Two lists of a table's rows that agree at keys: under each row key stands the same row, and each unique value is had by a row
-- of both or of neither.
use Rattle.std.proofs.Common.{◌≡◌, ℕ, suc, List, refl, sym, ap, ◌∙◌, Bool, true, false, cond, slice_get, Option, Some, None, inl, inr}
use Rattle.std.specs.Prelude.{◌⊎◌}
use Rattle.std.specs.List.{list_any}
use Rattle.std.specs.Ordering.{eq_by_cmp}
use Rattle.std.specs.FinMap.Entries as entries
use Rattle.rl_value.specs.declared.value.Value.{Value}
use Rattle.rl_value.specs.declared.key.Key.{Key}
use Rattle.rl_value.specs.Order.{row_cmp, row_total}
use Rattle.redo_vec.specs.declared.table.TableRow.{TableRow}
use Rattle.redo_spec.specs.ConflictKeys.{is_null}
use Rattle.redo_spec.specs.Dictionary.{uniques_of}
use Rattle.redo_spec.specs.Tables.{Rows, values_at}
use Rattle.row_apply.specs.Adding.{rows_without, goes}
use Rattle.row_apply.specs.Kept.{row_key, unique_key}
use Rattle.row_apply.specs.Soundness.{AreSoundRows}
use Rattle.row_apply.proofs.Orders.{row_is}
use Rattle.row_apply.proofs.Slots.{to_T, find_minus, sorted_minus}
use Rattle.eager_work.proofs.Holding.{is_held, held, held_put, held_minus}
use Rattle.eager_work.proofs.Given.{among}

pub record Agree (t : TableRow) (keys : List Key) (rows others : Rows) : Type 0 where
  pub found : (k : List Value) → among keys (row_key t.id k) ≡ true →
      entries.find row_cmp k rows ≡ entries.find row_cmp k others
  pub holds : (i : ℕ) (columns : List ℕ) (values : List Value) → slice_get (uniques_of t) i ≡ Some columns →
      list_any is_null values ≡ false → among keys (unique_key t.id (suc i) values) ≡ true →
      is_held rows columns values ≡ is_held others columns values

-- ---- a row goes or comes in both

pub agree_minus : (t : TableRow) (keys : List Key) (rows others : Rows) (gone row : List Value) → AreSoundRows t rows →
    AreSoundRows t others → entries.find row_cmp gone rows ≡ Some row → entries.find row_cmp gone others ≡ Some row →
    Agree t keys rows others → Agree t keys (rows_without (Some gone) rows) (rows_without (Some gone) others)
agree_minus t keys rows others gone row s u f g a = record {
  found = λ k m. find_minus (Some gone) k rows
      ∙ ap (λ (o : Option (List Value)). cond (goes (Some gone) k) None o) (a.found k m) ∙ sym (find_minus (Some gone) k others);
  holds = λ i columns values at whole m.
      held_minus rows columns values gone row (to_T _ s.rising) (s.single i columns at) whole f
      ∙ ap (λ (b : Bool). cond (eq_by_cmp row_cmp (values_at row columns) values) false b) (a.holds i columns values at whole m)
      ∙ sym (held_minus others columns values gone row (to_T _ u.rising) (u.single i columns at) whole g);
}

pub agree_put : (t : TableRow) (keys : List Key) (rows others : Rows) (new row : List Value) → AreSoundRows t rows →
    AreSoundRows t others → entries.find row_cmp new rows ≡ None → entries.find row_cmp new others ≡ None →
    Agree t keys rows others → Agree t keys (entries.put row_cmp new row rows) (entries.put row_cmp new row others)
agree_put t keys rows others new row s u f g a = record {
  found = λ k m. entries.find-put row_cmp row_total k new row rows
      ∙ ap (λ (o : Option (List Value)). cond (eq_by_cmp row_cmp k new) (Some row) o) (a.found k m)
      ∙ sym (entries.find-put row_cmp row_total k new row others);
  holds = λ i columns values at whole m.
      held_put rows columns values new row (to_T _ s.rising) f
      ∙ ap (λ (b : Bool). cond (eq_by_cmp row_cmp (values_at row columns) values) true b) (a.holds i columns values at whole m)
      ∙ sym (held_put others columns values new row (to_T _ u.rising) g);
}

-- ---- what other keys say is not changed

apart : (keys : List Key) (id : ℕ) (q k : List Value) → among keys (row_key id q) ≡ true → among keys (row_key id k) ≡ false →
    eq_by_cmp row_cmp q k ≡ false
apart keys id q k m n =
    elim (eq_by_cmp row_cmp q k) as (λ b. eq_by_cmp row_cmp q k ≡ b → b ≡ false) [
      | true ↦ λ e.
          let there : among keys (row_key id k) ≡ true =
          ap (λ (x : List Value). among keys (row_key id x)) (sym (row_is q k e)) ∙ m in
          absurd (cc)
      | false ↦ λ e. refl
    ] refl

-- a row's values of this unique key, where there is no Null in them, are not among the keys
abbrev pub IsOut : List Key → ℕ → ℕ → List ℕ → List Value → Type 0
IsOut keys id i columns row = list_any is_null (values_at row columns) ≡ false →
    among keys (unique_key id (suc i) (values_at row columns)) ≡ false

differs : (keys : List Key) (id i : ℕ) (columns : List ℕ) (row values : List Value) → list_any is_null values ≡ false →
    among keys (unique_key id (suc i) values) ≡ true → IsOut keys id i columns row →
    eq_by_cmp row_cmp (values_at row columns) values ≡ false
differs keys id i columns row values whole m out =
    elim (eq_by_cmp row_cmp (values_at row columns) values) as (λ b. eq_by_cmp row_cmp (values_at row columns) values ≡ b →
    b ≡ false) [
      | true ↦ λ e.
          let same : values_at row columns ≡ values = row_is (values_at row columns) values e in
          let not_there : among keys (unique_key id (suc i) values) ≡ false =
          ap (λ (x : List Value). among keys (unique_key id (suc i) x)) (sym same) ∙ out (ap (list_any is_null) same ∙ whole) in
          absurd (cc)
      | false ↦ λ e. refl
    ] refl

abbrev pub AreOut : List Key → TableRow → List Value → Type 0
AreOut keys t row = (i : ℕ) (columns : List ℕ) → slice_get (uniques_of t) i ≡ Some columns → IsOut keys t.id i columns row

pub stay_put : (t : TableRow) (keys : List Key) (rows : Rows) (new row : List Value) → AreSoundRows t rows →
    entries.find row_cmp new rows ≡ None → among keys (row_key t.id new) ≡ false → AreOut keys t row →
    Agree t keys rows (entries.put row_cmp new row rows)
stay_put t keys rows new row s f m out = record {
  found = λ k in_keys. sym (entries.find-put row_cmp row_total k new row rows
      ∙ ap (λ (b : Bool). cond b (Some row) (entries.find row_cmp k rows)) (apart keys t.id k new in_keys m));
  holds = λ i columns values at whole in_keys. sym (held_put rows columns values new row (to_T _ s.rising) f
      ∙ ap (λ (b : Bool). cond b true (is_held rows columns values))
      (differs keys t.id i columns row values whole in_keys (out i columns at)));
}

pub stay_minus : (t : TableRow) (keys : List Key) (rows : Rows) (gone row : List Value) → AreSoundRows t rows →
    entries.find row_cmp gone rows ≡ Some row → among keys (row_key t.id gone) ≡ false → AreOut keys t row →
    Agree t keys rows (rows_without (Some gone) rows)
stay_minus t keys rows gone row s f m out = record {
  found = λ k in_keys. sym (find_minus (Some gone) k rows
      ∙ ap (λ (b : Bool). cond b None (entries.find row_cmp k rows)) (apart keys t.id k gone in_keys m));
  holds = λ i columns values at whole in_keys. sym (held_minus rows columns values gone row (to_T _ s.rising)
      (s.single i columns at) whole f
      ∙ ap (λ (b : Bool). cond b false (is_held rows columns values))
      (differs keys t.id i columns row values whole in_keys (out i columns at)));
}

-- a row goes and another one comes, whose values of a unique key are the same, or both not among the keys
abbrev pub AreMoved : List Key → TableRow → List Value → List Value → Type 0
AreMoved keys t row after = (i : ℕ) (columns : List ℕ) → slice_get (uniques_of t) i ≡ Some columns →
    (values_at after columns ≡ values_at row columns) ⊎ (IsOut keys t.id i columns row × IsOut keys t.id i columns after)

moved_back : (b : Bool) (rows : Rows) (columns : List ℕ) (values gone row : List Value) →
    entries.find row_cmp gone rows ≡ Some row → eq_by_cmp row_cmp (values_at row columns) values ≡ b →
    cond b true (cond b false (is_held rows columns values)) ≡ is_held rows columns values
moved_back true rows columns values gone row f e =
    sym (held rows columns values gone row f (row_is (values_at row columns) values e))
moved_back false rows columns values gone row f e = refl

still_held : (t : TableRow) (keys : List Key) (rows : Rows) (gone row after : List Value) (i : ℕ) (columns : List ℕ)
    (values : List Value) → entries.find row_cmp gone rows ≡ Some row → list_any is_null values ≡ false →
    among keys (unique_key t.id (suc i) values) ≡ true →
    (values_at after columns ≡ values_at row columns) ⊎ (IsOut keys t.id i columns row × IsOut keys t.id i columns after) →
    cond (eq_by_cmp row_cmp (values_at after columns) values) true
    (cond (eq_by_cmp row_cmp (values_at row columns) values) false (is_held rows columns values)) ≡ is_held rows columns values
still_held t keys rows gone row after i columns values f whole m (inl same) =
    ap (λ (x : List Value). cond (eq_by_cmp row_cmp x values) true
    (cond (eq_by_cmp row_cmp (values_at row columns) values) false (is_held rows columns values))) same
    ∙ moved_back (eq_by_cmp row_cmp (values_at row columns) values) rows columns values gone row f refl
still_held t keys rows gone row after i columns values f whole m (inr out) =
    ap (λ (b : Bool). cond b true (cond (eq_by_cmp row_cmp (values_at row columns) values) false (is_held rows columns values)))
    (differs keys t.id i columns after values whole m out.1)
    ∙ ap (λ (b : Bool). cond b false (is_held rows columns values)) (differs keys t.id i columns row values whole m out.0)

pub stay_moved : (t : TableRow) (keys : List Key) (rows : Rows) (gone row new after : List Value) → AreSoundRows t rows →
    entries.find row_cmp gone rows ≡ Some row → entries.find row_cmp new (rows_without (Some gone) rows) ≡ None →
    among keys (row_key t.id gone) ≡ false → among keys (row_key t.id new) ≡ false → AreMoved keys t row after →
    Agree t keys rows (entries.put row_cmp new after (rows_without (Some gone) rows))
stay_moved t keys rows gone row new after s f free m n moved =
    let mid = rows_without (Some gone) rows in
    record {
      found = λ k in_keys. sym (entries.find-put row_cmp row_total k new after mid
          ∙ ap (λ (b : Bool). cond b (Some after) (entries.find row_cmp k mid)) (apart keys t.id k new in_keys n)
          ∙ find_minus (Some gone) k rows
          ∙ ap (λ (b : Bool). cond b None (entries.find row_cmp k rows)) (apart keys t.id k gone in_keys m));
      holds = λ i columns values at whole in_keys. sym (
          held_put mid columns values new after (sorted_minus (Some gone) rows (to_T _ s.rising)) free
          ∙ ap (λ (b : Bool). cond (eq_by_cmp row_cmp (values_at after columns) values) true b)
          (held_minus rows columns values gone row (to_T _ s.rising) (s.single i columns at) whole f)
          ∙ still_held t keys rows gone row after i columns values f whole in_keys (moved i columns at));
    }
