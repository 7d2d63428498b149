-- What is known of a row that was added, and that sound rows stay so.
use Rattle.std.proofs.Common.{◌≡◌, ℕ, ◌+◌, zero, suc, List, [], ◌∷◌, refl, sym, ap, ◌∙◌, Bool, true, false, cond, Option, Some, None, is_some, Ok, Err, if◌then◌else◌, slice_get}
use Rattle.std.specs.Prelude.{IsTrue}
use Rattle.std.specs.Ordering.{eq_by_cmp}
use Rattle.std.specs.Option.{option_map, option_or}
use Rattle.std.specs.List.{list_any, enumerate_from}
use Rattle.std.specs.FinMap.Entries as entries
use Rattle.rl_value.specs.declared.value.Value.{Value}
use Rattle.rl_value.specs.declared.miss.Miss.{Miss}
use Rattle.rl_value.specs.declared.miss.Miss.TheVariants.{Exists, Taken}
use Rattle.rl_value.specs.Order.{row_cmp, row_total}
use Rattle.rl_value.specs.Outcome.{refused_by}
use Rattle.redo_vec.specs.declared.table.TableRow.{TableRow}
use Rattle.redo_spec.specs.ConflictKeys.{is_null}
use Rattle.redo_spec.specs.Dictionary.{uniques_of}
use Rattle.redo_spec.specs.ChangeForm.{is_row_of}
use Rattle.redo_spec.specs.Tables.{Rows, Table, values_at, owner_in, primary_key, named}
use Rattle.redo_spec.specs.Effect.{taken_at, taken_by, exists_at, add_row}
use Rattle.row_apply.specs.Soundness.{AreSoundRows, HaveOneOwner}
use Rattle.row_apply.specs.Adding.{rows_without}
use Rattle.row_apply.proofs.Orders.{row_is}
use Rattle.row_apply.proofs.Slots.{to_T, from_T, sorted_minus}
use Rattle.row_apply.proofs.Owners.{none_owns, left_was, one_owner-minus}

-- ---- what was in the way

pub neither : {A : Type 0} (a b : Option A) → option_or a b ≡ None → (a ≡ None) × (b ≡ None)
neither None b e = (refl, e)
neither (Some x) b e = absurd (cc)

pub unmapped : {A B : Type 0} (f : A → B) (a : Option A) → option_map f a ≡ None → a ≡ None
unmapped f None e = refl
unmapped f (Some x) e = absurd (cc)

pub unrefused : {A E : Type 0} (refusal : Option E) (x y : A) → refused_by refusal x ≡ Ok y → (refusal ≡ None) × (x ≡ y)
unrefused None x y e = (refl, cc)
unrefused (Some r) x y e = absurd (cc)

untaken : (b : Bool) (t : TableRow) (index : ℕ) (o : Option (List Value)) → b ≡ false →
    (if b then None else option_map (λ owner. Taken index (named t owner)) o) ≡ None → o ≡ None
untaken true t index o f e = absurd (cc)
untaken false t index o f e = unmapped (λ owner. Taken index (named t owner)) o e

pub taken_none : (t : TableRow) (rows : Rows) (row : List Value) (n : ℕ) (us : List (List ℕ)) →
    taken_by t rows row (enumerate_from n us) ≡ None →
    (i : ℕ) (columns : List ℕ) → slice_get us i ≡ Some columns → list_any is_null (values_at row columns) ≡ false →
    owner_in rows columns (values_at row columns) ≡ None
taken_none t rows row n [] e i columns s full = absurd (cc)
taken_none t rows row n (u ∷ us) e zero columns s full =
    let same : u ≡ columns = cc in
    let here = (neither (taken_at t rows n u (values_at row u)) (taken_by t rows row (enumerate_from (n + 1) us)) e).0 in
    ap (λ c. owner_in rows c (values_at row c)) (sym same)
    ∙ untaken (list_any is_null (values_at row u)) t n (owner_in rows u (values_at row u))
    (ap (λ c. list_any is_null (values_at row c)) same ∙ full) here
taken_none t rows row n (u ∷ us) e (suc i) columns s full =
    taken_none t rows row (n + 1) us (neither (taken_at t rows n u (values_at row u))
    (taken_by t rows row (enumerate_from (n + 1) us)) e).1 i columns s full

-- what is known where a row was added
pub record WasAdded (t : TableRow) (rows : Rows) (row : List Value) (after : Table) : Type 0 where
  pub new : entries.find row_cmp (primary_key t row) rows ≡ None
  pub free : (i : ℕ) (columns : List ℕ) → slice_get (uniques_of t) i ≡ Some columns →
      list_any is_null (values_at row columns) ≡ false → owner_in rows columns (values_at row columns) ≡ None
  pub is : record { row = t; rows = entries.put row_cmp (primary_key t row) row rows } ≡ after

pub was_added : (t : TableRow) (rows : Rows) (row : List Value) (after : Table) →
    add_row (record { row = t; rows = rows }) row ≡ Ok after → WasAdded t rows row after
was_added t rows row after e =
    let k = primary_key t row in
    let table : Table = record { row = t; rows = rows } in
    let put : Table = record { row = t; rows = entries.put row_cmp k row rows } in
    let p = unrefused (option_or (exists_at table k) (taken_by t rows row (enumerate_from 1 (uniques_of t)))) put after e in
    let q = neither (exists_at table k) (taken_by t rows row (enumerate_from 1 (uniques_of t))) p.0 in
    record {
      new = unmapped (λ (r : List Value). Exists (named t k)) (entries.find row_cmp k rows) q.0;
      free = taken_none t rows row 1 (uniques_of t) q.1;
      is = p.1;
    }

-- ---- rows stay sound

pub sound-minus : (t : TableRow) (gone : Option (List Value)) (rows : Rows) → AreSoundRows t rows →
    AreSoundRows t (rows_without gone rows)
sound-minus t gone rows s = record {
  rising = from_T _ (sorted_minus gone rows (to_T _ s.rising));
  keyed = λ key row e. s.keyed key row (left_was gone key row rows e).1;
  fit = λ key row e. s.fit key row (left_was gone key row rows e).1;
  single = λ index columns u. one_owner-minus gone columns rows (s.single index columns u);
}

-- a row that is found is the added one or was there
pub found_put : (b : Bool) (key new row x : List Value) (F : Option (List Value)) → eq_by_cmp row_cmp key new ≡ b →
    cond b (Some row) F ≡ Some x → (A : Type 0) → (key ≡ new → row ≡ x → A) → (F ≡ Some x → A) → A
found_put true key new row x F t e A here there = here (row_is key new t) (cc)
found_put false key new row x F t e A here there = there e

one_owner-put : (columns : List ℕ) (rows : Rows) (new row : List Value) → HaveOneOwner columns rows →
    (list_any is_null (values_at row columns) ≡ false → owner_in rows columns (values_at row columns) ≡ None) →
    HaveOneOwner columns (entries.put row_cmp new row rows)
one_owner-put columns rows new row one free key other x y e f full same =
    found_put (eq_by_cmp row_cmp key new) key new row x (entries.find row_cmp key rows) refl
    (sym (entries.find-put row_cmp row_total key new row rows) ∙ e) (key ≡ other)
    (λ here is. found_put (eq_by_cmp row_cmp other new) other new row y (entries.find row_cmp other rows) refl
    (sym (entries.find-put row_cmp row_total other new row rows) ∙ f) (key ≡ other)
    (λ there also. here ∙ sym there)
    (λ old. absurd (none_owns rows columns (values_at row columns) other y
    (free (ap (λ r. list_any is_null (values_at r columns)) is ∙ full)) old
    (sym same ∙ ap (λ r. values_at r columns) (sym is)))))
    (λ was. found_put (eq_by_cmp row_cmp other new) other new row y (entries.find row_cmp other rows) refl
    (sym (entries.find-put row_cmp row_total other new row rows) ∙ f) (key ≡ other)
    (λ there is. absurd (none_owns rows columns (values_at row columns) key x
    (free (ap (λ r. list_any is_null (values_at r columns)) is ∙ ap (list_any is_null) (sym same) ∙ full)) was
    (same ∙ ap (λ r. values_at r columns) (sym is))))
    (λ old. one key other x y was old full same))

pub sound-added : (t : TableRow) (rows : Rows) (row : List Value) (after : Table) → AreSoundRows t rows →
    IsTrue (is_row_of t.columns row) → WasAdded t rows row after →
    AreSoundRows t (entries.put row_cmp (primary_key t row) row rows)
sound-added t rows row after s fit w = record {
  rising = from_T _ (entries.is_sorted-put row_cmp row_total (primary_key t row) row rows (to_T _ s.rising));
  keyed = λ key x e. found_put (eq_by_cmp row_cmp key (primary_key t row)) key (primary_key t row) row x
      (entries.find row_cmp key rows) refl
      (sym (entries.find-put row_cmp row_total key (primary_key t row) row rows) ∙ e) (primary_key t x ≡ key)
      (λ here is. ap (primary_key t) (sym is) ∙ sym here) (λ was. s.keyed key x was);
  fit = λ key x e. found_put (eq_by_cmp row_cmp key (primary_key t row)) key (primary_key t row) row x
      (entries.find row_cmp key rows) refl
      (sym (entries.find-put row_cmp row_total key (primary_key t row) row rows) ∙ e) (is_row_of t.columns x ≡ true)
      (λ here is. ap (is_row_of t.columns) (sym is) ∙ fit) (λ was. s.fit key x was);
  single = λ index columns u. one_owner-put columns rows (primary_key t row) row (s.single index columns u)
      (w.free index columns u);
}

-- ---- what adding a row says

unfound : {A B : Type 0} (f : A → B) (F : Option A) (rest : Option B) → is_some F ≡ false → option_or (option_map f F) rest ≡ rest
unfound f None rest e = refl
unfound f (Some x) rest e = absurd (cc)

found_first : {A B : Type 0} (m : B) (F : Option A) (rest : Option B) → is_some F ≡ true →
    option_or (option_map (λ x. m) F) rest ≡ Some m
found_first m None rest e = absurd (cc)
found_first m (Some x) rest e = refl

pub add_free : (t : TableRow) (rows : Rows) (row : List Value) → is_some (entries.find row_cmp (primary_key t row) rows) ≡ false →
    taken_by t rows row (enumerate_from 1 (uniques_of t)) ≡ None →
    add_row (record { row = t; rows = rows }) row ≡ Ok (record
    { row = t; rows = entries.put row_cmp (primary_key t row) row rows })
add_free t rows row new free =
    let k = primary_key t row in
    let after : Table = record { row = t; rows = entries.put row_cmp k row rows } in
    ap (λ (o : Option Miss). refused_by o after) (unfound (λ (r : List Value). Exists (named t k)) (entries.find row_cmp k rows)
    (taken_by t rows row (enumerate_from 1 (uniques_of t))) new ∙ free)

pub add_exists : (t : TableRow) (rows : Rows) (row : List Value) →
    is_some (entries.find row_cmp (primary_key t row) rows) ≡ true →
    add_row (record { row = t; rows = rows }) row ≡ Err (Exists (named t (primary_key t row)))
add_exists t rows row there =
    let k = primary_key t row in
    let after : Table = record { row = t; rows = entries.put row_cmp k row rows } in
    ap (λ (o : Option Miss). refused_by o after) (found_first (Exists (named t k)) (entries.find row_cmp k rows)
    (taken_by t rows row (enumerate_from 1 (uniques_of t))) there)

pub add_taken : (t : TableRow) (rows : Rows) (row : List Value) (m : Miss) →
    is_some (entries.find row_cmp (primary_key t row) rows) ≡ false →
    taken_by t rows row (enumerate_from 1 (uniques_of t)) ≡ Some m →
    add_row (record { row = t; rows = rows }) row ≡ Err m
add_taken t rows row m new taken =
    let k = primary_key t row in
    let after : Table = record { row = t; rows = entries.put row_cmp k row rows } in
    ap (λ (o : Option Miss). refused_by o after) (unfound (λ (r : List Value). Exists (named t k)) (entries.find row_cmp k rows)
    (taken_by t rows row (enumerate_from 1 (uniques_of t))) new ∙ taken)
