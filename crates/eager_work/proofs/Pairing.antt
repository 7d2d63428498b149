-- The effect of a change on two tables that agree at the keys that it touches: it is done in both or in neither.
use Rattle.std.proofs.Common.{◌≡◌, ◌≢◌, ℕ, ◌+◌, suc, List, [], ◌∷◌, ◌++◌, refl, sym, ap, subst, ◌∙◌, Bool, true, false, cond, slice_get, Option, Some, None, is_some, Result, Ok, Err, inl, inr, if◌then◌else◌}
use Rattle.std.specs.Prelude.{⊤, ◌⊎◌}
use Rattle.std.specs.List.{list_any, enumerate_from}
use Rattle.std.specs.Option.{option_map, option_or}
use Rattle.std.specs.Ordering.{eq_by_cmp}
use Rattle.std.specs.FinMap.Entries as entries
use Rattle.rl_value.specs.declared.value.Value.{Value}
use Rattle.rl_value.specs.declared.key.Key.{Key}
use Rattle.rl_value.specs.declared.miss.Miss.{Miss}
use Rattle.rl_value.specs.declared.miss.Miss.TheVariants.{Absent, Exists, Taken}
use Rattle.rl_value.specs.Order.{row_cmp}
use Rattle.rl_value.specs.Outcome.{◌>>=◌, refused_by, or_err}
use Rattle.rl_value.specs.Text.{columns_rise}
use Rattle.redo_vec.specs.Forms.{is_key_columns}
use Rattle.redo_vec.specs.declared.change.Change.{Change}
use Rattle.redo_vec.specs.declared.change.Op.{Op}
use Rattle.redo_vec.specs.declared.change.Op.TheVariants.{Insert, Update, Delete}
use Rattle.redo_vec.specs.declared.table.TableRow.{TableRow}
use Rattle.redo_spec.specs.ChangeForm.{change_fault_in, has_cell, has_column, columns_of}
use Rattle.redo_spec.specs.ConflictKeys.{cell_of, after_op, is_null, keys_given, conflict_keys_in}
use Rattle.redo_spec.specs.Dictionary.{primary_of, uniques_of, first_of, has_bad_keys}
use Rattle.redo_spec.specs.Effect.{taken_at, taken_by, exists_at, add_row, take_row, difference, with_cells, cell_values, logged_key, effect_on}
use Rattle.redo_spec.specs.Tables.{Rows, Table, values_at, primary_key, named, owner_in}
use Rattle.row_apply.specs.Adding.{rows_without}
use Rattle.row_apply.specs.Kept.{row_key, unique_key}
use Rattle.row_apply.specs.Soundness.{AreSoundRows}
use Rattle.row_apply.proofs.Adding.{neither, unmapped, unrefused, was_added, sound-minus}
use Rattle.row_apply.proofs.Orders.{row_self}
use Rattle.row_apply.proofs.Slots.{to_T}
use Rattle.row_apply.proofs.Staying.{bound, or_err_is}
use Rattle.row_apply.proofs.Untouched.{logged_given, insert_given, update_given}
use Rattle.eager_work.specs.Early.{ownerless}
use Rattle.eager_work.proofs.Holding.{is_held, held_minus}
use Rattle.eager_work.proofs.Given.{among, any_front, any_back, unique_given, row_given, unique_within, insert_values, old_values, new_values, delete_logs, update_logs, unset_values}
use Rattle.eager_work.proofs.Agreeing.{Agree, agree_minus, agree_put, IsOut, AreOut, AreMoved, stay_put, stay_minus, stay_moved}

-- ---- two results

-- both are done, and so, or both refused, and alike
abbrev pub Paired : {A : Type 0} → (A → A → Type 0) → Result A Miss → Result A Miss → Type 0
Paired P (Ok x) (Ok y) = P x y
Paired P (Ok x) (Err n) = ⊥
Paired P (Err m) (Ok y) = ⊥
Paired P (Err m) (Err n) = ownerless m ≡ ownerless n

abbrev pub PairedMiss : Option Miss → Option Miss → Type 0
PairedMiss None None = ⊤
PairedMiss None (Some n) = ⊥
PairedMiss (Some m) None = ⊥
PairedMiss (Some m) (Some n) = ownerless m ≡ ownerless n

pub paired_bind : {A B : Type 0} (P : A → A → Type 0) (Q : B → B → Type 0) (r s : Result A Miss) (f g : A → Result B Miss) →
    Paired P r s → ((x y : A) → P x y → Paired Q (f x) (g y)) → Paired Q (r >>= f) (s >>= g)
paired_bind P Q (Ok x) (Ok y) f g p each = each x y p
paired_bind P Q (Ok x) (Err n) f g p each = absurd p
paired_bind P Q (Err m) (Ok y) f g p each = absurd p
paired_bind P Q (Err m) (Err n) f g p each = p

paired_refused : {A : Type 0} (P : A → A → Type 0) (o p : Option Miss) (x y : A) → PairedMiss o p →
    (o ≡ None → p ≡ None → P x y) → Paired P (refused_by o x) (refused_by p y)
paired_refused P None None x y m each = each refl refl
paired_refused P None (Some n) x y m each = absurd m
paired_refused P (Some l) None x y m each = absurd m
paired_refused P (Some l) (Some n) x y m each = m

paired_or : (a b c d : Option Miss) → PairedMiss a b → PairedMiss c d → PairedMiss (option_or a c) (option_or b d)
paired_or None None c d p q = q
paired_or None (Some n) c d p q = absurd p
paired_or (Some m) None c d p q = absurd p
paired_or (Some m) (Some n) c d p q = p

paired_self : (o : Option Miss) → PairedMiss o o
paired_self None = tt
paired_self (Some m) = refl

-- ---- a row comes

exists_paired : (t : TableRow) (k : List Value) (F G : Option (List Value)) → F ≡ G →
    PairedMiss (option_map (λ row. Exists (named t k)) F) (option_map (λ row. Exists (named t k)) G)
exists_paired t k None None e = tt
exists_paired t k None (Some y) e = absurd (cc)
exists_paired t k (Some x) None e = absurd (cc)
exists_paired t k (Some x) (Some y) e = refl

here_paired : (b : Bool) (t : TableRow) (n : ℕ) (o p : Option (List Value)) → (b ≡ false → is_some o ≡ is_some p) →
    PairedMiss (if b then None else option_map (λ owner. Taken n (named t owner)) o)
    (if b then None else option_map (λ owner. Taken n (named t owner)) p)
here_paired true t n o p e = tt
here_paired false t n None None e = tt
here_paired false t n None (Some y) e = let no : false ≡ true = e refl in absurd (cc)
here_paired false t n (Some x) None e = let no : true ≡ false = e refl in absurd (cc)
here_paired false t n (Some x) (Some y) e = refl

-- the row's unique values are had in both or in neither
abbrev AreHeldAlike : List (List ℕ) → Rows → Rows → List Value → Type 0
AreHeldAlike us rows others row = (i : ℕ) (columns : List ℕ) → slice_get us i ≡ Some columns →
    list_any is_null (values_at row columns) ≡ false →
    is_held rows columns (values_at row columns) ≡ is_held others columns (values_at row columns)

taken_paired : (t : TableRow) (rows others : Rows) (row : List Value) (n : ℕ) (us : List (List ℕ)) →
    AreHeldAlike us rows others row →
    PairedMiss (taken_by t rows row (enumerate_from n us)) (taken_by t others row (enumerate_from n us))
taken_paired t rows others row n [] each = tt
taken_paired t rows others row n (u ∷ us) each =
    paired_or (taken_at t rows n u (values_at row u)) (taken_at t others n u (values_at row u))
    (taken_by t rows row (enumerate_from (n + 1) us)) (taken_by t others row (enumerate_from (n + 1) us))
    (here_paired (list_any is_null (values_at row u)) t n (owner_in rows u (values_at row u))
    (owner_in others u (values_at row u))
    (λ whole. each 0 u refl whole))
    (taken_paired t rows others row (n + 1) us (λ i columns s whole. each (suc i) columns s whole))

abbrev table_of_rows : TableRow → Rows → Table
table_of_rows t rows = record { row = t; rows = rows }

add_paired : (P : Table → Table → Type 0) (t : TableRow) (rows others : Rows) (row : List Value) →
    entries.find row_cmp (primary_key t row) rows ≡ entries.find row_cmp (primary_key t row) others →
    AreHeldAlike (uniques_of t) rows others row →
    (entries.find row_cmp (primary_key t row) rows ≡ None → entries.find row_cmp (primary_key t row) others ≡ None →
    P (table_of_rows t (entries.put row_cmp (primary_key t row) row rows))
    (table_of_rows t (entries.put row_cmp (primary_key t row) row others))) →
    Paired P (add_row (table_of_rows t rows) row) (add_row (table_of_rows t others) row)
add_paired P t rows others row same each both =
    let k = primary_key t row in
    let us = enumerate_from 1 (uniques_of t) in
    paired_refused P (option_or (exists_at (table_of_rows t rows) k) (taken_by t rows row us))
    (option_or (exists_at (table_of_rows t others) k) (taken_by t others row us))
    (table_of_rows t (entries.put row_cmp k row rows)) (table_of_rows t (entries.put row_cmp k row others))
    (paired_or (exists_at (table_of_rows t rows) k) (exists_at (table_of_rows t others) k) (taken_by t rows row us)
    (taken_by t others row us)
    (exists_paired t k (entries.find row_cmp k rows) (entries.find row_cmp k others) same)
    (taken_paired t rows others row 1 (uniques_of t) each))
    (λ n m. both
    (unmapped (λ (r : List Value). Exists (named t k)) (entries.find row_cmp k rows)
    (neither (exists_at (table_of_rows t rows) k) (taken_by t rows row us) n).0)
    (unmapped (λ (r : List Value). Exists (named t k)) (entries.find row_cmp k others)
    (neither (exists_at (table_of_rows t others) k) (taken_by t others row us) m).0))

-- ---- a row goes

found_paired : (F G : Option (List Value)) (m : Miss) → F ≡ G →
    Paired (λ x y. (F ≡ Some x) × ((G ≡ Some x) × (x ≡ y))) (or_err F m) (or_err G m)
found_paired None None m e = refl
found_paired None (Some y) m e = absurd (cc)
found_paired (Some x) None m e = absurd (cc)
found_paired (Some x) (Some y) m e = (refl, (sym e, cc))

abbrev without : TableRow → List Value → Rows → List Value → List Value × Table
without t k rows row = (row, table_of_rows t (rows_without (Some k) rows))

take_paired : (P : List Value × Table → List Value × Table → Type 0) (t : TableRow) (rows others : Rows) (k : List Value)
    (logged : List (ℕ × Value)) → entries.find row_cmp k rows ≡ entries.find row_cmp k others →
    ((row : List Value) → entries.find row_cmp k rows ≡ Some row → entries.find row_cmp k others ≡ Some row →
    difference row logged ≡ None → P (without t k rows row) (without t k others row)) →
    Paired P (take_row (table_of_rows t rows) k logged) (take_row (table_of_rows t others) k logged)
take_paired P t rows others k logged same each =
    let F = entries.find row_cmp k rows in
    let G = entries.find row_cmp k others in
    paired_bind (λ x y. (F ≡ Some x) × ((G ≡ Some x) × (x ≡ y))) P (or_err F (Absent (named t k))) (or_err G (Absent (named t k)))
    (λ row. refused_by (difference row logged) (without t k rows row))
    (λ row. refused_by (difference row logged) (without t k others row))
    (found_paired F G (Absent (named t k)) same)
    (λ x y p. subst (λ (z : List Value). Paired P (refused_by (difference x logged) (without t k rows x))
    (refused_by (difference z logged) (without t k others z))) p.1.1
    (paired_refused P (difference x logged) (difference x logged) (without t k rows x) (without t k others x)
    (paired_self (difference x logged)) (λ d e. each x p.0 p.1.0 d)))

-- the row that was taken
pub record Took (t : TableRow) (rows : Rows) (k : List Value) (logged : List (ℕ × Value))
    (taken : List Value × Table) : Type 0 where
  pub row : List Value
  pub there : entries.find row_cmp k rows ≡ Some row
  pub as_logged : difference row logged ≡ None
  pub is : without t k rows row ≡ taken

took_is : (t : TableRow) (rows : Rows) (k : List Value) (logged : List (ℕ × Value)) (taken : List Value × Table) →
    take_row (table_of_rows t rows) k logged ≡ Ok taken → Took t rows k logged taken
took_is t rows k logged taken e =
    let F = entries.find row_cmp k rows in
    let b = bound (or_err F (Absent (named t k))) (λ row. refused_by (difference row logged) (without t k rows row)) taken e in
    let r = unrefused (difference b.0 logged) (without t k rows b.0) taken b.1.1 in
    record {
      row = b.0;
      there = or_err_is F (Absent (named t k)) b.0 b.1.0;
      as_logged = r.0;
      is = r.1;
    }

-- ---- a change

-- none of the one are among the others
abbrev pub AreApart : List Key → List Key → Type 0
AreApart touched keys = (q : Key) → among touched q ≡ true → among keys q ≡ false

pub record Match (t : TableRow) (keys : List Key) (u v : Table) : Type 0 where
  pub same : u.row ≡ t
  pub alike : v.row ≡ t
  pub agree : Agree t keys u.rows v.rows

first_there : (keys : List (List ℕ)) → is_key_columns (first_of keys) ≡ true → slice_get keys 0 ≡ Some (first_of keys)
first_there [] e = absurd (cc)
first_there (k ∷ keys) e = refl

not_insert_update : (op : Op) → op ≡ Update → op ≢ Insert
not_insert_update Insert e f = cc
not_insert_update Update e f = cc
not_insert_update Delete e f = cc

not_insert_delete : (op : Op) → op ≡ Delete → op ≢ Insert
not_insert_delete Insert e f = cc
not_insert_delete Update e f = cc
not_insert_delete Delete e f = cc

module _ (t : TableRow) (c : Change) (bad : has_bad_keys t ≡ false) (form : is_key_columns (primary_of t) ≡ true)
    (accept : change_fault_in t c ≡ None) (old_rise : columns_rise 0 c.old ≡ true) (new_rise : columns_rise 0 c.new ≡ true) where
  touched_old : (q : Key) → among (keys_given t (cell_of c.old)) q ≡ true → among (conflict_keys_in t c) q ≡ true
  touched_old q e = any_front _ (keys_given t (cell_of c.old)) (keys_given t (cell_of (after_op c.op c.old c.new))) e

  touched_new : (op : Op) → c.op ≡ op → (q : Key) → among (keys_given t (cell_of (after_op op c.old c.new))) q ≡ true →
      among (conflict_keys_in t c) q ≡ true
  touched_new op is q e = any_back _ (keys_given t (cell_of c.old)) (keys_given t (cell_of (after_op c.op c.old c.new)))
      (ap (λ (o : Op). among (keys_given t (cell_of (after_op o c.old c.new))) q) is ∙ e)

  first : slice_get t.keys 0 ≡ Some (primary_of t)
  first = first_there t.keys form

  -- the keys of an INSERT
  insert_row : c.op ≡ Insert → among (conflict_keys_in t c) (row_key t.id (primary_key t (cell_values c.new))) ≡ true
  insert_row op = touched_new Insert op (row_key t.id (primary_key t (cell_values c.new)))
      (row_given t (cell_of c.new) (primary_key t (cell_values c.new)) first (insert_given t c bad form accept op new_rise))

  insert_unique : c.op ≡ Insert → (i : ℕ) (columns : List ℕ) → slice_get (uniques_of t) i ≡ Some columns →
      list_any is_null (values_at (cell_values c.new) columns) ≡ false →
      among (conflict_keys_in t c) (unique_key t.id (suc i) (values_at (cell_values c.new) columns)) ≡ true
  insert_unique op i columns at whole = touched_new Insert op (unique_key t.id (suc i) (values_at (cell_values c.new) columns))
      (unique_given t (cell_of c.new) i columns (values_at (cell_values c.new) columns) at
      (insert_values t c accept columns (unique_within t i columns bad at) op new_rise) whole)

  -- the keys of the row that an UPDATE or a DELETE takes away
  old_row : c.op ≢ Insert → among (conflict_keys_in t c) (row_key t.id (logged_key t c.old)) ≡ true
  old_row op = touched_old (row_key t.id (logged_key t c.old))
      (row_given t (cell_of c.old) (logged_key t c.old) first (logged_given t c bad form accept op old_rise))

  old_unique : (row : List Value) (i : ℕ) (columns : List ℕ) → difference row c.old ≡ None →
      slice_get (uniques_of t) i ≡ Some columns →
      ((p : ℕ) → has_column columns p ≡ true → has_column (columns_of c.old) p ≡ true) →
      list_any is_null (values_at row columns) ≡ false →
      among (conflict_keys_in t c) (unique_key t.id (suc i) (values_at row columns)) ≡ true
  old_unique row i columns d at logs whole = touched_old (unique_key t.id (suc i) (values_at row columns))
      (unique_given t (cell_of c.old) i columns (values_at row columns) at
      (old_values t c accept columns (unique_within t i columns bad at) row d logs) whole)

  -- the keys of the row that an UPDATE adds
  new_row : (row : List Value) → c.op ≡ Update → difference row c.old ≡ None →
      among (conflict_keys_in t c) (row_key t.id (primary_key t (with_cells t row c.new))) ≡ true
  new_row row op d = touched_new Update op (row_key t.id (primary_key t (with_cells t row c.new)))
      (row_given t (cell_of (c.new ++ c.old)) (primary_key t (with_cells t row c.new)) first
      (update_given t c bad form accept row (not_insert_update c.op op) old_rise d))

  new_unique : (row : List Value) (i : ℕ) (columns : List ℕ) → c.op ≡ Update → difference row c.old ≡ None →
      slice_get (uniques_of t) i ≡ Some columns → list_any (has_cell c.new) columns ≡ true →
      list_any is_null (values_at (with_cells t row c.new) columns) ≡ false →
      among (conflict_keys_in t c) (unique_key t.id (suc i) (values_at (with_cells t row c.new) columns)) ≡ true
  new_unique row i columns op d at set whole =
      let inside = unique_within t i columns bad at in
      touched_new Update op (unique_key t.id (suc i) (values_at (with_cells t row c.new) columns))
      (unique_given t (cell_of (c.new ++ c.old)) i columns (values_at (with_cells t row c.new) columns) at
      (new_values t c accept columns inside row d (update_logs t c i columns accept op at inside set)) whole)

  -- the row that an UPDATE adds finds its unique values had in both or in neither
  new_alike : (rows others : Rows) (row : List Value) → c.op ≡ Update → AreSoundRows t rows → AreSoundRows t others →
      entries.find row_cmp (logged_key t c.old) rows ≡ Some row → entries.find row_cmp (logged_key t c.old) others ≡ Some row →
      difference row c.old ≡ None → Agree t (conflict_keys_in t c) rows others →
      AreHeldAlike (uniques_of t) (rows_without (Some (logged_key t c.old)) rows)
      (rows_without (Some (logged_key t c.old)) others)
      (with_cells t row c.new)
  new_alike rows others row op s u f g d own i columns at whole =
      let k = logged_key t c.old in
      let after = with_cells t row c.new in
      let mids = agree_minus t (conflict_keys_in t c) rows others k row s u f g own in
      elim (list_any (has_cell c.new) columns) as (λ b. list_any (has_cell c.new) columns ≡ b →
      is_held (rows_without (Some k) rows) columns (values_at after columns) ≡
      is_held (rows_without (Some k) others) columns (values_at after columns)) [
        | true ↦ λ set. mids.holds i columns (values_at after columns) at whole (new_unique row i columns op d at set whole)
        | false ↦ λ unset.
            let same : values_at after columns ≡ values_at row columns =
            unset_values t row c.new columns (unique_within t i columns bad at) unset in
            let tie : eq_by_cmp row_cmp (values_at row columns) (values_at after columns) ≡ true =
            ap (λ (x : List Value). eq_by_cmp row_cmp (values_at row columns) x) same ∙ row_self (values_at row columns) in
            held_minus rows columns (values_at after columns) k row (to_T _ s.rising) (s.single i columns at) whole f
            ∙ ap (λ (b : Bool). cond b false (is_held rows columns (values_at after columns))) tie
            ∙ ap (λ (b : Bool). cond b false (is_held others columns (values_at after columns))) (sym tie)
            ∙ sym (held_minus others columns (values_at after columns) k row (to_T _ u.rising) (u.single i columns at) whole g)
      ] refl

  -- what agrees before, also at other keys, agrees behind the change
  pub on_paired : (keys : List Key) (rows others : Rows) → AreSoundRows t rows → AreSoundRows t others →
      Agree t (conflict_keys_in t c) rows others → Agree t keys rows others → (op : Op) → c.op ≡ op →
      Paired (Match t keys) (effect_on (table_of_rows t rows) op c.old c.new) (effect_on (table_of_rows t others) op c.old c.new)
  on_paired keys rows others s u own a Insert is =
      add_paired (Match t keys) t rows others (cell_values c.new)
      (own.found (primary_key t (cell_values c.new)) (insert_row is))
      (λ i columns at whole. own.holds i columns (values_at (cell_values c.new) columns) at whole
      (insert_unique is i columns at whole))
      (λ n m. record {
        same = refl;
        alike = refl;
        agree = agree_put t keys rows others (primary_key t (cell_values c.new)) (cell_values c.new) s u n m a;
      })
  on_paired keys rows others s u own a Update is =
      let k = logged_key t c.old in
      let P : List Value × Table → List Value × Table → Type 0 =
      λ x y. Paired (Match t keys) (add_row x.1 (with_cells t x.0 c.new)) (add_row y.1 (with_cells t y.0 c.new)) in
      paired_bind P (Match t keys) (take_row (table_of_rows t rows) k c.old) (take_row (table_of_rows t others) k c.old)
      (λ taken. add_row taken.1 (with_cells t taken.0 c.new)) (λ taken. add_row taken.1 (with_cells t taken.0 c.new))
      (take_paired P t rows others k c.old (own.found k (old_row (not_insert_update c.op is))) (λ row f g d.
      let after = with_cells t row c.new in
      let mids = agree_minus t (conflict_keys_in t c) rows others k row s u f g own in
      add_paired (Match t keys) t (rows_without (Some k) rows) (rows_without (Some k) others) after
      (mids.found (primary_key t after) (new_row row is d))
      (new_alike rows others row is s u f g d own)
      (λ n m. record {
        same = refl;
        alike = refl;
        agree = agree_put t keys (rows_without (Some k) rows) (rows_without (Some k) others) (primary_key t after) after
            (sound-minus t (Some k) rows s) (sound-minus t (Some k) others u) n m
            (agree_minus t keys rows others k row s u f g a);
      })))
      (λ x y p. p)
  on_paired keys rows others s u own a Delete is =
      let k = logged_key t c.old in
      let P : List Value × Table → List Value × Table → Type 0 = λ x y. Match t keys x.1 y.1 in
      paired_bind P (Match t keys) (take_row (table_of_rows t rows) k c.old) (take_row (table_of_rows t others) k c.old)
      (λ taken. Ok taken.1) (λ taken. Ok taken.1)
      (take_paired P t rows others k c.old (own.found k (old_row (not_insert_delete c.op is))) (λ row f g d. record {
        same = refl;
        alike = refl;
        agree = agree_minus t keys rows others k row s u f g a;
      }))
      (λ x y p. p)

  -- ---- keys that the change does not touch

  gone_out : (keys : List Key) (row : List Value) → AreApart (conflict_keys_in t c) keys → difference row c.old ≡ None →
      ((i : ℕ) (columns : List ℕ) → slice_get (uniques_of t) i ≡ Some columns → (p : ℕ) → has_column columns p ≡ true →
      has_column (columns_of c.old) p ≡ true) → AreOut keys t row
  gone_out keys row off d logs i columns at whole =
      off (unique_key t.id (suc i) (values_at row columns)) (old_unique row i columns d at (logs i columns at) whole)

  update_moved : (keys : List Key) (row : List Value) → AreApart (conflict_keys_in t c) keys → c.op ≡ Update →
      difference row c.old ≡ None → AreMoved keys t row (with_cells t row c.new)
  update_moved keys row off op d i columns at =
      let inside = unique_within t i columns bad at in
      elim (list_any (has_cell c.new) columns) as (λ b. list_any (has_cell c.new) columns ≡ b →
      (values_at (with_cells t row c.new) columns ≡ values_at row columns) ⊎
      (IsOut keys t.id i columns row × IsOut keys t.id i columns (with_cells t row c.new))) [
        | true ↦ λ set. inr (
          (λ whole. off (unique_key t.id (suc i) (values_at row columns))
              (old_unique row i columns d at (update_logs t c i columns accept op at inside set) whole)),
          (λ whole. off (unique_key t.id (suc i) (values_at (with_cells t row c.new) columns))
              (new_unique row i columns op d at set whole)),
        )
        | false ↦ λ unset. inl (unset_values t row c.new columns inside unset)
      ] refl

  -- what keys say to which the change is no neighbour stays so
  pub stay_on : (keys : List Key) (rows : Rows) (u : Table) → AreSoundRows t rows → AreApart (conflict_keys_in t c) keys →
      (op : Op) → c.op ≡ op → effect_on (table_of_rows t rows) op c.old c.new ≡ Ok u → Match t keys (table_of_rows t rows) u
  stay_on keys rows u s off Insert is e =
      let row = cell_values c.new in
      let w = was_added t rows row u e in
      subst (Match t keys (table_of_rows t rows)) w.is (record {
        same = refl;
        alike = refl;
        agree = stay_put t keys rows (primary_key t row) row s w.new (off (row_key t.id (primary_key t row)) (insert_row is))
            (λ i columns at whole. off (unique_key t.id (suc i) (values_at row columns)) (insert_unique is i columns at whole));
      })
  stay_on keys rows u s off Update is e =
      let k = logged_key t c.old in
      let b = bound (take_row (table_of_rows t rows) k c.old) (λ taken. add_row taken.1 (with_cells t taken.0 c.new)) u e in
      let took = took_is t rows k c.old b.0 b.1.0 in
      let after = with_cells t took.row c.new in
      let added : add_row (table_of_rows t (rows_without (Some k) rows)) after ≡ Ok u =
      subst (λ (x : List Value × Table). add_row x.1 (with_cells t x.0 c.new) ≡ Ok u) (sym took.is) b.1.1 in
      let w = was_added t (rows_without (Some k) rows) after u added in
      subst (Match t keys (table_of_rows t rows)) w.is (record {
        same = refl;
        alike = refl;
        agree = stay_moved t keys rows k took.row (primary_key t after) after s took.there w.new
            (off (row_key t.id k) (old_row (not_insert_update c.op is)))
            (off (row_key t.id (primary_key t after)) (new_row took.row is took.as_logged))
            (update_moved keys took.row off is took.as_logged);
      })
  stay_on keys rows u s off Delete is e =
      let k = logged_key t c.old in
      let b = bound (take_row (table_of_rows t rows) k c.old) (λ taken. Ok taken.1) u e in
      let took = took_is t rows k c.old b.0 b.1.0 in
      let same : b.0.1 ≡ u = cc in
      let gone : table_of_rows t (rows_without (Some k) rows) ≡ u = ap (λ (x : List Value × Table). x.1) took.is ∙ same in
      subst (Match t keys (table_of_rows t rows)) gone (record {
        same = refl;
        alike = refl;
        agree = stay_minus t keys rows k took.row s took.there (off (row_key t.id k) (old_row (not_insert_delete c.op is)))
            (gone_out keys took.row off took.as_logged (λ i columns at.
            delete_logs t c accept columns (unique_within t i columns bad at) is old_rise));
      })
