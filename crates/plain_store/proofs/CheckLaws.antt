-- The test of rows that waited for the dictionary says whether they are sound tables, where the index was filled with them.
use Rattle.std.proofs.Common.{◌≡◌, ℕ, ◌+◌, ◌≤◌, nat_le, List, [], ◌∷◌, refl, sym, ap, subst, ◌∙◌, T, Bool, true, false, cond, ◌&&◌, ◌||◌, ◌==◌, arith, Option, Some, None}
use Rattle.std.proofs.lemmas.Bool.Decides.{nat_tests}
use Rattle.std.specs.FinMap.Entries as entries
use Rattle.std.specs.List.{list_all, list_any, AllByRecursion}
use Rattle.std.specs.Ordering.{eq_by_cmp}
use Rattle.rl_value.specs.declared.value.Value.{Value}
use Rattle.rl_value.specs.declared.key.Key.{Key}
use Rattle.rl_value.specs.Order.{row_cmp}
use Rattle.redo_vec.specs.declared.table.TableRow.{TableRow}
use Rattle.redo_spec.specs.ChangeForm.{is_row_of}
use Rattle.redo_spec.specs.ConflictKeys.{is_null}
use Rattle.redo_spec.specs.Dictionary.{uniques_of, table_of, ids_rise}
use Rattle.redo_spec.specs.Tables.{Rows, RowsById, rows_by, assembled, values_at, primary_key}
use Rattle.row_apply.specs.Soundness.{AreSound, AreSoundRows}
use Rattle.row_apply.proofs.Orders.{key_is, key_self, row_is, row_self}
use Rattle.plain_store.specs.Checked.{value_leads, leads_from, row_holds, rows_hold, tables_hold}
use Rattle.plain_store.specs.Unique.{lead_of, is_lead, unique_at, is_value_of, has_from, has_unique, LeadsToRows, IsIndexed}
use Rattle.plain_store.specs.declared.unique_index.UniqueIndex.{UniqueIndex}
use Rattle.plain_store.proofs.MapLemmas.{left_true, right_true, both_true}
use Rattle.plain_store.proofs.TableLaws.{equal_numbers}
use Rattle.plain_store.proofs.UniqueLaws.{is_had}
use Rattle.plain_store.proofs.WriteLaws.{none_below}

-- ---- the unique values of a row

leads_is : (key : List Value) (o : Option (List Value)) → is_lead key o ≡ true → o ≡ Some key
leads_is key None e = absurd (cc)
leads_is key (Some found) e = ap Some (row_is found key e)

is_led : (key : List Value) (o : Option (List Value)) → o ≡ Some key → is_lead key o ≡ true
is_led key o e = ap (is_lead key) e ∙ row_self key

-- one of two tests holds
one_of : (a b : Bool) → (a || b) ≡ true → (A : Type 0) → (a ≡ true → A) → (b ≡ true → A) → A
one_of true b e A first second = first refl
one_of false b e A first second = second e

second_of : (a b : Bool) → b ≡ true → (a || b) ≡ true
second_of true b e = refl
second_of false b e = e

first_of : (a b : Bool) → a ≡ true → (a || b) ≡ true
first_of true b e = refl
first_of false b e = absurd (cc)

one_leads : (index : UniqueIndex) (key : List Value) (u : Option Key) (q : Key) → value_leads index key u ≡ true →
    is_value_of q u ≡ true → lead_of index q ≡ Some key
one_leads index key None q leads is = absurd (cc)
one_leads index key (Some k) q leads is = ap (lead_of index) (sym (key_is k q is)) ∙ leads_is key (lead_of index k) leads

one_led : (index : UniqueIndex) (key : List Value) (u : Option Key) →
    ((q : Key) → is_value_of q u ≡ true → lead_of index q ≡ Some key) → value_leads index key u ≡ true
one_led index key None led = refl
one_led index key (Some k) led = is_led key (lead_of index k) (led k (key_self k))

all_lead : (index : UniqueIndex) (id number : ℕ) (us : List (List ℕ)) (key row : List Value) (q : Key) →
    leads_from index id number us key row ≡ true → has_from id number us row q ≡ true → lead_of index q ≡ Some key
all_lead index id number [] key row q lead has = absurd (cc)
all_lead index id number (columns ∷ more) key row q lead has =
    let u = unique_at id number columns row in
    one_of (is_value_of q u) (has_from id (number + 1) more row q) has (lead_of index q ≡ Some key)
    (λ is. one_leads index key u q (left_true (value_leads index key u) _ lead) is)
    (λ later. all_lead index id (number + 1) more key row q (right_true (value_leads index key u) _ lead) later)

all_led : (index : UniqueIndex) (id number : ℕ) (us : List (List ℕ)) (key row : List Value) →
    ((q : Key) → has_from id number us row q ≡ true → lead_of index q ≡ Some key) → leads_from index id number us key row ≡ true
all_led index id number [] key row led = refl
all_led index id number (columns ∷ more) key row led =
    let u = unique_at id number columns row in
    both_true (value_leads index key u) (leads_from index id (number + 1) more key row)
    (one_led index key u (λ q is. led q (first_of (is_value_of q u) (has_from id (number + 1) more row q) is)))
    (all_led index id (number + 1) more key row (λ q later. led q
    (second_of (is_value_of q u) (has_from id (number + 1) more row q) later)))

-- ---- the rows of a table

-- each row that is found passes a test that all pass
each_passes : (f : List Value × List Value → Bool) (rows : Rows) (key row : List Value) → list_all f rows ≡ true →
    entries.find row_cmp key rows ≡ Some row → f (key, row) ≡ true
each_passes f [] key row all found = absurd (cc)
each_passes f ((k, x) ∷ rest) key row all found =
    elim (eq_by_cmp row_cmp key k) as (λ b. eq_by_cmp row_cmp key k ≡ b →
    cond b (Some x) (entries.find row_cmp key rest) ≡ Some row → f (key, row) ≡ true) [
      | true ↦ λ tie here.
          let one : x ≡ row = cc in
          (λ i. f (row_is key k tie i, sym one i)) ∙ left_true (f (k, x)) (list_all f rest) all
      | false ↦ λ tie later. each_passes f rest key row (right_true (f (k, x)) (list_all f rest) all) later
    ] refl found

-- and all pass, where each that is found does
all_pass : (f : List Value × List Value → Bool) (rows : Rows) → T (entries.is_sorted row_cmp rows) →
    ((key row : List Value) → entries.find row_cmp key rows ≡ Some row → f (key, row) ≡ true) → list_all f rows ≡ true
all_pass f [] sorted each = refl
all_pass f ((k, x) ∷ rest) sorted each =
    both_true (f (k, x)) (list_all f rest) (each k x (ap (λ b. cond b (Some x) (entries.find row_cmp k rest)) (row_self k)))
    (all_pass f rest (and_right (entries.below_all row_cmp k rest) (entries.is_sorted row_cmp rest) sorted)
    (λ key row found. each key row (later key row found)))
  where
    and_right : (a b : Bool) → T (a && b) → T b
    and_right true b p = p
    and_right false b p = absurd p

    and_left : (a b : Bool) → T (a && b) → T a
    and_left true b p = tt
    and_left false b p = p

    later : (key row : List Value) → entries.find row_cmp key rest ≡ Some row →
        entries.find row_cmp key ((k, x) ∷ rest) ≡ Some row
    later key row found =
        elim (eq_by_cmp row_cmp key k) as (λ b. eq_by_cmp row_cmp key k ≡ b →
        cond b (Some x) (entries.find row_cmp key rest) ≡ Some row) [
          | true ↦ λ tie.
              let same : key ≡ k = row_is key k tie in
              let gone : entries.find row_cmp k rest ≡ None =
              none_below k rest (and_left (entries.below_all row_cmp k rest) (entries.is_sorted row_cmp rest) sorted) in
              let both : Some row ≡ None = sym found ∙ ap (λ l. entries.find row_cmp l rest) same ∙ gone in
              absurd (cc)
          | false ↦ λ tie. found
        ] refl

-- what the test says of a row that is found
pub record Held (t : TableRow) (index : UniqueIndex) (key row : List Value) : Type 0 where
  pub fit : is_row_of t.columns row ≡ true
  pub keyed : primary_key t row ≡ key
  pub led : (q : Key) → has_unique t row q ≡ true → lead_of index q ≡ Some key

held : (t : TableRow) (index : UniqueIndex) (key row : List Value) → row_holds t index (key, row) ≡ true → Held t index key row
held t index key row holds =
    let fits = is_row_of t.columns row in
    let keyed = eq_by_cmp row_cmp (primary_key t row) key in
    let leading = leads_from index t.id 1 (uniques_of t) key row in
    let rest = right_true fits (keyed && leading) holds in
    record {
      fit = left_true fits (keyed && leading) holds;
      keyed = row_is (primary_key t row) key (left_true keyed leading rest);
      led = λ q has. all_lead index t.id 1 (uniques_of t) key row q (right_true keyed leading rest) has;
    }

rows_held : (t : TableRow) (index : UniqueIndex) (rows : Rows) (key row : List Value) → rows_hold t index rows ≡ true →
    entries.find row_cmp key rows ≡ Some row → Held t index key row
rows_held t index rows key row hold found = held t index key row
    (each_passes (row_holds t index) rows key row (right_true (entries.is_sorted row_cmp rows)
    (list_all (row_holds t index) rows) hold) found)

-- rows that pass are sound
rows_sound : (t : TableRow) (index : UniqueIndex) (rows : Rows) → rows_hold t index rows ≡ true → AreSoundRows t rows
rows_sound t index rows hold = record {
  rising = left_true (entries.is_sorted row_cmp rows) (list_all (row_holds t index) rows) hold;
  keyed = λ key row found. (rows_held t index rows key row hold found).keyed;
  fit = λ key row found. (rows_held t index rows key row hold found).fit;
  single = λ at columns there key other row like found like_found full same.
      let q : Key = record { table = t.id; index = 1 + at; values = values_at row columns } in
      let has : has_unique t row q ≡ true = is_had t.id 1 (uniques_of t) row q at columns there full refl in
      let like_full : list_any is_null (values_at like columns) ≡ false = ap (list_any is_null) (sym same) ∙ full in
      let like_has : has_unique t like q ≡ true =
      is_had t.id 1 (uniques_of t) like q at columns there like_full
      (ap (λ (values : List Value). record { table = t.id; index = 1 + at; values = values }) same) in
      let both : Some key ≡ Some other = sym ((rows_held t index rows key row hold found).led q has) ∙
      (rows_held t index rows other like hold like_found).led q like_has in
      cc;
}

-- sound rows pass
sound_hold : (t : TableRow) (index : UniqueIndex) (rows : Rows) → AreSoundRows t rows → LeadsToRows t rows index →
    rows_hold t index rows ≡ true
sound_hold t index rows sound led =
    both_true (entries.is_sorted row_cmp rows) (list_all (row_holds t index) rows) sound.rising
    (all_pass (row_holds t index) rows (subst T (sym sound.rising) tt) (λ key row found.
    both_true (is_row_of t.columns row) (eq_by_cmp row_cmp (primary_key t row) key &&
    leads_from index t.id 1 (uniques_of t) key row) (sound.fit key row found)
    (both_true (eq_by_cmp row_cmp (primary_key t row) key) (leads_from index t.id 1 (uniques_of t) key row)
    (ap (λ k. eq_by_cmp row_cmp k key) (sound.keyed key row found) ∙ row_self key)
    (all_led index t.id 1 (uniques_of t) key row (λ q has. led key row q found has)))))

-- ---- the tables of a dictionary are found by their ids

past : (a b : ℕ) → a + 1 ≤ b → (a == b) ≡ false
past a b h = grind (arith, nat_tests, h)

self_number : (a : ℕ) → (a == a) ≡ true
self_number a = grind (arith, nat_tests)

least : (a b : ℕ) → nat_le a b ≡ true → a ≤ b
least a b e = grind (arith, nat_tests)

behind : (t : TableRow) (from : ℕ) (us vs : List TableRow) → t.id + 1 ≤ from → ids_rise from us ≡ true →
    AllByRecursion (λ u. table_of vs u.id ≡ Some u) us → AllByRecursion (λ u. table_of (t ∷ vs) u.id ≡ Some u) us
behind t from [] vs low rise there = tt
behind t from (u ∷ us) vs low rise there =
    let at = least from u.id (left_true (nat_le from u.id) (ids_rise (u.id + 1) us) rise) in (
      ap (λ b. cond b (Some t) (table_of vs u.id)) (past t.id u.id (omega (arith, low, at))) ∙ there.0,
      behind t (u.id + 1) us vs (omega (arith, low, at)) (right_true (nat_le from u.id) (ids_rise (u.id + 1) us) rise) there.1,
    )

pub each_found : (from : ℕ) (ts : List TableRow) → ids_rise from ts ≡ true → AllByRecursion (λ t. table_of ts t.id ≡ Some t) ts
each_found from [] rise = tt
each_found from (t ∷ ts) rise =
    let later = right_true (nat_le from t.id) (ids_rise (t.id + 1) ts) rise in (
      ap (λ b. cond b (Some t) (table_of ts t.id)) (self_number t.id),
      behind t (t.id + 1) ts ts (omega arith) later (each_found (t.id + 1) ts later),
    )

-- ---- tables

-- tables that pass are sound
pub tables_sound : (ts : List TableRow) (by : RowsById) (index : UniqueIndex) → tables_hold ts by index ≡ true →
    AreSound (assembled ts by)
tables_sound [] by index hold = tt
tables_sound (t ∷ ts) by index hold = (
  rows_sound t index (rows_by by t.id) (left_true (rows_hold t index (rows_by by t.id)) (tables_hold ts by index) hold),
  tables_sound ts by index (right_true (rows_hold t index (rows_by by t.id)) (tables_hold ts by index) hold),
)

-- and indexed
pub tables_indexed : (ts : List TableRow) (by : RowsById) (index : UniqueIndex) → tables_hold ts by index ≡ true →
    IsIndexed ts by index
tables_indexed [] by index hold id t is key row q found has = absurd (cc)
tables_indexed (u ∷ us) by index hold id t is key row q found has =
    elim (u.id == id) as (λ b. (u.id == id) ≡ b → cond b (Some u) (table_of us id) ≡ Some t → lead_of index q ≡ Some key) [
      | true ↦ λ b h.
          let same : u ≡ t = cc in
          let number : u.id ≡ id = equal_numbers u.id id b in
          (rows_held u index (rows_by by u.id) key row (left_true (rows_hold u index (rows_by by u.id)) (tables_hold us by index)
          hold) (ap (λ n. entries.find row_cmp key (rows_by by n)) number ∙ found)).led q
          (ap (λ v. has_unique v row q) same ∙ has)
      | false ↦ λ b h. tables_indexed us by index (right_true (rows_hold u index (rows_by by u.id)) (tables_hold us by index)
          hold) id t h key row q found has
    ] refl is

-- sound tables that are indexed pass
hold_all : (ts us : List TableRow) (by : RowsById) (index : UniqueIndex) → AllByRecursion (λ t. table_of us t.id ≡ Some t) ts →
    AreSound (assembled ts by) → IsIndexed us by index → tables_hold ts by index ≡ true
hold_all [] us by index there sound indexed = refl
hold_all (t ∷ ts) us by index there sound indexed =
    both_true (rows_hold t index (rows_by by t.id)) (tables_hold ts by index)
    (sound_hold t index (rows_by by t.id) sound.0 (indexed t.id t there.0))
    (hold_all ts us by index there.1 sound.1 indexed)

pub sound_tables_hold : (ts : List TableRow) (by : RowsById) (index : UniqueIndex) → ids_rise 0 ts ≡ true →
    AreSound (assembled ts by) → (AreSound (assembled ts by) → IsIndexed ts by index) → tables_hold ts by index ≡ true
sound_tables_hold ts by index rise sound indexed = hold_all ts ts by index (each_found 0 ts rise) sound (indexed sound)
