-- Laws of written rows: writes that may be put in place leave sound tables.
use Rattle.std.proofs.Common.{◌≡◌, ℕ, ◌+◌, ◌<◌, ◌≤◌, List, [], ◌∷◌, true, false, cond, not, refl, sym, ap, ◌∙◌, subst, Option, Some, None, is_some, arith, inl, inr}
use Rattle.std.specs.Prelude.{◌==◌, ◌⊎◌, nat_le, if◌then◌else◌, slice_get}
use Rattle.std.proofs.Math.Dec.{T}
use Rattle.std.proofs.lemmas.Bool.Decides.{nat_tests}
use Rattle.std.specs.List.{list_all, list_any, enumerate_from, AllByRecursion}
use Rattle.std.specs.Ordering.{eq_by_cmp}
use Rattle.std.specs.FinMap.Entries as entries
use Rattle.rl_value.specs.declared.value.Value.{Value}
use Rattle.rl_value.specs.Order.{row_cmp}
use Rattle.redo_vec.specs.declared.table.TableRow.{TableRow}
use Rattle.redo_spec.specs.ChangeForm.{is_row_of}
use Rattle.redo_spec.specs.ConflictKeys.{is_null}
use Rattle.redo_spec.specs.Dictionary.{table_of, uniques_of, ids_rise}
use Rattle.redo_spec.specs.Effect.{taken_by}
use Rattle.redo_spec.specs.Tables.{Rows, Table, Tables, values_at, primary_key, definitions_of}
use Rattle.redo_spec.specs.Work.{rows_of, write_row}
use Rattle.row_apply.specs.declared.writes.Write.{Write}
use Rattle.row_apply.specs.Overlaid.{rows_after, overlaid}
use Rattle.row_apply.specs.Soundness.{AreSoundRows, AreSound, HaveOneOwner}
use Rattle.row_apply.proofs.Adding.{taken_none}
use Rattle.row_apply.proofs.Orders.{row_is}
use Rattle.row_apply.proofs.Owners.{none_owns}
use Rattle.row_apply.proofs.Slots.{find_write, sorted_write}
use Rattle.standby_spec.specs.Writable.{is_alone, is_alone_at, is_left_alone, row_fits, can_be_written}
use Rattle.standby_spec.proofs.StoreLaws.{and-left, and-right, to_T, from_T, same_nat}

-- ---- one table

-- the tests of the writes of a table, where these rows are left
abbrev ArePassed : TableRow → Rows → List Write → Type 0
ArePassed t left ws = AllByRecursion (λ w. (w.table == t.id) ≡ true → (row_fits (Some t) w.key w.row ≡ true) ×
    (is_left_alone (Some t) left w.key ≡ true)) ws

after-sorted : (id : ℕ) (ws : List Write) (rows : Rows) → T (entries.is_sorted row_cmp rows) →
    T (entries.is_sorted row_cmp (rows_after id ws rows))
after-sorted id [] rows h = h
after-sorted id (w ∷ ws) rows h = after-sorted id ws (if w.table == id then write_row rows w.key w.row else rows)
    (elim (w.table == id) as (λ b. T (entries.is_sorted row_cmp (if b then write_row rows w.key w.row else rows))) [
      | true ↦
          sorted_write w.key w.row rows h
      | false ↦ h
    ])

-- a fact of each row that is found
abbrev OfEach : (List Value → List Value → Type 0) → Rows → Type 0
OfEach P rows = (key row : List Value) → entries.find row_cmp key rows ≡ Some row → P key row

each-write : (P : List Value → List Value → Type 0) (k : List Value) (v : Option (List Value)) (rows : Rows) → OfEach P rows →
    ((row : List Value) → v ≡ Some row → P k row) → OfEach P (write_row rows k v)
each-write P k v rows each new key row e =
    elim (eq_by_cmp row_cmp key k) as (λ b. eq_by_cmp row_cmp key k ≡ b →
    cond b v (entries.find row_cmp key rows) ≡ Some row → P key row) [
      | true ↦ λ is given. subst (λ q. P q row) (sym (row_is key k is)) (new row given)
      | false ↦ λ other given. each key row given
    ] refl (sym (find_write key k v rows) ∙ e)

each-after : (P : List Value → List Value → Type 0) (id : ℕ) (ws : List Write) (rows : Rows) → OfEach P rows →
    AllByRecursion (λ w. (w.table == id) ≡ true → (row : List Value) → w.row ≡ Some row → P w.key row) ws →
    OfEach P (rows_after id ws rows)
each-after P id [] rows each all = each
each-after P id (w ∷ ws) rows each all =
    elim (w.table == id) as (λ b. (w.table == id) ≡ b → OfEach P
    (rows_after id ws (if b then write_row rows w.key w.row else rows))) [
      | true ↦ λ is. each-after P id ws (write_row rows w.key w.row) (each-write P w.key w.row rows each (all.0 is)) all.1
      | false ↦ λ other. each-after P id ws rows each all.1
    ] refl

fits-row : (t : TableRow) (k : List Value) (v : Option (List Value)) → row_fits (Some t) k v ≡ true →
    (row : List Value) → v ≡ Some row →
    (primary_key t row ≡ k) × (is_row_of t.columns row ≡ true)
fits-row t k None e row is = absurd (cc)
fits-row t k (Some v) e row is =
    let same : v ≡ row = cc in (
      ap (primary_key t) (sym same) ∙ row_is (primary_key t v) k
          (and-right (is_row_of t.columns v) (eq_by_cmp row_cmp (primary_key t v) k) e),
      ap (is_row_of t.columns) (sym same) ∙ and-left (is_row_of t.columns v) (eq_by_cmp row_cmp (primary_key t v) k) e,
    )

rows-fit : (t : TableRow) (left : Rows) (ws : List Write) → ArePassed t left ws →
    AllByRecursion (λ w. (w.table == t.id) ≡ true → (row : List Value) → w.row ≡ Some row → (primary_key t row ≡ w.key) ×
    (is_row_of t.columns row ≡ true)) ws
rows-fit t left [] all = tt
rows-fit t left (w ∷ ws) all = ((λ is row e. fits-row t w.key w.row (all.0 is).0 row e), rows-fit t left ws all.1)

-- a row is left by a write of its key, which found it alone, or was there
abbrev IsAloneHere : TableRow → Rows → List Value → Type 0
IsAloneHere t left key = is_left_alone (Some t) left key ≡ true

alone-or-was : (t : TableRow) (left : Rows) (ws : List Write) (rows : Rows) → ArePassed t left ws → (key : List Value) →
    IsAloneHere t left key ⊎ (entries.find row_cmp key (rows_after t.id ws rows) ≡ entries.find row_cmp key rows)
alone-or-was t left [] rows all key = inr refl
alone-or-was t left (w ∷ ws) rows all key =
    elim (w.table == t.id) as (λ b. (w.table == t.id) ≡ b → IsAloneHere t left key ⊎
    (entries.find row_cmp key (rows_after t.id ws (if b then write_row rows w.key w.row else rows)) ≡
    entries.find row_cmp key rows)) [
      | true ↦ λ is. elim (alone-or-was t left ws (write_row rows w.key w.row) all.1 key) [
        | inl alone ↦ inl alone
        | inr was ↦ elim (eq_by_cmp row_cmp key w.key) as (λ c. eq_by_cmp row_cmp key w.key ≡ c → IsAloneHere t left key ⊎
            (entries.find row_cmp key (rows_after t.id ws (write_row rows w.key w.row)) ≡ entries.find row_cmp key rows)) [
              | true ↦ λ same. inl (ap (is_left_alone (Some t) left) (row_is key w.key same) ∙ (all.0 is).1)
              | false ↦ λ other. inr (was ∙ find_write key w.key w.row rows ∙
                  ap (λ c. cond c w.row (entries.find row_cmp key rows)) other)
            ] refl
      ]
      | false ↦ λ other. alone-or-was t left ws rows all.1 key
    ] refl

not-some : {A : Type 0} (o : Option A) → not (is_some o) ≡ true → o ≡ None
not-some None e = refl
not-some (Some x) e = absurd (cc)

-- a row that is alone has no like under another key
alone-key : (t : TableRow) (left : Rows) (index : ℕ) (columns : List ℕ) (key row other like : List Value) →
    slice_get (uniques_of t) index ≡ Some columns →
    IsAloneHere t left key → entries.find row_cmp key left ≡ Some row → entries.find row_cmp other left ≡ Some like →
    list_any is_null (values_at row columns) ≡ false → values_at like columns ≡ values_at row columns → other ≡ key
alone-key t left index columns key row other like unique alone found there full same =
    let test : is_alone t left (key, row) ≡ true = sym (ap (is_alone_at t left key) found) ∙ alone in
    let none = taken_none t (write_row left key None) row 1 (uniques_of t)
    (not-some (taken_by t (write_row left key None) row (enumerate_from 1 (uniques_of t))) test)
    index columns unique full in
    elim (eq_by_cmp row_cmp other key) as (λ b. eq_by_cmp row_cmp other key ≡ b → other ≡ key) [
      | true ↦ λ is. row_is other key is
      | false ↦ λ apart. absurd (none_owns (write_row left key None) columns (values_at row columns) other like none
          (find_write other key None left ∙ ap (λ c. cond c None (entries.find row_cmp other left)) apart ∙ there) same)
    ] refl

one-owner : (t : TableRow) (ws : List Write) (rows : Rows) (index : ℕ) (columns : List ℕ) →
    slice_get (uniques_of t) index ≡ Some columns →
    ArePassed t (rows_after t.id ws rows) ws → HaveOneOwner columns rows → HaveOneOwner columns (rows_after t.id ws rows)
one-owner t ws rows index columns unique all single key other row like e f full same =
    let left = rows_after t.id ws rows in
    elim (alone-or-was t left ws rows all key) [
      | inl alone ↦ sym (alone-key t left index columns key row other like unique alone e f full (sym same))
      | inr was ↦ elim (alone-or-was t left ws rows all other) [
        | inl alone ↦ alone-key t left index columns other like key row unique alone f e
            (sym (ap (list_any is_null) same) ∙ full) same
        | inr before ↦ single key other row like (sym was ∙ e) (sym before ∙ f) full same
      ]
    ]

table-sound : (t : TableRow) (ws : List Write) (rows : Rows) → AreSoundRows t rows → ArePassed t (rows_after t.id ws rows) ws →
    AreSoundRows t (rows_after t.id ws rows)
table-sound t ws rows sound all =
    let both = each-after (λ key row. (primary_key t row ≡ key) × (is_row_of t.columns row ≡ true)) t.id ws rows
    (λ key row e. (sound.keyed key row e, sound.fit key row e)) (rows-fit t (rows_after t.id ws rows) ws all) in
    record {
      rising = from_T _ (after-sorted t.id ws rows (to_T _ sound.rising));
      keyed = λ key row e. (both key row e).0;
      fit = λ key row e. (both key row e).1;
      single = λ index columns unique. one-owner t ws rows index columns unique all (sound.single index columns unique);
    }

-- ---- all tables

least-id : (least : ℕ) (t : Table) (ts : Tables) → ids_rise least (definitions_of (t ∷ ts)) ≡ true → least ≤ t.row.id
least-id least t ts rise =
    let here : nat_le least t.row.id ≡ true = and-left (nat_le least t.row.id)
    (ids_rise (t.row.id + 1) (definitions_of ts)) rise in
    grind (arith, nat_tests)

rise-rest : (least : ℕ) (t : Table) (ts : Tables) → ids_rise least (definitions_of (t ∷ ts)) ≡ true →
    ids_rise (t.row.id + 1) (definitions_of ts) ≡ true
rise-rest least t ts rise = and-right (nat_le least t.row.id) (ids_rise (t.row.id + 1) (definitions_of ts)) rise

same_id : (n : ℕ) → (n == n) ≡ true
same_id n = grind (arith, nat_tests)

apart_id : (m n : ℕ) → m < n → (m == n) ≡ false
apart_id m n lt = grind (arith, nat_tests)

-- a table is found by its id, and so are its rows after the writes
abbrev IsFoundIn : Tables → List Write → Table → Type 0
IsFoundIn all ws t = (table_of (definitions_of all) t.row.id ≡ Some t.row) ×
    (rows_of (overlaid all ws) t.row.id ≡ rows_after t.row.id ws t.rows)

found-behind : (ws : List Write) (t : Table) (all ts : Tables) (least : ℕ) → t.row.id < least →
    ids_rise least (definitions_of ts) ≡ true → AllByRecursion (IsFoundIn all ws) ts →
    AllByRecursion (IsFoundIn (t ∷ all) ws) ts
found-behind ws t all [] least lt rise is = tt
found-behind ws t all (u ∷ us) least lt rise is =
    let low = least-id least u us rise in
    let apart = apart_id t.row.id u.row.id (omega (arith, low, lt)) in (
      (
        ap (λ b. if b then Some t.row else table_of (definitions_of all) u.row.id) apart ∙ is.0.0,
        ap (λ b. if b then rows_after t.row.id ws t.rows else rows_of (overlaid all ws) u.row.id) apart ∙ is.0.1,
      ),
      found-behind ws t all us (u.row.id + 1) (omega (arith, low, lt)) (rise-rest least u us rise) is.1,
    )

found-in : (ws : List Write) (least : ℕ) (ts : Tables) → ids_rise least (definitions_of ts) ≡ true →
    AllByRecursion (IsFoundIn ts ws) ts
found-in ws least [] rise = tt
found-in ws least (t ∷ ts) rise = (
  (
    ap (λ b. if b then Some t.row else table_of (definitions_of ts) t.row.id) (same_id t.row.id),
    ap (λ b. if b then rows_after t.row.id ws t.rows else rows_of (overlaid ts ws) t.row.id) (same_id t.row.id),
  ),
  found-behind ws t ts ts (t.row.id + 1) (omega arith) (rise-rest least t ts rise)
      (found-in ws (t.row.id + 1) ts (rise-rest least t ts rise)),
)

-- the tests of all writes are those of the writes of each table
passed : (all : Tables) (whole : List Write) (t : Table) (ws : List Write) → IsFoundIn all whole t →
    list_all (λ w. row_fits (table_of (definitions_of all) w.table) w.key w.row) ws ≡ true →
    list_all (λ w. is_left_alone (table_of (definitions_of all) w.table) (rows_of (overlaid all whole) w.table) w.key) ws ≡ true →
    ArePassed t.row (rows_after t.row.id whole t.rows) ws
passed all whole t [] found fit alone = tt
passed all whole t (w ∷ ws) found fit alone = (
  (λ is.
      let id = same_nat w.table t.row.id is in
      let table : table_of (definitions_of all) w.table ≡ Some t.row = ap (table_of (definitions_of all)) id ∙ found.0 in
      let rows : rows_of (overlaid all whole) w.table ≡ rows_after t.row.id whole t.rows =
      ap (rows_of (overlaid all whole)) id ∙ found.1 in (
        sym (ap (λ o. row_fits o w.key w.row) table) ∙ and-left
            (row_fits (table_of (definitions_of all) w.table) w.key w.row) _ fit,
        sym (λ i. is_left_alone (table i) (rows i) w.key)
            ∙ and-left (is_left_alone (table_of (definitions_of all) w.table) (rows_of (overlaid all whole) w.table) w.key) _
            alone,
      )),
  passed all whole t ws found (and-right (row_fits (table_of (definitions_of all) w.table) w.key w.row) _ fit)
      (and-right (is_left_alone (table_of (definitions_of all) w.table) (rows_of (overlaid all whole) w.table) w.key) _ alone),
)

all-sound : (all : Tables) (ws : List Write) (ts : Tables) → AllByRecursion (IsFoundIn all ws) ts →
    list_all (λ w. row_fits (table_of (definitions_of all) w.table) w.key w.row) ws ≡ true →
    list_all (λ w. is_left_alone (table_of (definitions_of all) w.table) (rows_of (overlaid all ws) w.table) w.key) ws ≡ true →
    AreSound ts → AreSound (overlaid ts ws)
all-sound all ws [] found fit alone sound = tt
all-sound all ws (t ∷ ts) found fit alone sound =
    (table-sound t.row ws t.rows sound.0 (passed all ws t ws found.0 fit alone), all-sound all ws ts found.1 fit alone sound.1)

pub written-sound : (ts : Tables) (ws : List Write) → ids_rise 0 (definitions_of ts) ≡ true → AreSound ts →
    can_be_written ts ws ≡ true → AreSound (overlaid ts ws)
written-sound ts ws rise sound e =
    all-sound ts ws ts (found-in ws 0 ts rise)
    (and-left (list_all (λ w. row_fits (table_of (definitions_of ts) w.table) w.key w.row) ws) _ e)
    (and-right (list_all (λ w. row_fits (table_of (definitions_of ts) w.table) w.key w.row) ws) _ e) sound
