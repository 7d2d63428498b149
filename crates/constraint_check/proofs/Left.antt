-- The rows that writes leave: what is found among them, and when a row has its unique values alone.
use Rattle.std.proofs.Common.{◌≡◌, ℕ, suc, ◌+◌, List, [], ◌∷◌, Bool, true, false, cond, not, refl, sym, ap, ◌∙◌, subst, Option, Some, None, is_some, drop, slice_get, unwrap_or, ◌==◌, ◌||◌, ◌&&◌, if◌then◌else◌}
use Rattle.std.proofs.Math.Dec.{T}
use Rattle.std.specs.List.{AllByRecursion, list_any, enumerate_from}
use Rattle.std.specs.Option.{option_map, option_or}
use Rattle.std.specs.Ordering.{eq_by_cmp}
use Rattle.std.specs.FinMap.Entries as entries
use Rattle.rl_value.specs.declared.key.Key.{Key}
use Rattle.rl_value.specs.declared.value.Value.{Value}
use Rattle.rl_value.specs.declared.miss.Miss.TheVariants.{Taken}
use Rattle.rl_value.specs.Order.{row_cmp}
use Rattle.redo_vec.specs.declared.table.TableRow.{TableRow}
use Rattle.redo_spec.specs.ConflictKeys.{is_null}
use Rattle.redo_spec.specs.Dictionary.{table_of, uniques_of}
use Rattle.redo_spec.specs.Effect.{taken_by}
use Rattle.redo_spec.specs.Tables.{Rows, Tables, values_at, owner_in, named, definitions_of}
use Rattle.redo_spec.specs.Work.{rows_of, write_row}
use Rattle.row_apply.specs.declared.writes.Write.{Write}
use Rattle.row_apply.specs.Found.{key_columns, owner_of}
use Rattle.row_apply.specs.Overlaid.{rows_after, overlaid, writes_rise}
use Rattle.row_apply.specs.Soundness.{AreSoundRows, AreSound}
use Rattle.row_apply.proofs.Adding.{taken_none}
use Rattle.row_apply.proofs.Orders.{row_is, row_self, row_turned}
use Rattle.row_apply.proofs.Owners.{none_owns, owner_none, left_was}
use Rattle.row_apply.proofs.Slots.{find_write, sorted_write}
use Rattle.standby_spec.specs.Writable.{is_alone}
use Rattle.constraint_check.specs.LookUps.{same_row, is_written}
use Rattle.constraint_check.proofs.Rising.{above, none_behind, rise_on, same_number}

or-first : (a b : Bool) → (a || b) ≡ false → a ≡ false
or-first true b e = absurd (cc)
or-first false b e = refl

or-second : (a b : Bool) → (a || b) ≡ false → b ≡ false
or-second true b e = absurd (cc)
or-second false b e = e

-- ---- a table that is there

pub sound-of : (ts : Tables) (id : ℕ) (t : TableRow) → AreSound ts → table_of (definitions_of ts) id ≡ Some t →
    AreSoundRows t (rows_of ts id)
sound-of [] id t sound e = absurd (cc)
sound-of (u ∷ us) id t sound e =
    elim (u.row.id == id) as (λ b. cond b (Some u.row) (table_of (definitions_of us) id) ≡ Some t →
    AreSoundRows t (if b then u.rows else rows_of us id)) [
      | true ↦ λ given. let same : u.row ≡ t = cc in subst (λ r. AreSoundRows r u.rows) same sound.0
      | false ↦ λ given. sound-of us id t sound.1 given
    ] e

pub after-of : (ts : Tables) (ws : List Write) (id : ℕ) (t : TableRow) → table_of (definitions_of ts) id ≡ Some t →
    rows_of (overlaid ts ws) id ≡ rows_after id ws (rows_of ts id)
after-of [] ws id t e = absurd (cc)
after-of (u ∷ us) ws id t e =
    elim (u.row.id == id) as (λ b. (u.row.id == id) ≡ b → cond b (Some u.row) (table_of (definitions_of us) id) ≡ Some t →
    (if b then rows_after u.row.id ws u.rows else rows_of (overlaid us ws) id) ≡
    rows_after id ws (if b then u.rows else rows_of us id)) [
      | true ↦ λ is given. ap (λ i. rows_after i ws u.rows) (same_number u.row.id id is)
      | false ↦ λ other given. after-of us ws id t given
    ] refl e

pub owner-of : (ts : Tables) (key : Key) (t : TableRow) → table_of (definitions_of ts) key.table ≡ Some t →
    owner_of ts key ≡ owner_in (rows_of ts key.table) (key_columns t key.index) key.values
owner-of [] key t e = absurd (cc)
owner-of (u ∷ us) key t e =
    elim (u.row.id == key.table) as (λ b. cond b (Some u.row) (table_of (definitions_of us) key.table) ≡ Some t →
    (if b then owner_in u.rows (key_columns u.row key.index) key.values else owner_of us key) ≡
    owner_in (if b then u.rows else rows_of us key.table) (key_columns t key.index) key.values) [
      | true ↦ λ given. let same : u.row ≡ t = cc in ap (λ r. owner_in u.rows (key_columns r key.index) key.values) same
      | false ↦ λ given. owner-of us key t given
    ] e

get-drop : (keys : List (List ℕ)) (i : ℕ) → slice_get (drop 1 keys) i ≡ slice_get keys (suc i)
get-drop [] i = refl
get-drop (k ∷ ks) i = refl

-- the columns of a unique key by its number
pub columns-of : (t : TableRow) (i m : ℕ) (columns : List ℕ) → m ≡ suc i → slice_get (uniques_of t) i ≡ Some columns →
    key_columns t m ≡ columns
columns-of t i m columns is e =
    ap (key_columns t) is ∙ ap (λ o. unwrap_or o []) (sym (get-drop t.keys i) ∙ e)

-- ---- rows after writes

-- a row that is not written is there as before
pub find-unwritten : (id : ℕ) (ws : List Write) (q : List Value) (rows : Rows) → is_written ws id q ≡ false →
    entries.find row_cmp q (rows_after id ws rows) ≡ entries.find row_cmp q rows
find-unwritten id [] q rows free = refl
find-unwritten id (w ∷ ws) q rows free =
    elim (w.table == id) as (λ b. (b && eq_by_cmp row_cmp w.key q) ≡ false →
    entries.find row_cmp q (rows_after id ws (if b then write_row rows w.key w.row else rows)) ≡ entries.find row_cmp q rows) [
      | true ↦ λ apart.
          find-unwritten id ws q (write_row rows w.key w.row) (or-second (same_row id q w) (is_written ws id q) free)
          ∙ find_write q w.key w.row rows
          ∙ ap (λ c. cond c w.row (entries.find row_cmp q rows)) (row_turned q w.key ∙ apart)
      | false ↦ λ apart. find-unwritten id ws q rows (or-second (same_row id q w) (is_written ws id q) free)
    ] (or-first (same_row id q w) (is_written ws id q) free)

-- the key of a write is not written again behind it
pub not-again : (w : Write) (ws : List Write) → writes_rise (w ∷ ws) ≡ true → is_written ws w.table w.key ≡ false
not-again w ws rise = none_behind w.table w.key ws (λ k d inside. above w ws rise k d inside)

-- each written row is found as it was written
pub find-written : (id : ℕ) (ws : List Write) (rows : Rows) → writes_rise ws ≡ true →
    AllByRecursion (λ w. (w.table == id) ≡ true → entries.find row_cmp w.key (rows_after id ws rows) ≡ w.row) ws
find-written id [] rows rise = tt
find-written id (w ∷ ws) rows rise = (
  (λ is.
      let here : w.table ≡ id = same_number w.table id is in
      ap (λ b. entries.find row_cmp w.key (rows_after id ws (if b then write_row rows w.key w.row else rows))) is
      ∙ find-unwritten id ws w.key (write_row rows w.key w.row) (subst (λ i. is_written ws i w.key ≡ false) here
      (not-again w ws rise))
      ∙ find_write w.key w.key w.row rows
      ∙ ap (λ c. cond c w.row (entries.find row_cmp w.key rows)) (row_self w.key)),
  find-written id ws (if w.table == id then write_row rows w.key w.row else rows) (rise_on w ws rise),
)

pub after-sorted : (id : ℕ) (ws : List Write) (rows : Rows) → T (entries.is_sorted row_cmp rows) →
    T (entries.is_sorted row_cmp (rows_after id ws rows))
after-sorted id [] rows h = h
after-sorted id (w ∷ ws) rows h = after-sorted id ws (if w.table == id then write_row rows w.key w.row else rows)
    (elim (w.table == id) as (λ b. T (entries.is_sorted row_cmp (if b then write_row rows w.key w.row else rows))) [
      | true ↦
          sorted_write w.key w.row rows h
      | false ↦ h
    ])

-- ---- a row that has its unique values alone

-- a row with one of its unique values is that row
abbrev pub IsLone : TableRow → Rows → List Value → List Value → Type 0
IsLone t left key row = (i : ℕ) (columns : List ℕ) → slice_get (uniques_of t) i ≡ Some columns →
    list_any is_null (values_at row columns) ≡ false → (k x : List Value) → entries.find row_cmp k left ≡ Some x →
    values_at x columns ≡ values_at row columns → k ≡ key

not-some : {A : Type 0} (o : Option A) → not (is_some o) ≡ true → o ≡ None
not-some None e = refl
not-some (Some x) e = absurd (cc)

pub lone-by-alone : (t : TableRow) (left : Rows) (key row : List Value) → is_alone t left (key, row) ≡ true →
    IsLone t left key row
lone-by-alone t left key row alone i columns unique full k x found same =
    let none = taken_none t (write_row left key None) row 1 (uniques_of t)
    (not-some (taken_by t (write_row left key None) row (enumerate_from 1 (uniques_of t))) alone) i columns unique full in
    elim (eq_by_cmp row_cmp k key) as (λ b. eq_by_cmp row_cmp k key ≡ b → k ≡ key) [
      | true ↦ λ is. row_is k key is
      | false ↦ λ apart. absurd (none_owns (write_row left key None) columns (values_at row columns) k x none
          (find_write k key None left ∙ ap (λ c. cond c None (entries.find row_cmp k left)) apart ∙ found) same)
    ] refl

taken-at-none : (b : Bool) (t : TableRow) (index : ℕ) (o : Option (List Value)) → (b ≡ false → o ≡ None) →
    (if b then None else option_map (λ owner. Taken index (named t owner)) o) ≡ None
taken-at-none true t index o none = refl
taken-at-none false t index o none = ap (option_map (λ owner. Taken index (named t owner))) (none refl)

taken-of-none : (t : TableRow) (rows : Rows) (row : List Value) (n : ℕ) (us : List (List ℕ)) →
    ((i : ℕ) (columns : List ℕ) → slice_get us i ≡ Some columns → list_any is_null (values_at row columns) ≡ false →
    owner_in rows columns (values_at row columns) ≡ None) → taken_by t rows row (enumerate_from n us) ≡ None
taken-of-none t rows row n [] none = refl
taken-of-none t rows row n (u ∷ us) none =
    ap (λ o. option_or o (taken_by t rows row (enumerate_from (n + 1) us)))
    (taken-at-none (list_any is_null (values_at row u)) t n (owner_in rows u (values_at row u)) (λ full. none 0 u refl full))
    ∙ taken-of-none t rows row (n + 1) us (λ i columns e full. none (suc i) columns e full)

pub alone-by-lone : (t : TableRow) (left : Rows) (key row : List Value) → T (entries.is_sorted row_cmp left) →
    IsLone t left key row → is_alone t left (key, row) ≡ true
alone-by-lone t left key row sorted lone =
    ap (λ o. not (is_some o)) (taken-of-none t (write_row left key None) row 1 (uniques_of t) (λ i columns unique full.
    owner_none (write_row left key None) columns (values_at row columns) (sorted_write key None left sorted) (λ k x found same.
    let was = left_was (Some key) k x left found in
    let is : k ≡ key = lone i columns unique full k x was.1 same in
    let there : eq_by_cmp row_cmp k key ≡ true = ap (λ j. eq_by_cmp row_cmp k j) (sym is) ∙ row_self k in
    let apart : eq_by_cmp row_cmp k key ≡ false = was.0 in
    cc)))
