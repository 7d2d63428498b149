-- The write of a row that is read: it is of one of the tables, leaves sound rows of values that have a spelling, and one row
-- more.
use Rattle.std.proofs.Common.{◌≡◌, ℕ, zero, suc, ◌+◌, ◌<◌, ◌≤◌, List, [], ◌∷◌, length, drop, true, false, cond, not, refl, sym, ap, ◌∙◌, subst, Option, Some, None, is_some, Ok, Err, arith}
use Rattle.std.specs.Prelude.{◌&&◌, ◌==◌, nat_le, nat_lt, if◌then◌else◌}
use Rattle.std.proofs.lemmas.Bool.Decides.{nat_tests}
use Rattle.std.proofs.lemmas.List.Sums.{sum_by-cons}
use Rattle.std.specs.Int.{w32}
use Rattle.std.specs.List.{AllByRecursion}
use Rattle.std.specs.Option.{option_map}
use Rattle.std.specs.declared.cmp.Ordering.TheVariants.{Less, Equal, Greater}
use Rattle.std.specs.Ordering.{eq_by_cmp}
use Rattle.std.specs.FinMap.Entries as entries
use Rattle.std.specs.FinMap.Entries.{by_order}
use Rattle.rl_value.specs.declared.value.Value.{Value}
use Rattle.rl_value.specs.Order.{row_cmp}
use Rattle.redo_vec.specs.declared.table.TableRow.{TableRow}
use Rattle.redo_vec.specs.Cutting.{number_in}
use Rattle.redo_vec.specs.Ranges.{AreBytes, IsTable}
use Rattle.redo_vec.specs.Reading.{value_at}
use Rattle.redo_vec.proofs.ChangeLaws.{value_sound}
use Rattle.redo_spec.specs.ChangeForm.{is_row_of}
use Rattle.redo_spec.specs.Dictionary.{table_of, ids_rise}
use Rattle.redo_spec.specs.Effect.{add_row}
use Rattle.redo_spec.specs.Fold.{live_row_limit}
use Rattle.redo_spec.specs.Tables.{Rows, Table, Tables, definitions_of, empty_tables, primary_key, row_count}
use Rattle.redo_spec.specs.Work.{rows_of}
use Rattle.row_apply.specs.declared.writes.Write.{Write}
use Rattle.row_apply.specs.Overlaid.{table_after, overlaid, are_of}
use Rattle.row_apply.specs.Soundness.{AreSoundRows, AreSound}
use Rattle.row_apply.proofs.Adding.{was_added, sound-added}
use Rattle.row_apply.proofs.Sound.{empty-sound}
use Rattle.standby_spec.specs.HasLayout.{AreValues, IsRowOfValues, IsTableOfValues}
use Rattle.standby_spec.specs.Loading.{when_true, after_value, values_within, values_in, table_added, row_into, row_step}
use Rattle.redo_spec.proofs.FieldLaws.{bytes_fit, are_bytes, drop_fits}
use Rattle.standby_spec.proofs.SpellLaws.{if-given, when-given, then-given, map-given}
use Rattle.standby_spec.proofs.StoreLaws.{and-left, and-right, same_nat}
use Rattle.kept_layout.specs.Pairs.{as_row, row_of_bytes, place_of_key}
use Rattle.table_store.specs.Stored.{TableSet}
use Rattle.checkpoint.specs.Read.{AreRowsIn}
use Rattle.checkpoint.specs.RowWrites.{is_keyed_row, is_there, is_taken, may_come, row_put, write_to, write_at, write_of_pair}
use Rattle.checkpoint.proofs.Numbers.{lt_of}
use Rattle.checkpoint.proofs.RowReads.{found_table, found_is, none_found, put_in, later_over, into_is, same_id, write_is_step}

-- ---- what was read

values_fit : (n : ℕ) (bytes : List ℕ) (vs : List Value) → AreBytes bytes → values_within n bytes ≡ Some vs → AreValues vs
values_fit n [] vs f e = let none : [] ≡ vs = cc in subst AreValues none tt
values_fit zero (b ∷ bytes) vs f e = absurd (cc)
values_fit (suc n) (b ∷ bytes) vs f e =
    elim (value_at 0 (b ∷ bytes)) as (λ r. value_at 0 (b ∷ bytes) ≡ r → after_value r (values_within n) ≡ Some vs → AreValues vs) [
      | Ok x ↦ λ is given.
          let a = map-given (λ us. x.0 ∷ us) (values_within n x.1) vs given in
          let sound = value_sound 0 (b ∷ bytes) x (bytes_fit (b ∷ bytes) f) is in
          subst AreValues a.1.1 (sound.1, values_fit n x.1 a.0 (are_bytes x.1 sound.0.rest_fits) a.1.0)
      | Err fault ↦ λ is given. absurd (cc)
    ] refl e

row_fits : (bytes : List ℕ) (row : List Value) → AreBytes bytes → row_of_bytes bytes ≡ Some row → AreValues row
row_fits bytes row f e =
    let a = then-given as_row (values_in bytes) row e in
    let b = when-given (nat_le 1 (length a.0) && nat_le (length a.0) 32) a.0 row a.1.1 in
    subst AreValues b.1 (values_fit (length bytes) bytes a.0 f a.1.0)

place_fits : (key : List ℕ) (place : ℕ × List Value) → AreBytes key → place_of_key key ≡ Some place → AreValues place.1
place_fits key place f e =
    let a = if-given (nat_le 4 (length key)) (option_map (λ k. (number_in w32 0 key, k)) (row_of_bytes (drop 4 key))) place e in
    let b = map-given (λ k. (number_in w32 0 key, k)) (row_of_bytes (drop 4 key)) place a.1 in
    subst (λ (x : ℕ × List Value). AreValues x.1) b.1.1
    (row_fits (drop 4 key) b.0 (are_bytes (drop 4 key) (drop_fits 4 key (bytes_fit key f))) b.1.0)

-- ---- the write

record IsPut (ts : Tables) (w : Write) : Type 0 where
  id : ℕ
  key : List Value
  row : List Value
  table : Table
  found : found_table id ts ≡ Some table
  may : may_come table.row table.rows key row ≡ true
  is : row_put id key row ≡ w
  key_fits : AreValues key
  row_fits : AreValues row

some_is_none : (d : TableRow) → Some d ≡ None → ⊥
some_is_none d e = cc

some_row : (d e : TableRow) → Some d ≡ Some e → d ≡ e
some_row d e is = cc

turned_id : (m n : ℕ) → (m == n) ≡ false → (n == m) ≡ false
turned_id m n e = grind (arith, nat_tests)

there_at : (id : ℕ) (d : TableRow) (ts : Tables) (o : Option Table) → found_table id ts ≡ o →
    table_of (definitions_of ts) id ≡ Some d →
    (t : Table) × ((found_table id ts ≡ Some t) × (t.row ≡ d))
there_at id d ts None e is = let none = none_found id ts e in absurd (some_is_none d (sym is ∙ none))
there_at id d ts (Some t) e is = (t, (e, some_row t.row d (sym (found_is id t ts e).defined ∙ is)))

put_of : (ts : Tables) (id : ℕ) (k row : List Value) (w : Write) (o : Option TableRow) → table_of (definitions_of ts) id ≡ o →
    write_to o ts id k row ≡ Some w → AreValues k → AreValues row → IsPut ts w
put_of ts id k row w None is e f g = absurd (cc)
put_of ts id k row w (Some d) is e f g =
    let a = when-given (may_come d (rows_of ts id) k row) (row_put id k row) w e in
    let t = there_at id d ts (found_table id ts) refl is in
    let found = found_is id t.0 ts t.1.0 in
    record {
      id = id;
      key = k;
      row = row;
      table = t.0;
      found = t.1.0;
      may = ap (λ x. may_come x t.0.rows k row) t.1.1 ∙ ap (λ rs. may_come d rs k row) (sym found.rows) ∙ a.0;
      is = a.1;
      key_fits = f;
      row_fits = g;
    }

put_at : (ts : Tables) (w : Write) (place : Option (ℕ × List Value)) (row : Option (List Value)) →
    write_at ts place row ≡ Some w →
    ((p : ℕ × List Value) → place ≡ Some p → AreValues p.1) → ((r : List Value) → row ≡ Some r → AreValues r) → IsPut ts w
put_at ts w None row e f g = absurd (cc)
put_at ts w (Some p) None e f g = absurd (cc)
put_at ts w (Some p) (Some r) e f g = put_of ts p.0 p.1 r w (table_of (definitions_of ts) p.0) refl e (f p refl) (g r refl)

is_put : (ts : Tables) (key value : List ℕ) (w : Write) → AreBytes key → AreBytes value → write_of_pair ts (key, value) ≡ Some w →
    IsPut ts w
is_put ts key value w f g e =
    let a = if-given (nat_lt (row_count ts) live_row_limit) (write_at ts (place_of_key key) (row_of_bytes value)) w e in
    put_at ts w (place_of_key key) (row_of_bytes value) a.1 (λ p. place_fits key p f) (λ r. row_fits value r g)

-- ---- sound rows

added_ok : (t u : Table) (k row : List Value) → row_into t k row ≡ Some u → add_row t row ≡ Ok u
added_ok t u k row e =
    let a = if-given (is_keyed_row t.row k row) (table_added (add_row t row)) u e in
    elim (add_row t row) as (λ r. table_added r ≡ Some u → r ≡ Ok u) [
      | Ok x ↦ λ is. let same : x ≡ u = cc in ap (λ y. Ok y) same
      | Err miss ↦ λ is. absurd (cc)
    ] a.1

sound_put : (t : Table) (k row : List Value) → AreSoundRows t.row t.rows → may_come t.row t.rows k row ≡ true →
    AreSoundRows t.row (entries.put row_cmp k row t.rows)
sound_put t k row sound may =
    let into : row_into t k row ≡ Some (put_in t k row) = into_is t k row ∙ ap (λ b. when_true b (put_in t k row)) may in
    let was = was_added t.row t.rows row (put_in t k row) (added_ok t (put_in t k row) k row into) in
    let fits = and-left (is_keyed_row t.row k row) (not (is_there t.rows k))
    (and-left (is_keyed_row t.row k row && not (is_there t.rows k)) (not (is_taken t.row t.rows row)) may) in
    let rows : entries.put row_cmp (primary_key t.row row) row t.rows ≡ entries.put row_cmp k row t.rows =
    ap (λ (x : Table). x.rows) was.is in
    subst (AreSoundRows t.row) rows
    (sound-added t.row t.rows row (put_in t k row) sound
    (and-left (is_row_of t.row.columns row) (eq_by_cmp row_cmp (primary_key t.row row) k) fits) was)

-- what holds of each table, where it holds of the one that is written then
all_over : (P : Table → Type 0) (id : ℕ) (k row : List Value) (t : Table) (least : ℕ) (ts : Tables) →
    ids_rise least (definitions_of ts) ≡ true → found_table id ts ≡ Some t → P (put_in t k row) → AllByRecursion P ts →
    AllByRecursion P (overlaid ts (row_put id k row ∷ []))
all_over P id k row t least [] rise e here all = tt
all_over P id k row t least (u ∷ us) rise e here all =
    let more = and-right (nat_le least u.row.id) (ids_rise (u.row.id + 1) (definitions_of us)) rise in
    elim (u.row.id == id) as (λ b. (u.row.id == id) ≡ b → cond b (Some u) (found_table id us) ≡ Some t →
    AllByRecursion P (overlaid (u ∷ us) (row_put id k row ∷ []))) [
      | true ↦ λ is given.
          let same : u ≡ t = cc in
          let at : u.row.id ≡ id = same_nat u.row.id id is in
          let first : table_after (row_put id k row ∷ []) u ≡ put_in t k row =
          ap (λ b. record u { rows = if b then entries.put row_cmp k row u.rows else u.rows }) (same_id id u.row.id (sym at))
          ∙ ap (λ x. put_in x k row) same in (
            subst P (sym first) here,
            subst (AllByRecursion P)
                (sym (later_over id k row (u.row.id + 1) us more (omega (arith, at)))) all.1,
          )
      | false ↦ λ other given.
          let first : table_after (row_put id k row ∷ []) u ≡ u =
          ap (λ b. record u { rows = if b then entries.put row_cmp k row u.rows else u.rows }) (turned_id u.row.id id other) in
          (subst P (sym first) all.0, all_over P id k row t (u.row.id + 1) us more given here all.1)
    ] refl e

at_found : (P : Table → Type 0) (id : ℕ) (t : Table) (ts : Tables) → found_table id ts ≡ Some t → AllByRecursion P ts → P t
at_found P id t [] e all = absurd (cc)
at_found P id t (u ∷ us) e all =
    elim (u.row.id == id) as (λ b. cond b (Some u) (found_table id us) ≡ Some t → P t) [
      | true ↦ λ given. let same : u ≡ t = cc in subst P same all.0
      | false ↦ λ given. at_found P id t us given all.1
    ] e

rows_put : (k v : List Value) (rows : Rows) → AreValues k → AreValues v → AllByRecursion IsRowOfValues rows →
    AllByRecursion IsRowOfValues (entries.put row_cmp k v rows)
rows_put k v [] f g all = ((f, g), tt)
rows_put k v (e ∷ rows) f g all = elim (row_cmp k e.0) as (λ r. AllByRecursion IsRowOfValues
    (by_order r ((k, v) ∷ e ∷ rows) ((e.0, v) ∷ rows) (e ∷ entries.put row_cmp k v rows))) [
      | Less ↦ ((f, g), all)
      | Equal ↦ ((all.0.0, g), all.1)
      | Greater ↦ (all.0, rows_put k v rows f g all.1)
    ]

-- ---- one row more

one_more : (k v : List Value) (rows : Rows) → length (entries.put row_cmp k v rows) ≤ length rows + 1
one_more k v [] = omega arith
one_more k v (e ∷ rows) = elim (row_cmp k e.0) as (λ r. length (by_order r ((k, v) ∷ e ∷ rows) ((e.0, v) ∷ rows)
    (e ∷ entries.put row_cmp k v rows)) ≤ length (e ∷ rows) + 1) [
      | Less ↦ omega arith
      | Equal ↦ omega arith
      | Greater ↦ omega (arith, one_more k v rows)
    ]

count_cons : (t : Table) (ts : Tables) → row_count (t ∷ ts) ≡ length t.rows + row_count ts
count_cons t ts = sum_by-cons (λ (u : Table). length u.rows) t ts

count_over : (id : ℕ) (k row : List Value) (least : ℕ) (ts : Tables) → ids_rise least (definitions_of ts) ≡ true →
    row_count (overlaid ts (row_put id k row ∷ [])) ≤ row_count ts + 1
count_over id k row least [] rise = omega arith
count_over id k row least (u ∷ us) rise =
    let more = and-right (nat_le least u.row.id) (ids_rise (u.row.id + 1) (definitions_of us)) rise in
    let was = count_cons u us in
    let now = count_cons (table_after (row_put id k row ∷ []) u) (overlaid us (row_put id k row ∷ [])) in
    elim (id == u.row.id) as (λ b. (id == u.row.id) ≡ b →
    row_count (overlaid (u ∷ us) (row_put id k row ∷ [])) ≤ row_count (u ∷ us) + 1) [
      | true ↦ λ is.
          let at : id ≡ u.row.id = same_nat id u.row.id is in
          let rows : length (table_after (row_put id k row ∷ []) u).rows ≡ length (entries.put row_cmp k row u.rows) =
          ap (λ b. length (if b then entries.put row_cmp k row u.rows else u.rows)) is in
          let others : row_count (overlaid us (row_put id k row ∷ [])) ≡ row_count us =
          ap row_count (later_over id k row (u.row.id + 1) us more (omega (arith, at))) in
          omega (arith, was, now, rows, others, one_more k row u.rows)
      | false ↦ λ other.
          let rows : length (table_after (row_put id k row ∷ []) u).rows ≡ length u.rows =
          ap (λ b. length (if b then entries.put row_cmp k row u.rows else u.rows)) other in
          omega (arith, was, now, rows, count_over id k row (u.row.id + 1) us more)
    ] refl

-- ---- what the write leaves

pub record Leaves (ts : Tables) (w : Write) : Type 0 where
  pub sound : AreSound (overlaid ts (w ∷ []))
  pub values : AllByRecursion IsTableOfValues (overlaid ts (w ∷ []))
  pub of_tables : are_of (definitions_of ts) (w ∷ []) ≡ true
  pub few : row_count (overlaid ts (w ∷ [])) ≤ row_count ts + 1

leaves_put : (ts : Tables) (w : Write) → IsPut ts w → ids_rise 0 (definitions_of ts) ≡ true → AreSound ts →
    AllByRecursion IsTableOfValues ts → Leaves ts w
leaves_put ts w put rise sound values =
    let t = put.table in
    let here = at_found (λ u. AreSoundRows u.row u.rows) put.id t ts put.found sound in
    let own = at_found IsTableOfValues put.id t ts put.found values in
    subst (Leaves ts) put.is (record {
      sound = all_over (λ u. AreSoundRows u.row u.rows) put.id put.key put.row t 0 ts rise put.found
          (sound_put t put.key put.row here put.may) sound;
      values = all_over IsTableOfValues put.id put.key put.row t 0 ts rise put.found
          (rows_put put.key put.row t.rows put.key_fits put.row_fits own) values;
      of_tables = ap (λ o. is_some o && true) (found_is put.id t ts put.found).defined;
      few = count_over put.id put.key put.row 0 ts rise;
    })

pub write_leaves : (ts : Tables) (key value : List ℕ) (w : Write) → AreBytes key → AreBytes value →
    write_of_pair ts (key, value) ≡ Some w → ids_rise 0 (definitions_of ts) ≡ true → AreSound ts →
    AllByRecursion IsTableOfValues ts → Leaves ts w
write_leaves ts key value w f g e rise sound values = leaves_put ts w (is_put ts key value w f g e) rise sound values

-- there is room for it
pub write_has_room : (ts : Tables) (key value : List ℕ) (w : Write) → write_of_pair ts (key, value) ≡ Some w →
    row_count ts < live_row_limit
write_has_room ts key value w e =
    let a = if-given (nat_lt (row_count ts) live_row_limit) (write_at ts (place_of_key key) (row_of_bytes value)) w e in
    lt_of (row_count ts) live_row_limit a.0

-- before the first row
no_values : (ts : List TableRow) → AllByRecursion IsTableOfValues (empty_tables ts)
no_values [] = tt
no_values (t ∷ ts) = (tt, no_values ts)

pub no_rows_yet : (stored : TableSet) (ts : List TableRow) → stored.tables ≡ empty_tables ts → AreRowsIn stored
no_rows_yet stored ts none = record {
  values = subst (λ (us : Tables). AllByRecursion IsTableOfValues us) (sym none) (no_values ts);
  sound = subst AreSound (sym none) (empty-sound ts);
}

-- with one row more
pub one_row_more : (ts : Tables) (w : Write) (stored : TableSet) → Leaves ts w → stored.tables ≡ overlaid ts (w ∷ []) →
    AreRowsIn stored
one_row_more ts w stored leaves written = record {
  values = subst (λ (us : Tables). AllByRecursion IsTableOfValues us) (sym written) leaves.values;
  sound = subst AreSound (sym written) leaves.sound;
}

-- ---- the row of a pair

pub row_taken : (ts : Tables) (key value : List ℕ) (w : Write) (next : Tables) → AllByRecursion IsTable (definitions_of ts) →
    ids_rise 0 (definitions_of ts) ≡ true → write_of_pair ts (key, value) ≡ Some w → next ≡ overlaid ts (w ∷ []) →
    row_step ts (key, value) ≡ Some next
row_taken ts key value w next each rise write put =
    write_is_step ts key value each rise ∙ ap (option_map (λ v. overlaid ts (v ∷ []))) write ∙ ap (λ us. Some us) (sym put)

pub row_refused : (ts : Tables) (key value : List ℕ) → AllByRecursion IsTable (definitions_of ts) →
    ids_rise 0 (definitions_of ts) ≡ true → write_of_pair ts (key, value) ≡ None → row_step ts (key, value) ≡ None
row_refused ts key value each rise none = write_is_step ts key value each rise ∙ ap (option_map (λ v. overlaid ts (v ∷ []))) none
