-- Writes, each of another row: what is found after them, how many rows there are then, and how the index follows.
use Rattle.std.proofs.Common.{◌≡◌, ℕ, ◌+◌, ◌≤◌, ◌<◌, nat_le, length, ◌-◌, get_or, take, drop, Result, Ok, Err, OnOk, List, [], ◌∷◌, map, refl, sym, ap, subst, ◌∙◌, T, Bool, true, false, cond, not, ◌&&◌, ◌||◌, ◌==◌, arith, Option, Some, None, is_some}
use Rattle.std.proofs.Math.Seq.{take-length}
use Rattle.std.proofs.lemmas.Bool.Decides.{nat_tests}
use Rattle.std.specs.declared.cmp.Ordering.{Ordering}
use Rattle.std.specs.declared.cmp.Ordering.TheVariants.{Less, Equal, Greater}
use Rattle.std.specs.FinMap.Entries as entries
use Rattle.std.specs.Ordering.{eq_by_cmp, is_lt, is_eq}
use Rattle.rl_value.specs.declared.value.Value.{Value}
use Rattle.rl_value.specs.declared.key.Key.{Key}
use Rattle.rl_value.specs.Order.{row_cmp, row_total, key_cmp, key_total, keys_rise, is_below_first}
use Rattle.redo_vec.specs.declared.table.TableRow.{TableRow}
use Rattle.redo_spec.specs.Dictionary.{table_of, ids_rise}
use Rattle.redo_spec.specs.Tables.{Rows, RowsById, rows_by, assembled, row_count}
use Rattle.redo_spec.specs.Work.{write_row}
use Rattle.row_apply.specs.declared.writes.Write.{Write}
use Rattle.row_apply.specs.Overlaid.{written_key, writes_rise, overlaid, are_of}
use Rattle.row_apply.specs.Soundness.{AreSound, AreSoundRows}
use Rattle.row_apply.proofs.Orders.{row_is, row_self, row_turned, key_self}
use Rattle.row_apply.proofs.Slots.{find_write, sorted_write}
use Rattle.plain_store.specs.ById.{rows_after_write, rows_after_writes, is_added, is_removed, added_count, removed_count}
use Rattle.plain_store.specs.Unique.{lead_of, has_unique, slot_has_unique, lead_with, lead_without, lead_after_row_in, lead_after_write, LeadsToRows, IsIndexed}
use Rattle.plain_store.specs.declared.unique_index.UniqueIndex.{UniqueIndex}
use Rattle.plain_store.proofs.MapLemmas.{left_true, right_true, less_is}
use Rattle.plain_store.proofs.TableLaws.{equal_numbers, rows_written, rows_counted, assembled_written}
use Rattle.plain_store.proofs.UniqueLaws.{has_table, one_has, table_id, sound_rows}

-- one of the writes is of the row of this key
abbrev pub is_written : ℕ → List Value → List Write → Bool
is_written id key [] = false
is_written id key (w ∷ ws) = ((w.table == id) && eq_by_cmp row_cmp key w.key) || is_written id key ws

neither : (a b : Bool) → (a || b) ≡ false → (a ≡ false) × (b ≡ false)
neither true b e = absurd (cc)
neither false b e = (refl, e)

either : (a b : Bool) → a ≡ false → b ≡ false → (a || b) ≡ false
either true b p q = absurd (cc)
either false b p q = q

self_number : (a : ℕ) → (a == a) ≡ true
self_number a = grind (arith, nat_tests)

both_hold : (a b : Bool) → a ≡ true → b ≡ true → (a && b) ≡ true
both_hold true b p q = q
both_hold false b p q = absurd (cc)

-- ---- writes that rise are of different rows

is_less : (k l m : Key) (ms : List Key) → key_cmp k l ≡ Less → is_below_first l (m ∷ ms) ≡ true → is_below_first k (m ∷ ms) ≡ true
is_less k l m ms less below = ap is_lt (key_total.trans k l m less (less_is (key_cmp l m) below))

below_next : (k l : Key) (ms : List Key) → key_cmp k l ≡ Less → is_below_first l ms ≡ true → is_below_first k ms ≡ true
below_next k l [] less below = refl
below_next k l (m ∷ ms) less below = is_less k l m ms less below

no_less : (o : Ordering) → o ≡ Less → is_eq o ≡ true → ⊥
no_less Less e f = cc
no_less Equal e f = cc
no_less Greater e f = cc

tied_keys : (v w : Write) → ((w.table == v.table) && eq_by_cmp row_cmp v.key w.key) ≡ true →
    key_cmp (written_key v) (written_key w) ≡ Less → ⊥
tied_keys v w tie less =
    let table : w.table ≡ v.table = equal_numbers w.table v.table (left_true (w.table == v.table) _ tie) in
    let key : v.key ≡ w.key = row_is v.key w.key (right_true (w.table == v.table) _ tie) in
    let same : written_key v ≡ written_key w = λ i. record { table = sym table i; index = 0; values = key i } in
    no_less (key_cmp (written_key v) (written_key w)) less
    (ap (λ k. is_eq (key_cmp (written_key v) k)) (sym same) ∙ key_self (written_key v))

is_not : (b : Bool) → (b ≡ true → ⊥) → b ≡ false
is_not true never = absurd (never refl)
is_not false never = refl

not_among : (w : Write) (ws : List Write) → is_below_first (written_key w) (map written_key ws) ≡ true →
    keys_rise (map written_key ws) ≡ true → is_written w.table w.key ws ≡ false
not_among w [] below rise = refl
not_among w (v ∷ vs) below rise =
    let less = less_is (key_cmp (written_key w) (written_key v)) below in
    let next = left_true (is_below_first (written_key v) (map written_key vs)) (keys_rise (map written_key vs)) rise in
    let later = right_true (is_below_first (written_key v) (map written_key vs)) (keys_rise (map written_key vs)) rise in
    either ((v.table == w.table) && eq_by_cmp row_cmp w.key v.key) (is_written w.table w.key vs)
    (is_not ((v.table == w.table) && eq_by_cmp row_cmp w.key v.key) (λ tie. tied_keys w v tie less))
    (not_among w vs (below_next (written_key w) (written_key v) (map written_key vs) less next) later)

-- the first of them is of another row than the others
pub not_again : (w : Write) (ws : List Write) → writes_rise (w ∷ ws) ≡ true → is_written w.table w.key ws ≡ false
not_again w ws rise =
    not_among w ws (left_true (is_below_first (written_key w) (map written_key ws)) (keys_rise (map written_key ws)) rise)
    (right_true (is_below_first (written_key w) (map written_key ws)) (keys_rise (map written_key ws)) rise)

pub rise_on : (w : Write) (ws : List Write) → writes_rise (w ∷ ws) ≡ true → writes_rise ws ≡ true
rise_on w ws rise = right_true (is_below_first (written_key w) (map written_key ws)) (keys_rise (map written_key ws)) rise

-- ---- what is found after writes

find_if : (b : Bool) (key q : List Value) (slot : Option (List Value)) (rows : Rows) →
    entries.find row_cmp q (cond b (write_row rows key slot) rows) ≡
    cond (b && eq_by_cmp row_cmp q key) slot (entries.find row_cmp q rows)
find_if true key q slot rows = find_write q key slot rows
find_if false key q slot rows = refl

pub find_beside : (by : RowsById) (w : Write) (id : ℕ) (q : List Value) →
    entries.find row_cmp q (rows_by (rows_after_write by w w.row) id) ≡
    cond ((w.table == id) && eq_by_cmp row_cmp q w.key) w.row (entries.find row_cmp q (rows_by by id))
find_beside by w id q = ap (entries.find row_cmp q) (rows_written by w id) ∙ find_if (w.table == id) w.key q w.row (rows_by by id)

-- a row that is not written is there as before
pub find_unwritten : (by : RowsById) (ws : List Write) (id : ℕ) (q : List Value) → is_written id q ws ≡ false →
    entries.find row_cmp q (rows_by (rows_after_writes by ws) id) ≡ entries.find row_cmp q (rows_by by id)
find_unwritten by [] id q free = refl
find_unwritten by (w ∷ ws) id q free =
    let p = neither ((w.table == id) && eq_by_cmp row_cmp q w.key) (is_written id q ws) free in
    find_unwritten (rows_after_write by w w.row) ws id q p.1 ∙ find_beside by w id q ∙
    ap (λ b. cond b w.row (entries.find row_cmp q (rows_by by id))) p.0

-- the written row is there
pub find_first : (by : RowsById) (w : Write) (ws : List Write) → is_written w.table w.key ws ≡ false →
    entries.find row_cmp w.key (rows_by (rows_after_writes by (w ∷ ws)) w.table) ≡ w.row
find_first by w ws free =
    find_unwritten (rows_after_write by w w.row) ws w.table w.key free ∙ find_beside by w w.table w.key
    ∙ ap (λ b. cond b w.row (entries.find row_cmp w.key (rows_by by w.table)))
    (both_hold (w.table == w.table) (eq_by_cmp row_cmp w.key w.key) (self_number w.table) (row_self w.key))

-- ---- how many rows there are

-- the rows of each table rise
abbrev pub Rise : List TableRow → RowsById → Type 0
Rise ts by = (id : ℕ) (t : TableRow) → table_of ts id ≡ Some t → T (entries.is_sorted row_cmp (rows_by by id))

pub rise_sound : (ts : List TableRow) (by : RowsById) → AreSound (assembled ts by) → Rise ts by
rise_sound ts by sound id t is = subst T (sym (sound_rows ts by id t sound is).rising) tt

sorted_if : (b : Bool) (key : List Value) (slot : Option (List Value)) (rows : Rows) → T (entries.is_sorted row_cmp rows) →
    T (entries.is_sorted row_cmp (cond b (write_row rows key slot) rows))
sorted_if true key slot rows h = sorted_write key slot rows h
sorted_if false key slot rows h = h

rise_beside : (ts : List TableRow) (by : RowsById) (w : Write) → Rise ts by → Rise ts (rows_after_write by w w.row)
rise_beside ts by w rise id t is = subst (λ (rows : Rows). T (entries.is_sorted row_cmp rows)) (sym (rows_written by w id))
    (sorted_if (w.table == id) w.key w.row (rows_by by id) (rise id t is))

flip_add : (f : Bool) (l : ℕ) → cond f l (l + 1) ≡ l + cond (not f) 1 0
flip_add true l = omega arith
flip_add false l = omega arith

nothing_removed : (l m : ℕ) → l ≡ m → l + 0 ≡ m
nothing_removed l m e = omega (arith, e)

-- a row more, or one fewer, or as many
length_write : (key : List Value) (slot : Option (List Value)) (rows : Rows) → T (entries.is_sorted row_cmp rows) →
    length (write_row rows key slot) + cond (not (is_some slot) && is_some (entries.find row_cmp key rows)) 1 0 ≡ length rows +
    cond (is_some slot && not (is_some (entries.find row_cmp key rows))) 1 0
length_write key None rows h =
    let one = entries.length_without row_cmp row_total key rows h in
    omega (arith, one)
length_write key (Some row) rows h =
    nothing_removed _ _ (entries.length-put row_cmp row_total key row rows h ∙
    flip_add (is_some (entries.find row_cmp key rows)) (length rows))

below_true : (a b : ℕ) → nat_le a b ≡ true → a ≤ b
below_true a b e = grind (arith, nat_tests)

past_id : (id from : ℕ) → id < from → (t : ℕ) → from ≤ t → (id == t) ≡ false
past_id id from before t after = grind (arith, nat_tests)

-- tables of higher ids have as many rows as before
count_past : (from : ℕ) (ts : List TableRow) (by : RowsById) (w : Write) → ids_rise from ts ≡ true → w.table < from →
    row_count (assembled ts (rows_after_write by w w.row)) ≡ row_count (assembled ts by)
count_past from [] by w rise before = refl
count_past from (t ∷ ts) by w rise before =
    let low = below_true from t.id (left_true (nat_le from t.id) (ids_rise (t.id + 1) ts) rise) in
    let later = count_past (t.id + 1) ts by w (right_true (nat_le from t.id) (ids_rise (t.id + 1) ts) rise)
    (omega (arith, low, before)) in
    let own : rows_by (rows_after_write by w w.row) t.id ≡ rows_by by t.id =
    rows_written by w t.id ∙ ap (λ b. cond b (write_row (rows_by by t.id) w.key w.row) (rows_by by t.id))
    (past_id w.table from before t.id low) in
    rows_counted t ts (rows_after_write by w w.row) ∙ (λ i. length (own i) + later i) ∙ sym (rows_counted t ts by)

turned_id : (a b : ℕ) → (a == b) ≡ (b == a)
turned_id a b = grind (arith, nat_tests)

-- one write more
count_beside : (from : ℕ) (ts : List TableRow) (by : RowsById) (w : Write) → ids_rise from ts ≡ true →
    is_some (table_of ts w.table) ≡ true → T (entries.is_sorted row_cmp (rows_by by w.table)) →
    row_count (assembled ts (rows_after_write by w w.row)) + cond (is_removed by w) 1 0 ≡ row_count (assembled ts by) +
    cond (is_added by w) 1 0
count_beside from [] by w rise there sorted = absurd (cc)
count_beside from (t ∷ ts) by w rise there sorted =
    let now = rows_counted t ts (rows_after_write by w w.row) in
    let was = rows_counted t ts by in
    let on = right_true (nat_le from t.id) (ids_rise (t.id + 1) ts) rise in
    elim (t.id == w.table) as (λ b. (t.id == w.table) ≡ b → is_some (cond b (Some t) (table_of ts w.table)) ≡ true →
    row_count (assembled (t ∷ ts) (rows_after_write by w w.row)) + cond (is_removed by w) 1 0 ≡
    row_count (assembled (t ∷ ts) by) + cond (is_added by w) 1 0) [
      | true ↦ λ b h.
          let same : t.id ≡ w.table = equal_numbers t.id w.table b in
          let own : rows_by (rows_after_write by w w.row) t.id ≡ write_row (rows_by by w.table) w.key w.row =
          ap (rows_by (rows_after_write by w w.row)) same ∙ rows_written by w w.table ∙
          ap (λ c. cond c (write_row (rows_by by w.table) w.key w.row) (rows_by by w.table)) (self_number w.table) in
          let size : length (rows_by (rows_after_write by w w.row) t.id) ≡ length (write_row (rows_by by w.table) w.key w.row) =
          ap length own in
          let old : length (rows_by by t.id) ≡ length (rows_by by w.table) = ap (λ id. length (rows_by by id)) same in
          let others = count_past (t.id + 1) ts by w on (omega (arith, same)) in
          let one = length_write w.key w.row (rows_by by w.table) sorted in
          omega (arith, now, was, size, old, others, one)
      | false ↦ λ b h.
          let own : rows_by (rows_after_write by w w.row) t.id ≡ rows_by by t.id =
          rows_written by w t.id ∙ ap (λ c. cond c (write_row (rows_by by t.id) w.key w.row) (rows_by by t.id))
          (turned_id w.table t.id ∙ b) in
          let size : length (rows_by (rows_after_write by w w.row) t.id) ≡ length (rows_by by t.id) = ap length own in
          let others = count_beside (t.id + 1) ts by w on h sorted in
          omega (arith, now, was, size, others)
    ] refl there

-- the other writes find what they found before the first
same_look : (by : RowsById) (w v : Write) → ((v.table == w.table) && eq_by_cmp row_cmp w.key v.key) ≡ false →
    entries.find row_cmp v.key (rows_by by v.table) ≡ entries.find row_cmp v.key (rows_by (rows_after_write by w w.row) v.table)
same_look by w v free =
    let turned : ((w.table == v.table) && eq_by_cmp row_cmp v.key w.key) ≡
    ((v.table == w.table) && eq_by_cmp row_cmp w.key v.key) = λ i. turned_id w.table v.table i && row_turned v.key w.key i in
    sym (find_beside by w v.table v.key ∙ ap (λ b. cond b w.row (entries.find row_cmp v.key (rows_by by v.table)))
    (turned ∙ free))

added_on : (by : RowsById) (w : Write) (ws : List Write) → is_written w.table w.key ws ≡ false →
    added_count by ws ≡ added_count (rows_after_write by w w.row) ws
added_on by w [] free = refl
added_on by w (v ∷ vs) free =
    let p = neither ((v.table == w.table) && eq_by_cmp row_cmp w.key v.key) (is_written w.table w.key vs) free in
    let look = same_look by w v p.0 in
    let later = added_on by w vs p.1 in
    λ i. cond (is_some v.row && not (is_some (look i))) 1 0 + later i

removed_on : (by : RowsById) (w : Write) (ws : List Write) → is_written w.table w.key ws ≡ false →
    removed_count by ws ≡ removed_count (rows_after_write by w w.row) ws
removed_on by w [] free = refl
removed_on by w (v ∷ vs) free =
    let p = neither ((v.table == w.table) && eq_by_cmp row_cmp w.key v.key) (is_written w.table w.key vs) free in
    let look = same_look by w v p.0 in
    let later = removed_on by w vs p.1 in
    λ i. cond (not (is_some v.row) && is_some (look i)) 1 0 + later i

some_is : {A : Type 0} (o : Option A) → is_some o ≡ true → (x : A) × (o ≡ Some x)
some_is None e = absurd (cc)
some_is (Some x) e = (x, refl)

count_all : (ts : List TableRow) (by : RowsById) (ws : List Write) → ids_rise 0 ts ≡ true → Rise ts by → are_of ts ws ≡ true →
    writes_rise ws ≡ true →
    row_count (assembled ts (rows_after_writes by ws)) + removed_count by ws ≡ row_count (assembled ts by) + added_count by ws
count_all ts by [] ids rise of rising = refl
count_all ts by (w ∷ ws) ids rise of rising =
    let there : is_some (table_of ts w.table) ≡ true = left_true (is_some (table_of ts w.table)) (are_of ts ws) of in
    let table = some_is (table_of ts w.table) there in
    let free = not_again w ws rising in
    let one = count_beside 0 ts by w ids there (rise w.table table.0 table.1) in
    let later = count_all ts (rows_after_write by w w.row) ws ids (rise_beside ts by w rise)
    (right_true (is_some (table_of ts w.table)) (are_of ts ws) of) (rise_on w ws rising) in
    let more = added_on by w ws free in
    let fewer = removed_on by w ws free in
    omega (arith, one, later, more, fewer)

-- as many rows as before, and those added, without those removed
pub counted_after : (ts : List TableRow) (by : RowsById) (ws : List Write) → ids_rise 0 ts ≡ true → AreSound (assembled ts by) →
    are_of ts ws ≡ true → writes_rise ws ≡ true →
    row_count (overlaid (assembled ts by) ws) + removed_count by ws ≡ row_count (assembled ts by) + added_count by ws
counted_after ts by ws ids sound of rising =
    ap (λ us. row_count us + removed_count by ws) (sym (assembled_written ts by ws)) ∙
    count_all ts by ws ids (rise_sound ts by sound) of rising

-- ---- the index

-- as writes go on: the index leads to each row of the tables after them that is not yet to be written
pub record Indexing (ts : List TableRow) (final now : RowsById) (rest : List Write) (index : UniqueIndex) : Type 0 where
  pub same : rows_after_writes now rest ≡ final
  pub rising : writes_rise rest ≡ true
  pub led : (id : ℕ) (t : TableRow) (key row : List Value) (q : Key) → table_of ts id ≡ Some t →
      entries.find row_cmp key (rows_by final id) ≡ Some row → has_unique t row q ≡ true → is_written id key rest ≡ false →
      lead_of index q ≡ Some key

pub indexing_begins : (ts : List TableRow) (by : RowsById) (ws : List Write) (index : UniqueIndex) → writes_rise ws ≡ true →
    IsIndexed ts by index → Indexing ts (rows_after_writes by ws) by ws index
indexing_begins ts by ws index rising indexed = record {
  same = refl;
  rising = rising;
  led = λ id t key row q is found has free. indexed id t is key row q (sym (find_unwritten by ws id key free) ∙ found) has;
}

pub indexing_done : (ts : List TableRow) (final now : RowsById) (index : UniqueIndex) → Indexing ts final now [] index →
    IsIndexed ts now index
indexing_done ts final now index s id t is key row q found has =
    s.led id t key row q is (ap (λ by. entries.find row_cmp key (rows_by by id)) (sym s.same) ∙ found) has refl

slot_some : (t : TableRow) (o : Option (List Value)) (q : Key) → slot_has_unique t o q ≡ true → (row : List Value) ×
    ((o ≡ Some row) × (has_unique t row q ≡ true))
slot_some t None q e = absurd (cc)
slot_some t (Some row) q e = (row, (refl, e))

-- what leads to another row still does
kept_lead : (e l : Bool) (written key : List Value) → e ≡ false → (l ≡ true → eq_by_cmp row_cmp key written ≡ false) →
    lead_with e written (lead_without l written (Some key)) ≡ Some key
kept_lead true l written key never other = absurd (cc)
kept_lead false true written key never other = ap (λ b. cond b None (Some key)) (other refl)
kept_lead false false written key never other = refl

apart : (a b : Bool) → a ≡ true → (a && b) ≡ false → b ≡ false
apart true b p e = e
apart false b p e = absurd (cc)

pub indexing_more : (ts : List TableRow) (final now after : RowsById) (w : Write) (rest : List Write) (old new : UniqueIndex) →
    Indexing ts final now (w ∷ rest) old → AreSound (assembled ts final) →
    ((q : Key) → lead_of new q ≡ lead_after_write ts now w q (lead_of old q)) → after ≡ rows_after_write now w w.row →
    Indexing ts final after rest new
indexing_more ts final now after w rest old new s sound follows is = record {
  same = ap (λ by. rows_after_writes by rest) is ∙ s.same;
  rising = rise_on w rest s.rising;
  led = λ id t key row q table found has free. follows q ∙
      by id t key row q table found has free ((w.table == id) && eq_by_cmp row_cmp key w.key) refl;
}
  where
    was : Option (List Value)
    was = entries.find row_cmp w.key (rows_by now w.table)

    written : entries.find row_cmp w.key (rows_by final w.table) ≡ w.row
    written = ap (λ us. entries.find row_cmp w.key (rows_by us w.table)) (sym s.same) ∙
        find_first now w rest (not_again w rest s.rising)

    else : (id : ℕ) (t : TableRow) (key row : List Value) (q : Key) (o : Option TableRow) → table_of ts w.table ≡ o →
        table_of ts id ≡ Some t → entries.find row_cmp key (rows_by final id) ≡ Some row → has_unique t row q ≡ true →
        ((w.table == id) && eq_by_cmp row_cmp key w.key) ≡ false → lead_after_row_in o w.key was w.row q (Some key) ≡ Some key
    else id t key row q None at table found has other = refl
    else id t key row q (Some u) at table found has other =
        kept_lead (slot_has_unique u w.row q) (slot_has_unique u was q) w.key key
        (is_not (slot_has_unique u w.row q) (λ holds. never holds))
        (λ holds. let p = slot_some u was q holds in tie (has_table u p.0 q p.1.1))
      where
        own : q.table ≡ id
        own = has_table t row q has ∙ table_id ts id t table

        -- a value of the written row's table is another row's
        tie : q.table ≡ u.id → eq_by_cmp row_cmp key w.key ≡ false
        tie of =
            let number : w.table ≡ id = sym (table_id ts w.table u at) ∙ sym of ∙ own in
            apart (w.table == id) (eq_by_cmp row_cmp key w.key) (ap (λ (n : ℕ). n == id) number ∙ self_number id) other

        never : slot_has_unique u w.row q ≡ true → ⊥
        never holds =
            let p = slot_some u w.row q holds in
            let number : w.table ≡ id = sym (table_id ts w.table u at) ∙ sym (has_table u p.0 q p.1.1) ∙ own in
            let tables : Some u ≡ Some t = sym at ∙ ap (table_of ts) number ∙ table in
            let table_same : u ≡ t = cc in
            let there : entries.find row_cmp w.key (rows_by final id) ≡ Some p.0 =
            ap (λ n. entries.find row_cmp w.key (rows_by final n)) (sym number) ∙ written ∙ p.1.0 in
            let one : key ≡ w.key = one_has t (rows_by final id) key w.key row p.0 q (sound_rows ts final id t sound table) found
            there has (ap (λ v. has_unique v p.0 q) (sym table_same) ∙ p.1.1) in
            let ties : eq_by_cmp row_cmp key w.key ≡ true = ap (λ k. eq_by_cmp row_cmp k w.key) one ∙ row_self w.key in
            let differs : eq_by_cmp row_cmp key w.key ≡ false = tie (has_table u p.0 q p.1.1) in
            cc

    by : (id : ℕ) (t : TableRow) (key row : List Value) (q : Key) → table_of ts id ≡ Some t →
        entries.find row_cmp key (rows_by final id) ≡ Some row → has_unique t row q ≡ true → is_written id key rest ≡ false →
        (b : Bool) → ((w.table == id) && eq_by_cmp row_cmp key w.key) ≡ b → lead_after_write ts now w q (lead_of old q) ≡ Some key
    by id t key row q table found has free true tie =
        let number : w.table ≡ id = equal_numbers w.table id (left_true (w.table == id) _ tie) in
        let same : key ≡ w.key = row_is key w.key (right_true (w.table == id) _ tie) in
        let slot : w.row ≡ Some row = sym written ∙ (λ i. entries.find row_cmp (sym same i) (rows_by final (number i))) ∙ found in
        (λ i. lead_after_row_in (((ap (table_of ts) number) ∙ table) i) w.key was (slot i) q (lead_of old q))
        ∙ ap (λ b. lead_with b w.key (lead_without (slot_has_unique t was q) w.key (lead_of old q))) has
        ∙ ap Some (sym same)
    by id t key row q table found has free false tie =
        ap (lead_after_write ts now w q) (s.led id t key row q table found has
        (either ((w.table == id) && eq_by_cmp row_cmp key w.key) (is_written id key rest) tie free))
        ∙ else id t key row q (table_of ts w.table) refl table found has tie

-- ---- the index of the rows at the start

-- as rows go on: the index leads to each row that is not yet to come
pub record Entering (t : TableRow) (all rest : Rows) (before index : UniqueIndex) : Type 0 where
  pub sorted : T (entries.is_sorted row_cmp rest)
  pub alike : (key row : List Value) → entries.find row_cmp key rest ≡ Some row → entries.find row_cmp key all ≡ Some row
  pub led : AreSoundRows t all → (key row : List Value) (q : Key) → entries.find row_cmp key all ≡ Some row →
      has_unique t row q ≡ true → entries.find row_cmp key rest ≡ None → lead_of index q ≡ Some key
  pub others : (q : Key) → (q.table == t.id) ≡ false → lead_of index q ≡ lead_of before q

pub entering_begins : (t : TableRow) (all : Rows) (index : UniqueIndex) → T (entries.is_sorted row_cmp all) →
    Entering t all all index index
entering_begins t all index sorted = record {
  sorted = sorted;
  alike = λ key row found. found;
  led = λ sound key row q found has none. let both : Some row ≡ None = sym found ∙ none in absurd (cc);
  others = λ q other. refl;
}

and_first : (a b : Bool) → T (a && b) → T a
and_first true b p = tt
and_first false b p = p

and_second : (a b : Bool) → T (a && b) → T b
and_second true b p = p
and_second false b p = absurd p

less_differs : (o : Ordering) → T (is_lt o) → is_eq o ≡ false
less_differs Less p = refl
less_differs Equal p = absurd p
less_differs Greater p = absurd p

pub none_below : (key : List Value) (rows : Rows) → T (entries.below_all row_cmp key rows) → entries.find row_cmp key rows ≡ None
none_below key [] h = refl
none_below key (r ∷ rs) h =
    ap (λ b. cond b (Some r.1) (entries.find row_cmp key rs)) (less_differs (row_cmp key r.0) (and_first _ _ h)) ∙
    none_below key rs (and_second (is_lt (row_cmp key r.0)) (entries.below_all row_cmp key rs) h)

-- a row that comes later has another key
pub entering_more : (t : TableRow) (all : Rows) (k x : List Value) (rest : Rows) (before old new : UniqueIndex) →
    Entering t all ((k, x) ∷ rest) before old →
    ((q : Key) → lead_of new q ≡ lead_with (has_unique t x q) k (lead_of old q)) → Entering t all rest before new
entering_more t all k x rest before old new s follows = record {
  sorted = and_second (entries.below_all row_cmp k rest) (entries.is_sorted row_cmp rest) s.sorted;
  alike = λ key row found. s.alike key row (later key row found);
  led = λ sound key row q found has none. follows q ∙ by sound key row q found has none (eq_by_cmp row_cmp key k) refl;
  others = λ q other. follows q ∙ ap (λ b. lead_with b k (lead_of old q)) (is_not (has_unique t x q) (λ has.
      let same : (q.table == t.id) ≡ true = ap (λ (n : ℕ). n == t.id) (has_table t x q has) ∙ self_number t.id in
      cc)) ∙ s.others q other;
}
  where
    gone : entries.find row_cmp k rest ≡ None
    gone = none_below k rest (and_first (entries.below_all row_cmp k rest) (entries.is_sorted row_cmp rest) s.sorted)

    later : (key row : List Value) → entries.find row_cmp key rest ≡ Some row →
        entries.find row_cmp key ((k, x) ∷ rest) ≡ Some row
    later key row found =
        ap (λ b. cond b (Some x) (entries.find row_cmp key rest)) (is_not (eq_by_cmp row_cmp key k) (λ tie.
        let same : key ≡ k = row_is key k tie in
        let both : Some row ≡ None = sym found ∙ ap (λ l. entries.find row_cmp l rest) same ∙ gone in
        absurd (cc))) ∙ found

    own : entries.find row_cmp k all ≡ Some x
    own = s.alike k x (ap (λ b. cond b (Some x) (entries.find row_cmp k rest)) (row_self k))

    by : AreSoundRows t all → (key row : List Value) (q : Key) → entries.find row_cmp key all ≡ Some row →
        has_unique t row q ≡ true → entries.find row_cmp key rest ≡ None → (b : Bool) → eq_by_cmp row_cmp key k ≡ b →
        lead_with (has_unique t x q) k (lead_of old q) ≡ Some key
    by sound key row q found has none true tie =
        let same : key ≡ k = row_is key k tie in
        let rows_same : Some row ≡ Some x = sym found ∙ ap (λ l. entries.find row_cmp l all) same ∙ own in
        let one : row ≡ x = cc in
        ap (λ b. lead_with b k (lead_of old q)) (ap (λ r. has_unique t r q) (sym one) ∙ has) ∙ ap Some (sym same)
    by sound key row q found has none false tie =
        ap (λ b. lead_with b k (lead_of old q)) (is_not (has_unique t x q) (λ x_has.
        let same : key ≡ k = one_has t all key k row x q sound found own has x_has in
        let ties : eq_by_cmp row_cmp key k ≡ true = ap (λ l. eq_by_cmp row_cmp l k) same ∙ row_self k in
        cc))
        ∙ s.led sound key row q found has (ap (λ b. cond b (Some x) (entries.find row_cmp key rest)) tie ∙ none)

-- the tables that follow are indexed, and now the first one
pub indexed_first : (t : TableRow) (ts : List TableRow) (by : RowsById) (old new : UniqueIndex) → IsIndexed ts by old →
    ((key row : List Value) (q : Key) → entries.find row_cmp key (rows_by by t.id) ≡ Some row → has_unique t row q ≡ true →
    lead_of new q ≡ Some key) →
    ((q : Key) → (q.table == t.id) ≡ false → lead_of new q ≡ lead_of old q) → IsIndexed (t ∷ ts) by new
indexed_first t ts by old new indexed own others id u is key row q found has =
    elim (t.id == id) as (λ b. (t.id == id) ≡ b → cond b (Some t) (table_of ts id) ≡ Some u → lead_of new q ≡ Some key) [
      | true ↦ λ b h.
          let same : t ≡ u = cc in
          let number : t.id ≡ id = equal_numbers t.id id b in
          own key row q (ap (λ n. entries.find row_cmp key (rows_by by n)) number ∙ found)
          (ap (λ v. has_unique v row q) same ∙ has)
      | false ↦ λ b h.
          let number : q.table ≡ id = has_table u row q has ∙ table_id ts id u h in
          others q (ap (λ (n : ℕ). n == t.id) number ∙ turned_id id t.id ∙ b) ∙ indexed id u h key row q found has
    ] refl is

all_of_first : (all : List TableRow) (t : TableRow) → 1 ≤ length all → t ≡ get_or all 0 t →
    t ∷ take (length all - 1) (drop 1 all) ≡ all
all_of_first [] t some is = absurd (omega (arith, some))
all_of_first (u ∷ us) t some is =
    let count : length (u ∷ us) - 1 ≡ length us = omega arith in
    (λ i. is i ∷ take (count i) us) ∙ ap (λ ts. u ∷ ts) (take-length us)

-- the tables behind the first are indexed, and now the first one, where they are sound
pub indexed_all : {E : Type 0} (result : Result (Unit {0}) E) (all : List TableRow) (t : TableRow) (by : RowsById)
    (old new : UniqueIndex) → 1 ≤ length all → t ≡ get_or all 0 t →
    (AreSound (assembled (take (length all - 1) (drop 1 all)) by) → IsIndexed (take (length all - 1) (drop 1 all)) by old) →
    OnOk result (AreSoundRows t (rows_by by t.id) → LeadsToRows t (rows_by by t.id) new) →
    OnOk result ((q : Key) → (q.table == t.id) ≡ false → lead_of new q ≡ lead_of old q) →
    OnOk result (AreSound (assembled all by) → IsIndexed all by new)
indexed_all (Ok x) all t by old new some is indexed own others =
    let P : List TableRow → Type 0 = λ ts. AreSound (assembled ts by) → IsIndexed ts by new in
    subst P (all_of_first all t some is) (λ sound. indexed_first t (take (length all - 1) (drop 1 all)) by old new
    (indexed sound.1) (own sound.0) others)
indexed_all (Err e) all t by old new some is indexed own others = tt
