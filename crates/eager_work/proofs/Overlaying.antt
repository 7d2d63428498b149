-- Writes put in place one after the other; and an effect as the writes that it leaves.
use Rattle.std.proofs.Common.{◌≡◌, ℕ, ◌+◌, ◌≤◌, List, [], ◌∷◌, ◌++◌, map, filter, refl, sym, ap, subst, ◌∙◌, Bool, true, false, cond, ◌&&◌, ◌||◌, ◌==◌, nat_le, arith, if◌then◌else◌, Option, Some}
use Rattle.std.proofs.Math.Dec.{T}
use Rattle.std.specs.List.{AllByRecursion}
use Rattle.std.specs.List.Sorted.{IsStrictlySortedBy}
use Rattle.std.specs.Map.{keys_of}
use Rattle.std.specs.BTreeMap.{insert_entry}
use Rattle.std.specs.FinMap.Entries as entries
use Rattle.std.specs.FinMap.Entries.{by_order}
use Rattle.std.specs.Ordering.{is_eq, is_lt, eq_by_cmp}
use Rattle.std.specs.declared.cmp.Ordering.{Ordering}
use Rattle.std.specs.declared.cmp.Ordering.TheVariants.{Less, Equal, Greater}
use Rattle.std.proofs.lemmas.Bool.Decides.{nat_tests}
use Rattle.rl_value.specs.declared.value.Value.{Value}
use Rattle.rl_value.specs.declared.key.Key.{Key}
use Rattle.rl_value.specs.Order.{row_cmp, key_cmp, key_total, key_set, with_key}
use Rattle.redo_vec.specs.declared.change.Change.{Change}
use Rattle.redo_vec.specs.declared.table.TableRow.{TableRow}
use Rattle.redo_spec.specs.ConflictKeys.{conflict_keys}
use Rattle.redo_spec.specs.Dictionary.{ids_rise}
use Rattle.redo_spec.specs.Tables.{Rows, Table, Tables, definitions_of}
use Rattle.redo_spec.specs.Work.{rows_of, row_at, write_row, writes_of}
use Rattle.row_apply.specs.declared.writes.Write.{Write}
use Rattle.row_apply.specs.Kept.{Slots, row_key, slot_at, AreSlots, Sets}
use Rattle.row_apply.specs.Overlaid.{overlaid, rows_after, table_after, written_key}
use Rattle.row_apply.specs.Soundness.{AreSound, AreSoundRows}
use Rattle.row_apply.specs.Written.{writes_in, put_writes}
use Rattle.row_apply.proofs.Fitting.{both}
use Rattle.row_apply.proofs.Orders.{key_is, key_same, key_self, key_turned}
use Rattle.row_apply.proofs.Slots.{to_T, sorted_entries, sorted_after, insert_entry-put, lookup-inserted, after_set, after_others, sets-only, find_write, rows_same, tie_turned}
use Rattle.eager_work.specs.Attempts.{Attempt, writes, all_written, writes_tried, left_by}
use Rattle.eager_work.proofs.Alike.{AreAlike}
use Rattle.eager_work.proofs.Gathered.{put-append, primary_inserted}
use Rattle.eager_work.proofs.Given.{among}
use Rattle.eager_work.proofs.WorkLaws.{written-more}

-- ---- entries that rise

and_first : (a b : Bool) → T (a && b) → T a
and_first true b p = tt
and_first false b p = p

and_second : (a b : Bool) → T (a && b) → T b
and_second true b p = p
and_second false b p = absurd p

less_T : (o : Ordering) → T (is_lt o) → o ≡ Less
less_T Less p = refl
less_T Equal p = absurd p
less_T Greater p = absurd p

below_keys : (k : Key) (es : Slots) → T (entries.below_all key_cmp k es) → AllByRecursion (λ l. key_cmp k l ≡ Less) (keys_of es)
below_keys k [] s = tt
below_keys k (e ∷ es) s = (
  less_T (key_cmp k e.0) (and_first (is_lt (key_cmp k e.0)) (entries.below_all key_cmp k es) s),
  below_keys k es (and_second (is_lt (key_cmp k e.0)) (entries.below_all key_cmp k es) s),
)

strictly : (es : Slots) → T (entries.is_sorted key_cmp es) → IsStrictlySortedBy key_cmp (keys_of es)
unfolding IsStrictlySortedBy
strictly [] s = tt
strictly (e ∷ es) s = (
  below_keys e.0 es (and_first (entries.below_all key_cmp e.0 es) (entries.is_sorted key_cmp es) s),
  strictly es (and_second (entries.below_all key_cmp e.0 es) (entries.is_sorted key_cmp es) s),
)

slots_inserted : (es : Slots) (w : Write) → AreSlots es → AreSlots (insert_entry key_cmp es (written_key w) w.row)
slots_inserted es w a = record {
  primary = primary_inserted es (written_key w) w.row a.primary refl;
  ordered = strictly (insert_entry key_cmp es (written_key w) w.row)
      (subst (λ (l : Slots). T (entries.is_sorted key_cmp l)) (sym (insert_entry-put key_cmp es (written_key w) w.row))
      (entries.is_sorted-put key_cmp key_total (written_key w) w.row es (sorted_entries key_cmp es a.ordered)));
}

pub slots_put : (es : Slots) (ws : List Write) → AreSlots es → AreSlots (put_writes es ws)
slots_put es [] a = a
slots_put es (w ∷ ws) a = slots_put (insert_entry key_cmp es (written_key w) w.row) ws (slots_inserted es w a)

pub no_slots : AreSlots []
no_slots = record { primary = tt; ordered = strictly [] tt }

-- ---- one write more

inserted_sets : (es : Slots) (w : Write) → Sets es (insert_entry key_cmp es (written_key w) w.row) (written_key w) w.row
inserted_sets es w q =
    lookup-inserted key_cmp key_total q (written_key w) w.row es
    ∙ ap (λ (b : Bool). cond b (Some w.row) (slot_at es q)) (key_turned q (written_key w))

number_is : (a b : ℕ) → (a == b) ≡ true → a ≡ b
number_is a b e = grind (arith, nat_tests)

other_number : (a b : ℕ) → (a == b) ≡ false → (b == a) ≡ false
other_number a b e = grind (arith, nat_tests)

one_more : (es : Slots) (w : Write) (id : ℕ) (rows : Rows) → AreSlots es → T (entries.is_sorted row_cmp rows) →
    rows_after id (writes_in (insert_entry key_cmp es (written_key w) w.row)) rows ≡
    (if w.table == id then write_row (rows_after id (writes_in es) rows) w.key w.row else rows_after id (writes_in es) rows)
one_more es w id rows a s =
    let new = insert_entry key_cmp es (written_key w) w.row in
    elim (w.table == id) as (λ b. (w.table == id) ≡ b → rows_after id (writes_in new) rows ≡
    cond b (write_row (rows_after id (writes_in es) rows) w.key w.row) (rows_after id (writes_in es) rows)) [
      | true ↦ λ e.
          subst (λ (i : ℕ). rows_after i (writes_in new) rows ≡ write_row (rows_after i (writes_in es) rows) w.key w.row)
          (number_is w.table id e)
          (after_set es new (written_key w) w.row a (slots_inserted es w a) refl (inserted_sets es w) rows s)
      | false ↦ λ e. sym (after_others es new w.table a (slots_inserted es w a)
          (sets-only es new (written_key w) w.row (inserted_sets es w)) id (other_number w.table id e) rows s)
    ] refl

rows_put : (ws : List Write) (es : Slots) (id : ℕ) (rows : Rows) → AreSlots es → T (entries.is_sorted row_cmp rows) →
    rows_after id (writes_in (put_writes es ws)) rows ≡ rows_after id ws (rows_after id (writes_in es) rows)
rows_put [] es id rows a s = refl
rows_put (w ∷ ws) es id rows a s =
    rows_put ws (insert_entry key_cmp es (written_key w) w.row) id rows (slots_inserted es w a) s
    ∙ ap (rows_after id ws) (one_more es w id rows a s)

tables_put : (ws : List Write) (es : Slots) (ts : Tables) → AreSlots es → AreSound ts →
    overlaid ts (writes_in (put_writes es ws)) ≡ overlaid (overlaid ts (writes_in es)) ws
tables_put ws es [] a s = refl
tables_put ws es (t ∷ ts) a s =
    let here : table_after (writes_in (put_writes es ws)) t ≡ table_after ws (table_after (writes_in es) t) =
    ap (λ (rows : Rows). record t { rows = rows }) (rows_put ws es t.row.id t.rows a (to_T _ s.0.rising)) in
    let rest = tables_put ws es ts a s.1 in
    λ i. here i ∷ rest i

-- with one attempt more in place
pub overlaid_more : (base : Tables) (xs : List Attempt) (x : Attempt) → AreSound base →
    overlaid base (writes (xs ++ x ∷ [])) ≡ overlaid (overlaid base (writes xs)) (writes_tried x.came)
overlaid_more base xs x s =
    let es = put_writes [] (all_written xs) in
    ap (λ (ws : List Write). overlaid base (writes_in (put_writes [] ws))) (written-more xs x)
    ∙ ap (λ (fs : Slots). overlaid base (writes_in fs)) (put-append [] (all_written xs) (writes_tried x.came))
    ∙ tables_put (writes_tried x.came) es base (slots_put [] (all_written xs) no_slots) s

-- ---- the keys of a change, each once

or_self : (a b : Bool) → (a || b) ≡ (a || (a || b))
or_self true b = refl
or_self false b = refl

or_turn : (a b c : Bool) → (a || (b || c)) ≡ (b || (a || c))
or_turn true true c = refl
or_turn true false c = refl
or_turn false b c = refl

among_with : (q k : Key) (ks : List Key) → among (with_key k ks) q ≡ (is_eq (key_cmp k q) || among ks q)
among_with q k [] = refl
among_with q k (l ∷ ls) =
    elim (key_cmp k l) as (λ o. key_cmp k l ≡ o → among (by_order o (k ∷ l ∷ ls) (l ∷ ls) (l ∷ with_key k ls)) q ≡
    (is_eq (key_cmp k q) || (is_eq (key_cmp l q) || among ls q))) [
      | Less ↦ λ is. refl
      | Equal ↦ λ is.
          or_self (is_eq (key_cmp l q)) (among ls q)
          ∙ ap (λ (m : Key). is_eq (key_cmp m q) || (is_eq (key_cmp l q) || among ls q)) (sym (key_same k l is))
      | Greater ↦ λ is.
          ap (λ (b : Bool). is_eq (key_cmp l q) || b) (among_with q k ls)
          ∙ or_turn (is_eq (key_cmp l q)) (is_eq (key_cmp k q)) (among ls q)
    ] refl

pub among_set : (ks : List Key) (q : Key) → among (key_set ks) q ≡ among ks q
among_set [] q = refl
among_set (k ∷ ks) q = among_with q k (key_set ks) ∙ ap (λ (b : Bool). is_eq (key_cmp k q) || b) (among_set ks q)

-- ---- what an effect leaves at its keys, put in place

tied_write : (b : Bool) (id : ℕ) (q : List Value) (k : Key) (row : Option (List Value)) (rows : Rows) →
    entries.find row_cmp q (if b then write_row rows k.values row else rows) ≡
    cond (b && eq_by_cmp row_cmp q k.values) row (entries.find row_cmp q rows)
tied_write true id q k row rows = find_write q k.values row rows
tied_write false id q k row rows = refl

told_once : (b c : Bool) (here there F : Option (List Value)) → (b ≡ true → here ≡ there) →
    cond c there (cond b here F) ≡ cond (b || c) there F
told_once true true here there F e = refl
told_once true false here there F e = e refl
told_once false c here there F e = refl

zero_is : (n : ℕ) → (n == 0) ≡ true → n ≡ 0
zero_is n e = grind (arith, nat_tests)

no_row_key : (k : Key) (id : ℕ) (q : List Value) → (k.index == 0) ≡ false → is_eq (key_cmp k (row_key id q)) ≡ false
no_row_key k id q e =
    elim (is_eq (key_cmp k (row_key id q))) as (λ b. is_eq (key_cmp k (row_key id q)) ≡ b → b ≡ false) [
      | true ↦ λ t.
          let zero : k.index ≡ 0 = ap (λ (l : Key). l.index) (key_is k (row_key id q) t) in
          let there : (k.index == 0) ≡ true = ap (λ (n : ℕ). n == 0) zero in
          absurd (cc)
      | false ↦ λ t. refl
    ] refl

find_left : (ks : List Key) (after : Tables) (id : ℕ) (q : List Value) (rows : Rows) →
    entries.find row_cmp q (rows_after id (writes_in (writes_of ks after)) rows) ≡
    cond (among ks (row_key id q)) (row_at after (row_key id q)) (entries.find row_cmp q rows)
find_left [] after id q rows = refl
find_left (k ∷ ks) after id q rows =
    let p = row_key id q in
    let primary = filter (λ (l : Key). l.index == 0) ks in
    elim (k.index == 0) as (λ b. (k.index == 0) ≡ b →
    entries.find row_cmp q (rows_after id (writes_in (map (λ (l : Key). (l, row_at after l)) (cond b (k ∷ primary) primary)))
    rows) ≡
    cond (is_eq (key_cmp k p) || among ks p) (row_at after p) (entries.find row_cmp q rows)) [
      | true ↦ λ e.
          find_left ks after id q (if k.table == id then write_row rows k.values (row_at after k) else rows)
          ∙ ap (λ (o : Option (List Value)). cond (among ks p) (row_at after p) o)
          (tied_write (k.table == id) id q k (row_at after k) rows
          ∙ ap (λ (b : Bool). cond b (row_at after k) (entries.find row_cmp q rows))
          (sym (tie_turned k id q (zero_is k.index e))))
          ∙ told_once (is_eq (key_cmp k p)) (among ks p) (row_at after k) (row_at after p) (entries.find row_cmp q rows)
          (λ t. ap (row_at after) (key_is k p t))
      | false ↦ λ e.
          find_left ks after id q rows
          ∙ ap (λ (b : Bool). cond (b || among ks p) (row_at after p) (entries.find row_cmp q rows)) (sym (no_row_key k id q e))
    ] refl

-- ---- the rows of each table stand under its id

abbrev OwnRows : Tables → Table → Type 0
OwnRows all u = (q : List Value) → row_at all (row_key u.row.id q) ≡ entries.find row_cmp q u.rows

all_mapped : {A : Type 0} (P Q : A → Type 0) (xs : List A) → ((x : A) → P x → Q x) → AllByRecursion P xs → AllByRecursion Q xs
all_mapped P Q [] f a = tt
all_mapped P Q (x ∷ xs) f a = (f x a.0, all_mapped P Q xs f a.1)

all_both : {A : Type 0} (P Q : A → Type 0) (xs : List A) → AllByRecursion P xs → AllByRecursion Q xs →
    AllByRecursion (λ x. P x × Q x) xs
all_both P Q [] a b = tt
all_both P Q (x ∷ xs) a b = ((a.0, b.0), all_both P Q xs a.1 b.1)

ids_from : (n : ℕ) (us : Tables) → ids_rise n (definitions_of us) ≡ true → AllByRecursion (λ (u : Table). n ≤ u.row.id) us
ids_from n [] e = tt
ids_from n (u ∷ us) e =
    let p = both (nat_le n u.row.id) (ids_rise (u.row.id + 1) (definitions_of us)) e in
    let low : n ≤ u.row.id = grind (arith, nat_tests, p.0) in (
      low,
      all_mapped (λ (v : Table). u.row.id + 1 ≤ v.row.id) (λ (v : Table). n ≤ v.row.id) us (λ v above. omega (arith, low, above))
          (ids_from (u.row.id + 1) us p.1),
    )

other_rows : (t : Table) (ts : Tables) (id : ℕ) (q : List Value) → t.row.id + 1 ≤ id →
    row_at (t ∷ ts) (row_key id q) ≡ row_at ts (row_key id q)
other_rows t ts id q above =
    let other : (t.row.id == id) ≡ false = grind (arith, nat_tests, above) in
    ap (λ (b : Bool). entries.find row_cmp q (cond b t.rows (rows_of ts id))) other

own_first : (t : Table) (ts : Tables) (q : List Value) → row_at (t ∷ ts) (row_key t.row.id q) ≡ entries.find row_cmp q t.rows
own_first t ts q =
    let same : (t.row.id == t.row.id) ≡ true = grind (arith) in
    ap (λ (b : Bool). entries.find row_cmp q (cond b t.rows (rows_of ts t.row.id))) same

own_rows : (n : ℕ) (us : Tables) → ids_rise n (definitions_of us) ≡ true → AllByRecursion (OwnRows us) us
own_rows n [] e = tt
own_rows n (t ∷ ts) e =
    let p = both (nat_le n t.row.id) (ids_rise (t.row.id + 1) (definitions_of ts)) e in (
      own_first t ts,
      all_mapped (λ (u : Table). (t.row.id + 1 ≤ u.row.id) × OwnRows ts u) (OwnRows (t ∷ ts)) ts
          (λ u has q. other_rows t ts u.row.id q has.0 ∙ has.1 q)
          (all_both (λ (u : Table). t.row.id + 1 ≤ u.row.id) (OwnRows ts) ts (ids_from (t.row.id + 1) ts p.1)
          (own_rows (t.row.id + 1) ts p.1)),
    )

-- ---- an effect is its writes

same_find : (b : Bool) (own here F : Option (List Value)) → (b ≡ true → own ≡ here) → (b ≡ false → F ≡ here) → cond b own F ≡ here
same_find true own here F e f = e refl
same_find false own here F e f = f refl

left_rows : (keys : List Key) (all : Tables) (t u : Table) → t.row ≡ u.row → AreSoundRows t.row t.rows →
    AreSoundRows u.row u.rows →
    OwnRows all u → ((q : List Value) → among keys (row_key t.row.id q) ≡ false →
    entries.find row_cmp q t.rows ≡ entries.find row_cmp q u.rows) →
    rows_after t.row.id (writes_in (writes_of (key_set keys) all)) t.rows ≡ u.rows
left_rows keys all t u same s v own stay =
    let ws = writes_of (key_set keys) all in
    rows_same (rows_after t.row.id (writes_in ws) t.rows) u.rows (sorted_after ws t.row.id t.rows (to_T _ s.rising))
    (to_T _ v.rising)
    (λ q. find_left (key_set keys) all t.row.id q t.rows
    ∙ same_find (among (key_set keys) (row_key t.row.id q)) (row_at all (row_key t.row.id q)) (entries.find row_cmp q u.rows)
    (entries.find row_cmp q t.rows)
    (λ e. ap (λ (r : TableRow). row_at all (row_key r.id q)) same ∙ own q)
    (λ e. stay q (sym (among_set keys (row_key t.row.id q)) ∙ e)))

among_self : (q p : Key) → is_eq (key_cmp q p) ≡ true → among (q ∷ []) p ≡ true
among_self q p e = ap (λ (b : Bool). b || false) e

left_tables : (keys : List Key) (all ts us : Tables) → AreSound ts → AreSound us → AllByRecursion (OwnRows all) us →
    AreAlike [] ts us → ((q : Key) → among keys q ≡ false → AreAlike (q ∷ []) ts us) →
    overlaid ts (writes_in (writes_of (key_set keys) all)) ≡ us
left_tables keys all [] [] s v own a stay = refl
left_tables keys all [] (u ∷ us) s v own a stay = absurd a
left_tables keys all (t ∷ ts) [] s v own a stay = absurd a
left_tables keys all (t ∷ ts) (u ∷ us) s v own a stay =
    let rows = left_rows keys all t u a.0 s.0 v.0 own.0 (λ q out.
    (stay (row_key t.row.id q) out).1.0.found q (among_self (row_key t.row.id q) (row_key t.row.id q)
    (key_self (row_key t.row.id q)))) in
    let rest = left_tables keys all ts us s.1 v.1 own.1 a.1.1 (λ q out. (stay q out).1.1) in
    let same = a.0 in
    λ i. record { row = same i; rows = rows i } ∷ rest i

-- the tables after an effect are those before it with what it leaves put in place
pub effect_is_its_writes : (ts us : Tables) (c : Change) → AreSound ts → AreSound us → definitions_of us ≡ definitions_of ts →
    ids_rise 0 (definitions_of ts) ≡ true → AreAlike [] ts us →
    ((q : Key) → among (conflict_keys (definitions_of ts) c) q ≡ false → AreAlike (q ∷ []) ts us) →
    overlaid ts (left_by (definitions_of ts) c us) ≡ us
effect_is_its_writes ts us c s v same rise a stay =
    left_tables (conflict_keys (definitions_of ts) c) us ts us s v (own_rows 0 us (ap (ids_rise 0) same ∙ rise)) a stay
