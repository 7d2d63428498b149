-- What written rows leave of the rows beneath: look-ups, the order, and single writes.
use Rattle.std.proofs.Common.{◌≡◌, ℕ, List, [], ◌∷◌, refl, sym, ap, subst, ◌∙◌, Bool, true, false, cond, not, ◌&&◌, ◌==◌, arith, Option, Some, None, if◌then◌else◌}
use Rattle.std.proofs.Math.Dec.{T}
use Rattle.std.specs.declared.cmp.Ordering.{Ordering}
use Rattle.std.specs.declared.cmp.Ordering.TheVariants.{Less, Equal, Greater}
use Rattle.std.specs.Ordering.{is_eq, is_lt, eq_by_cmp, match_ordering}
use Rattle.std.specs.Cmp.{IsTotalOrder, eq_by_cmp_equiv}
use Rattle.std.specs.List.{AllByRecursion}
use Rattle.std.specs.List.Sorted.{IsStrictlySortedBy}
use Rattle.std.specs.Map.{lookup, keys_of}
use Rattle.std.specs.BTreeMap.{is_at, insert_entry}
use Rattle.std.specs.FinMap.Entries as entries
use Rattle.std.specs.FinMap.Entries.{by_order}
use Rattle.std.proofs.lemmas.Bool.Decides.{nat_tests}
use Rattle.std.proofs.lemmas.Map.{lookup-none}
use Rattle.std.proofs.lemmas.Map.Entries.{none_past_head}
use Rattle.std.proofs.lemmas.Map.Keys.{IsDistinct-from_sorted, sorted_head, sorted_tail}
use Rattle.rl_value.specs.declared.value.Value.{Value}
use Rattle.rl_value.specs.declared.key.Key.{Key}
use Rattle.rl_value.specs.Order.{row_cmp, key_cmp, row_total, key_total}
use Rattle.redo_spec.specs.Tables.{Rows}
use Rattle.row_apply.specs.Adding.{rows_without, values_of, goes}
use Rattle.redo_spec.specs.Work.{write_row}
use Rattle.row_apply.specs.Overlaid.{rows_after}
use Rattle.row_apply.specs.Written.{writes_in}
use Rattle.row_apply.specs.Kept.{Slots, row_key, slot_at, ArePrimary, AreSlots, Sets, Puts, goes_at, ChangesOnly, IsPrimaryOf}
use Rattle.row_apply.proofs.Orders.{row_same, row_turned, key_is, key_turned, row_keys_tie}

pub to_T : (b : Bool) → b ≡ true → T b
to_T b e = subst T (sym e) tt

pub from_T : (b : Bool) → T b → b ≡ true
from_T true t = refl
from_T false t = absurd t

-- ---- entries of ordered maps

pub lookup-find : {K X : Type 0} (R : K → K → Ordering) (k : K) (es : List (K × X)) →
    lookup (is_at (R k)) es ≡ entries.find R k es
lookup-find R k [] = refl
lookup-find R k (e ∷ es) = ap (λ l. cond (is_eq (R k e.0)) (Some e.1) l) (lookup-find R k es)

pub insert_entry-put : {K X : Type 0} (R : K → K → Ordering) (es : List (K × X)) (k : K) (v : X) →
    insert_entry R es k v ≡ entries.put R k v es
insert_entry-put R [] k v = refl
insert_entry-put R (e ∷ es) k v =
    elim (R k e.0) as (λ o. match_ordering o ((k, v) ∷ e ∷ es) ((e.0, v) ∷ es) (e ∷ insert_entry R es k v) ≡
    by_order o ((k, v) ∷ e ∷ es) ((e.0, v) ∷ es) (e ∷ entries.put R k v es)) [
      | Less ↦ refl
      | Equal ↦ refl
      | Greater ↦ ap (λ l. e ∷ l) (insert_entry-put R es k v)
    ]

-- a look-up after an insert
pub lookup-inserted : {K X : Type 0} (R : K → K → Ordering) → IsTotalOrder R → (q k : K) (v : X) (es : List (K × X)) →
    lookup (is_at (R q)) (insert_entry R es k v) ≡ cond (is_eq (R q k)) (Some v) (lookup (is_at (R q)) es)
lookup-inserted R o q k v es =
    lookup-find R q (insert_entry R es k v) ∙ ap (entries.find R q) (insert_entry-put R es k v) ∙ entries.find-put R o q k v es
    ∙ ap (λ l. cond (is_eq (R q k)) (Some v) l) (sym (lookup-find R q es))

joined : (a b : Bool) → a ≡ true → b ≡ true → T (a && b)
joined true b p q = to_T b q
joined false b p q = absurd (cc)

below : {K X : Type 0} (R : K → K → Ordering) (k : K) (es : List (K × X)) → AllByRecursion (λ y. R k y ≡ Less) (keys_of es) →
    entries.below_all R k es ≡ true
below R k [] h = refl
below R k (e ∷ es) h = from_T _ (joined (is_lt (R k e.0)) (entries.below_all R k es) (ap is_lt h.0) (below R k es h.1))

pub sorted_entries : {K X : Type 0} (R : K → K → Ordering) (es : List (K × X)) → IsStrictlySortedBy R (keys_of es) →
    T (entries.is_sorted R es)
sorted_entries R [] h = tt
sorted_entries R (e ∷ es) h =
    joined (entries.below_all R e.0 es) (entries.is_sorted R es) (below R e.0 es (sorted_head R e.0 (keys_of es) h))
    (from_T _ (sorted_entries R es (sorted_tail R e.0 (keys_of es) h)))

-- what is found under each key makes the entries
pub slots_same : (es fs : Slots) → IsStrictlySortedBy key_cmp (keys_of es) → IsStrictlySortedBy key_cmp (keys_of fs) →
    ((q : Key) → slot_at es q ≡ slot_at fs q) → es ≡ fs
slots_same es fs s t same =
    entries.same_entries key_cmp key_total (λ x y e. key_is x y (ap is_eq e)) es fs (sorted_entries key_cmp es s)
    (sorted_entries key_cmp fs t)
    (λ q. sym (lookup-find key_cmp q es) ∙ same q ∙ lookup-find key_cmp q fs)

-- ---- single writes of rows

turned_cond : {A : Type 0} (b : Bool) (x y : A) → cond (not b) x y ≡ cond b y x
turned_cond true x y = refl
turned_cond false x y = refl

pub find_write : (q key : List Value) (slot : Option (List Value)) (rows : Rows) →
    entries.find row_cmp q (write_row rows key slot) ≡ cond (eq_by_cmp row_cmp q key) slot (entries.find row_cmp q rows)
find_write q key None rows =
    entries.find-where_key row_cmp (λ k. not (eq_by_cmp row_cmp key k)) q
    (λ x t. ap (λ k. not (eq_by_cmp row_cmp key k)) (sym (row_same q x t))) rows
    ∙ turned_cond (eq_by_cmp row_cmp key q) (entries.find row_cmp q rows) None
    ∙ ap (λ b. cond b None (entries.find row_cmp q rows)) (row_turned key q)
find_write q key (Some row) rows = entries.find-put row_cmp row_total q key row rows

pub sorted_write : (key : List Value) (slot : Option (List Value)) (rows : Rows) → T (entries.is_sorted row_cmp rows) →
    T (entries.is_sorted row_cmp (write_row rows key slot))
sorted_write key None rows h = entries.is_sorted-where_key row_cmp (λ k. not (eq_by_cmp row_cmp key k)) rows h
sorted_write key (Some row) rows h = entries.is_sorted-put row_cmp row_total key row rows h

-- rows in order with the same look-ups are the same
pub rows_same : (rows others : Rows) → T (entries.is_sorted row_cmp rows) → T (entries.is_sorted row_cmp others) →
    ((q : List Value) → entries.find row_cmp q rows ≡ entries.find row_cmp q others) → rows ≡ others
rows_same rows others s t same = entries.same_entries row_cmp row_total row_same rows others s t same

-- ---- the rows after the writes of these slots

pub sorted_after : (es : Slots) (id : ℕ) (rows : Rows) → T (entries.is_sorted row_cmp rows) →
    T (entries.is_sorted row_cmp (rows_after id (writes_in es) rows))
sorted_after [] id rows h = h
sorted_after (e ∷ es) id rows h =
    sorted_after es id (if e.0.table == id then write_row rows e.0.values e.1 else rows)
    (elim (e.0.table == id) as (λ b. T (entries.is_sorted row_cmp (if b then write_row rows e.0.values e.1 else rows))) [
      | true ↦
          sorted_write e.0.values e.1 rows h
      | false ↦ h
    ])

-- what was written goes before what is beneath
abbrev pub over : Option (Option (List Value)) → Option (List Value) → Option (List Value)
over None beneath = beneath
over (Some slot) beneath = slot

step_write : (b : Bool) (id : ℕ) (q : List Value) (e : Key × Option (List Value)) (rows : Rows) →
    entries.find row_cmp q (if b then write_row rows e.0.values e.1 else rows) ≡
    cond (b && eq_by_cmp row_cmp q e.0.values) e.1 (entries.find row_cmp q rows)
step_write true id q e rows = find_write q e.0.values e.1 rows
step_write false id q e rows = refl

past : (k : Key) (e : Key × Option (List Value)) (es : Slots) → IsStrictlySortedBy key_cmp (keys_of (e ∷ es)) →
    is_eq (key_cmp k e.0) ≡ true → slot_at es k ≡ None
past k e es s t =
    lookup-none (is_at (key_cmp k)) es (none_past_head (eq_by_cmp_equiv key_total) k e es
    (IsDistinct-from_sorted key_cmp (keys_of (e ∷ es)) s) t)

choose : (b : Bool) (S : Option (Option (List Value))) (slot F : Option (List Value)) → (b ≡ true → S ≡ None) →
    over S (cond b slot F) ≡ over (cond b (Some slot) S) F
choose true S slot F none = ap (λ s. over s slot) (none refl)
choose false S slot F none = refl

pub find_after : (es : Slots) (id : ℕ) (q : List Value) (rows : Rows) → ArePrimary es → IsStrictlySortedBy key_cmp (keys_of es) →
    entries.find row_cmp q (rows_after id (writes_in es) rows) ≡ over (slot_at es (row_key id q)) (entries.find row_cmp q rows)
find_after [] id q rows p s = refl
find_after (e ∷ es) id q rows p s =
    let b = is_eq (key_cmp (row_key id q) e.0) in
    let tie : b ≡ ((e.0.table == id) && eq_by_cmp row_cmp q e.0.values) = row_keys_tie id q e.0 p.0 in
    find_after es id q (if e.0.table == id then write_row rows e.0.values e.1 else rows) p.1
    (sorted_tail key_cmp e.0 (keys_of es) s)
    ∙ ap (over (slot_at es (row_key id q))) (step_write (e.0.table == id) id q e rows ∙
    ap (λ t. cond t e.1 (entries.find row_cmp q rows)) (sym tie))
    ∙ choose b (slot_at es (row_key id q)) e.1 (entries.find row_cmp q rows) (past (row_key id q) e es s)

-- ---- one more write

pub tie_turned : (key : Key) (id : ℕ) (q : List Value) → key.index ≡ 0 →
    is_eq (key_cmp key (row_key id q)) ≡ ((key.table == id) && eq_by_cmp row_cmp q key.values)
tie_turned key id q zero = key_turned key (row_key id q) ∙ row_keys_tie id q key zero

set_there : (t v : Bool) (S : Option (Option (List Value))) (slot F : Option (List Value)) → t ≡ true →
    over (cond (t && v) (Some slot) S) F ≡ cond v slot (over S F)
set_there true true S slot F e = refl
set_there true false S slot F e = refl
set_there false v S slot F e = absurd (cc)

set_else : (t v : Bool) (S : Option (Option (List Value))) (slot F : Option (List Value)) → t ≡ false →
    over (cond (t && v) (Some slot) S) F ≡ over S F
set_else true v S slot F e = absurd (cc)
set_else false v S slot F e = refl

find_set : (old new : Slots) (key : Key) (slot : Option (List Value)) → AreSlots new → key.index ≡ 0 → Sets old new key slot →
    (id : ℕ) (q : List Value) (rows : Rows) →
    entries.find row_cmp q (rows_after id (writes_in new) rows) ≡
    over (cond ((key.table == id) && eq_by_cmp row_cmp q key.values) (Some slot) (slot_at old (row_key id q)))
    (entries.find row_cmp q rows)
find_set old new key slot n zero set id q rows =
    find_after new id q rows n.primary n.ordered
    ∙ ap (λ s. over s (entries.find row_cmp q rows)) (set (row_key id q) ∙
    ap (λ b. cond b (Some slot) (slot_at old (row_key id q))) (tie_turned key id q zero))

-- it stands in the rows of its table
pub after_set : (old new : Slots) (key : Key) (slot : Option (List Value)) → AreSlots old → AreSlots new → key.index ≡ 0 →
    Sets old new key slot →
    (rows : Rows) → T (entries.is_sorted row_cmp rows) →
    rows_after key.table (writes_in new) rows ≡ write_row (rows_after key.table (writes_in old) rows) key.values slot
after_set old new key slot o n zero set rows h =
    let self : (key.table == key.table) ≡ true = grind (arith) in
    rows_same (rows_after key.table (writes_in new) rows) (write_row (rows_after key.table (writes_in old) rows) key.values slot)
    (sorted_after new key.table rows h) (sorted_write key.values slot (rows_after key.table (writes_in old) rows)
    (sorted_after old key.table rows h))
    (λ q. find_set old new key slot n zero set key.table q rows
    ∙ set_there (key.table == key.table) (eq_by_cmp row_cmp q key.values) (slot_at old (row_key key.table q)) slot
    (entries.find row_cmp q rows) self
    ∙ sym (find_write q key.values slot (rows_after key.table (writes_in old) rows)
    ∙ ap (λ f. cond (eq_by_cmp row_cmp q key.values) slot f) (find_after old key.table q rows o.primary o.ordered)))

-- rows of other tables are as they were
pub after_others : (old new : Slots) (table : ℕ) → AreSlots old → AreSlots new → ChangesOnly table old new →
    (id : ℕ) → (id == table) ≡ false → (rows : Rows) → T (entries.is_sorted row_cmp rows) →
    rows_after id (writes_in old) rows ≡ rows_after id (writes_in new) rows
after_others old new table o n only id other rows h =
    rows_same (rows_after id (writes_in old) rows) (rows_after id (writes_in new) rows) (sorted_after old id rows h)
    (sorted_after new id rows h)
    (λ q. find_after old id q rows o.primary o.ordered ∙
    ap (λ s. over s (entries.find row_cmp q rows)) (sym (only (row_key id q) other))
    ∙ sym (find_after new id q rows n.primary n.ordered))

-- ---- rows without the one that goes

pub sorted_minus : (gone : Option (List Value)) (rows : Rows) → T (entries.is_sorted row_cmp rows) →
    T (entries.is_sorted row_cmp (rows_without gone rows))
sorted_minus None rows h = h
sorted_minus (Some k) rows h = entries.is_sorted-where_key row_cmp (λ x. not (eq_by_cmp row_cmp k x)) rows h

pub find_minus : (gone : Option (List Value)) (q : List Value) (rows : Rows) →
    entries.find row_cmp q (rows_without gone rows) ≡ cond (goes gone q) None (entries.find row_cmp q rows)
find_minus None q rows = refl
find_minus (Some k) q rows = find_write q k None rows

-- ---- a row put, where another one goes

pub same_table : (table id : ℕ) → table ≡ id → (table == id) ≡ true
same_table table id e = grind (arith, nat_tests)

goes_row : (gone : Option Key) (table : ℕ) (q : List Value) (F : Option (List Value)) → IsPrimaryOf table gone →
    (X : Option (Option (List Value))) → over (cond (goes_at gone (row_key table q)) (Some None) X) F ≡
    cond (goes (values_of gone) q) None (over X F)
goes_row None table q F of X = refl
goes_row (Some k) table q F of X =
    ap (λ b. over (cond b (Some None) X) F) (tie_turned k table q of.1 ∙
    ap (λ b. b && eq_by_cmp row_cmp q k.values) (same_table k.table table of.0))
    ∙ set_there true (eq_by_cmp row_cmp q k.values) X None F refl

find_puts : (old new : Slots) (gone : Option Key) (key : Key) (row : List Value) → AreSlots new → key.index ≡ 0 →
    IsPrimaryOf key.table gone → Puts old new gone key row → (q : List Value) (rows : Rows) →
    entries.find row_cmp q (rows_after key.table (writes_in new) rows)
    ≡ cond (eq_by_cmp row_cmp q key.values) (Some row) (cond (goes (values_of gone) q) None
    (over (slot_at old (row_key key.table q)) (entries.find row_cmp q rows)))
find_puts old new gone key row n zero of puts q rows =
    let F = entries.find row_cmp q rows in
    let X = cond (goes_at gone (row_key key.table q)) (Some None) (slot_at old (row_key key.table q)) in
    find_after new key.table q rows n.primary n.ordered
    ∙ ap (λ s. over s F) (puts (row_key key.table q) ∙ ap (λ b. cond b (Some (Some row)) X) (tie_turned key key.table q zero))
    ∙ set_there (key.table == key.table) (eq_by_cmp row_cmp q key.values) X (Some row) F (same_table key.table key.table refl)
    ∙ ap (λ f. cond (eq_by_cmp row_cmp q key.values) (Some row) f)
    (goes_row gone key.table q F of (slot_at old (row_key key.table q)))

pub after_puts : (old new : Slots) (gone : Option Key) (key : Key) (row : List Value) → AreSlots old → AreSlots new →
    key.index ≡ 0 → IsPrimaryOf key.table gone → Puts old new gone key row →
    (rows : Rows) → T (entries.is_sorted row_cmp rows) →
    rows_after key.table (writes_in new) rows ≡ entries.put row_cmp key.values row
    (rows_without (values_of gone) (rows_after key.table (writes_in old) rows))
after_puts old new gone key row o n zero of puts rows h =
    let was = rows_after key.table (writes_in old) rows in
    rows_same (rows_after key.table (writes_in new) rows) (entries.put row_cmp key.values row (rows_without (values_of gone) was))
    (sorted_after new key.table rows h) (entries.is_sorted-put row_cmp row_total key.values row
    (rows_without (values_of gone) was) (sorted_minus (values_of gone) was (sorted_after old key.table rows h)))
    (λ q. find_puts old new gone key row n zero of puts q rows
    ∙ sym (entries.find-put row_cmp row_total q key.values row (rows_without (values_of gone) was)
    ∙ ap (λ f. cond (eq_by_cmp row_cmp q key.values) (Some row) f) (find_minus (values_of gone) q was
    ∙ ap (λ f. cond (goes (values_of gone) q) None f) (find_after old key.table q rows o.primary o.ordered))))

-- no other table is changed
apart : (k q : Key) (table : ℕ) → k.table ≡ table → (q.table == table) ≡ false → is_eq (key_cmp k q) ≡ false
apart k q table same other =
    elim (is_eq (key_cmp k q)) as (λ b. is_eq (key_cmp k q) ≡ b → b ≡ false) [
      | true ↦ λ t. let is : k ≡ q = key_is k q t in let there : (q.table == table) ≡ true =
          ap (λ (x : Key). x.table == table) (sym is) ∙ same_table k.table table same in absurd (cc)
      | false ↦ λ t. refl
    ] refl

pub sets-only : (old new : Slots) (key : Key) (slot : Option (List Value)) → Sets old new key slot → ChangesOnly key.table old new
sets-only old new key slot set q other = set q ∙ ap (λ b. cond b (Some slot) (slot_at old q)) (apart key q key.table refl other)

not_going : (gone : Option Key) (q : Key) (table : ℕ) → IsPrimaryOf table gone → (q.table == table) ≡ false →
    goes_at gone q ≡ false
not_going None q table of other = refl
not_going (Some k) q table of other = apart k q table of.0 other

pub puts-only : (old new : Slots) (gone : Option Key) (key : Key) (row : List Value) → IsPrimaryOf key.table gone →
    Puts old new gone key row → ChangesOnly key.table old new
puts-only old new gone key row of puts q other =
    puts q ∙ ap (λ b. cond b (Some (Some row)) (cond (goes_at gone q) (Some None) (slot_at old q)))
    (apart key q key.table refl other)
    ∙ ap (λ b. cond b (Some None) (slot_at old q)) (not_going gone q key.table of other)
