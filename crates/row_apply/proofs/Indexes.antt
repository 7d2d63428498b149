-- The index of unique values: what it has of a row, of all rows of a table, and after a write.
use Rattle.std.proofs.Common.{◌≡◌, ℕ, ◌+◌, zero, suc, List, [], ◌∷◌, refl, sym, ap, subst, ◌∙◌, Bool, true, false, cond, ◌==◌, arith, Option, Some, None, if◌then◌else◌, slice_get, drop}
use Rattle.std.specs.Ordering.{is_eq}
use Rattle.std.specs.List.{list_any, AllByRecursion}
use Rattle.std.specs.List.Sorted.{IsStrictlySortedBy}
use Rattle.std.specs.declared.cmp.Ordering.TheVariants.{Less}
use Rattle.std.specs.Map.{keys_of}
use Rattle.std.specs.BTreeMap.{insert_entry}
use Rattle.std.proofs.lemmas.Bool.Decides.{nat_tests}
use Rattle.std.proofs.lemmas.Map.Keys.{sorted_head, sorted_tail}
use Rattle.rl_value.specs.declared.value.Value.{Value}
use Rattle.rl_value.specs.declared.key.Key.{Key}
use Rattle.rl_value.specs.Order.{key_cmp, key_total}
use Rattle.redo_vec.specs.declared.table.TableRow.{TableRow}
use Rattle.redo_spec.specs.ConflictKeys.{is_null}
use Rattle.redo_spec.specs.Dictionary.{uniques_of}
use Rattle.redo_spec.specs.Tables.{values_at}
use Rattle.row_apply.specs.Kept.{Slots, Owners, Indexed, row_key, unique_key, slot_at, owner_at, indexed_at, IsLive, ArePrimary, AreSlots, IsIndexedBy, AreIndexed, index_at, index_by, index_slot, index_all, is_owner, leads_at, leads_by, leads_slot, leads_all, Puts, goes_at, Sets, ChangesOnly, OwnersOnly, OneLive, IsFreeAmong, IndexedOnly, IsPrimaryOf}
use Rattle.row_apply.proofs.Fitting.{both, join}
use Rattle.row_apply.proofs.Orders.{key_is, key_self, key_turned}
use Rattle.row_apply.proofs.Slots.{lookup-inserted, puts-only}

owner_inserted : (es : Owners) (u key q : Key) → owner_at (insert_entry key_cmp es u key) q ≡
    cond (is_eq (key_cmp q u)) (Some key) (owner_at es q)
owner_inserted es u key q = lookup-inserted key_cmp key_total q u key es

-- ---- the unique values of one row

chosen : {A : Type 0} (b : Bool) (x y z : A) → x ≡ z → y ≡ z → cond b x y ≡ z
chosen true x y z p q = p
chosen false x y z p q = q

at_keeps : (table : ℕ) (row : List Value) (key : Key) (n : ℕ) (columns : List ℕ) (es : Owners) (q : Key) →
    owner_at es q ≡ Some key → owner_at (index_at table row key n columns es) q ≡ Some key
at_keeps table row key n columns es q e =
    elim (list_any is_null (values_at row columns)) as (λ b. owner_at
    (if b then es else insert_entry key_cmp es (unique_key table n (values_at row columns)) key) q ≡ Some key) [
      | true ↦ e
      | false ↦ owner_inserted es (unique_key table n (values_at row columns)) key q ∙
          chosen (is_eq (key_cmp q (unique_key table n (values_at row columns)))) (Some key) (owner_at es q) (Some key) refl e
    ]

by_keeps : (table : ℕ) (row : List Value) (key : Key) (n : ℕ) (us : List (List ℕ)) (es : Owners) (q : Key) →
    owner_at es q ≡ Some key → owner_at (index_by table row key n us es) q ≡ Some key
by_keeps table row key n [] es q e = e
by_keeps table row key n (u ∷ us) es q e = by_keeps table row key (n + 1) us (index_at table row key n u es) q
    (at_keeps table row key n u es q e)

at_puts : (table : ℕ) (row : List Value) (key : Key) (n : ℕ) (columns : List ℕ) (es : Owners) →
    list_any is_null (values_at row columns) ≡ false →
    owner_at (index_at table row key n columns es) (unique_key table n (values_at row columns)) ≡ Some key
at_puts table row key n columns es full =
    let u = unique_key table n (values_at row columns) in
    ap (λ b. owner_at (if b then es else insert_entry key_cmp es u key) u) full ∙ owner_inserted es u key u ∙
    ap (λ b. cond b (Some key) (owner_at es u)) (key_self u)

-- each of them leads to the row
pub by_puts : (table : ℕ) (row : List Value) (key : Key) (n : ℕ) (us : List (List ℕ)) (es : Owners) (i : ℕ) (columns : List ℕ) →
    slice_get us i ≡ Some columns → list_any is_null (values_at row columns) ≡ false →
    owner_at (index_by table row key n us es) (unique_key table (n + i) (values_at row columns)) ≡ Some key
by_puts table row key n [] es i columns s full = absurd (cc)
by_puts table row key n (u ∷ us) es zero columns s full =
    let same : u ≡ columns = cc in
    let number : n ≡ n + 0 = omega arith in
    let here : owner_at (index_at table row key n u es) (unique_key table n (values_at row u)) ≡ Some key =
    at_puts table row key n u es (ap (λ c. list_any is_null (values_at row c)) same ∙ full) in
    let moved : owner_at (index_at table row key n u es) (unique_key table (n + 0) (values_at row columns)) ≡ Some key =
    sym (λ j. owner_at (index_at table row key n u es) (unique_key table (number j) (values_at row (same j)))) ∙ here in
    by_keeps table row key (n + 1) us (index_at table row key n u es) (unique_key table (n + 0) (values_at row columns)) moved
by_puts table row key n (u ∷ us) es (suc i) columns s full =
    let number : (n + 1) + i ≡ n + suc i = omega arith in
    subst (λ (k : ℕ). owner_at (index_by table row key n (u ∷ us) es) (unique_key table k (values_at row columns)) ≡ Some key)
    number
    (by_puts table row key (n + 1) us (index_at table row key n u es) i columns s full)

-- any other leads where it led
at_else : (table : ℕ) (row : List Value) (key : Key) (n : ℕ) (columns : List ℕ) (es : Owners) (q : Key) (A : Type 0) →
    (owner_at (index_at table row key n columns es) q ≡ owner_at es q → A) →
    (list_any is_null (values_at row columns) ≡ false → q ≡ unique_key table n (values_at row columns) →
    owner_at (index_at table row key n columns es) q ≡ Some key → A) → A
at_else table row key n columns es q A same put =
    let u = unique_key table n (values_at row columns) in
    elim (list_any is_null (values_at row columns)) as (λ b. list_any is_null (values_at row columns) ≡ b →
    (owner_at (if b then es else insert_entry key_cmp es u key) q ≡ owner_at es q → A) →
    (b ≡ false → q ≡ u → owner_at (if b then es else insert_entry key_cmp es u key) q ≡ Some key → A) → A) [
      | true ↦ λ f s p. s refl
      | false ↦ λ f s p. elim (is_eq (key_cmp q u)) as (λ t. is_eq (key_cmp q u) ≡ t → A) [
        | true ↦ λ t. p refl (key_is q u t) (owner_inserted es u key q ∙ ap (λ b. cond b (Some key) (owner_at es q)) t)
        | false ↦ λ t. s (owner_inserted es u key q ∙ ap (λ b. cond b (Some key) (owner_at es q)) t)
      ] refl
    ] refl same put

pub by_else : (table : ℕ) (row : List Value) (key : Key) (n : ℕ) (us : List (List ℕ)) (es : Owners) (q : Key) (A : Type 0) →
    (owner_at (index_by table row key n us es) q ≡ owner_at es q → A) →
    ((i : ℕ) (columns : List ℕ) → slice_get us i ≡ Some columns → list_any is_null (values_at row columns) ≡ false →
    q ≡ unique_key table (n + i) (values_at row columns) →
    owner_at (index_by table row key n us es) q ≡ Some key → A) → A
by_else table row key n [] es q A same put = same refl
by_else table row key n (u ∷ us) es q A same put =
    by_else table row key (n + 1) us (index_at table row key n u es) q A
    (λ later. at_else table row key n u es q A
    (λ here. same (later ∙ here))
    (λ full is here. put 0 u refl full (is ∙ (let number : n ≡ n + 0 = omega arith in
    ap (λ (k : ℕ). unique_key table k (values_at row u)) number)) (later ∙ here)))
    (λ i columns s full is now. put (suc i) columns s full
    (is ∙ (let number : (n + 1) + i ≡ n + suc i = omega arith in
    ap (λ (k : ℕ). unique_key table k (values_at row columns)) number)) now)

of_table : (q : Key) (table index : ℕ) (values : List Value) → q ≡ unique_key table index values → (q.table == table) ≡ false → ⊥
of_table q table index values is other =
    let same : q.table ≡ table = ap (λ (k : Key). k.table) is in
    let there : (q.table == table) ≡ true = grind (arith, nat_tests) in
    cc

pub at-only : (table : ℕ) (row : List Value) (key : Key) (n : ℕ) (columns : List ℕ) (es : Owners) →
    OwnersOnly table es (index_at table row key n columns es)
at-only table row key n columns es q other =
    at_else table row key n columns es q (owner_at (index_at table row key n columns es) q ≡ owner_at es q) (λ same. same)
    (λ full is now. absurd (of_table q table n (values_at row columns) is other))

pub by-only : (table : ℕ) (row : List Value) (key : Key) (n : ℕ) (us : List (List ℕ)) (es : Owners) →
    OwnersOnly table es (index_by table row key n us es)
by-only table row key n us es q other =
    by_else table row key n us es q (owner_at (index_by table row key n us es) q ≡ owner_at es q) (λ same. same)
    (λ i columns s full is now. absurd (of_table q table (n + i) (values_at row columns) is other))

-- ---- after a row was put

one_more : (i j : ℕ) → 1 + i ≡ 1 + j → i ≡ j
one_more i j e = omega (arith, e)

pub indexed_put : (t : TableRow) (old new : Slots) (owners : Owners) (gone : Option Key) (k row : List Value) →
    Puts old new gone (row_key t.id k) row → IsFreeAmong t old gone row →
    IsIndexedBy old owners t.id (uniques_of t) → IsIndexedBy new (index_by t.id row (row_key t.id k) 1 (uniques_of t) owners)
    t.id (uniques_of t)
indexed_put t old new owners gone k row puts free was key x i columns live s full =
    let u = unique_key t.id (1 + i) (values_at x columns) in
    let now = index_by t.id row (row_key t.id k) 1 (uniques_of t) owners in
    elim (is_eq (key_cmp (row_key t.id k) (row_key t.id key))) as (λ b. is_eq (key_cmp (row_key t.id k) (row_key t.id key)) ≡ b →
    cond b (Some (Some row)) (cond (goes_at gone (row_key t.id key)) (Some None) (slot_at old (row_key t.id key))) ≡
    Some (Some x) → owner_at now u ≡ Some (row_key t.id key)) [
      | true ↦ λ is h.
          let same : row_key t.id k ≡ row_key t.id key = key_is (row_key t.id k) (row_key t.id key) is in
          let put : row ≡ x = cc in
          ap (λ r. owner_at now (unique_key t.id (1 + i) (values_at r columns))) (sym put)
          ∙ by_puts t.id row (row_key t.id k) 1 (uniques_of t) owners i columns s
          (ap (λ r. list_any is_null (values_at r columns)) put ∙ full)
          ∙ ap Some same
      | false ↦ λ is h. elim (goes_at gone (row_key t.id key)) as (λ b. goes_at gone (row_key t.id key) ≡ b →
          cond b (Some None) (slot_at old (row_key t.id key)) ≡ Some (Some x) → owner_at now u ≡ Some (row_key t.id key)) [
            | true ↦ λ g h. absurd (cc)
            | false ↦ λ g there.
                by_else t.id row (row_key t.id k) 1 (uniques_of t) owners u (owner_at now u ≡ Some (row_key t.id key))
                (λ same. same ∙ was key x i columns there s full)
                (λ j others r filled is put.
                let number : 1 + i ≡ 1 + j = ap (λ (q : Key). q.index) is in
                let place : i ≡ j = one_more i j number in
                let list : Some columns ≡ Some others = sym s ∙ ap (slice_get (uniques_of t)) place ∙ r in
                let like : columns ≡ others = cc in
                let values : values_at x columns ≡ values_at row others = ap (λ (q : Key). q.values) is in
                let again : values_at x columns ≡ values_at row columns = values ∙ ap (values_at row) (sym like) in
                absurd (free i columns key x s (ap (λ c. list_any is_null (values_at row c)) like ∙ filled) there g again))
          ] refl h
    ] refl (sym (puts (row_key t.id key)) ∙ live)

-- ---- all rows of a table

-- the entries stand in these slots
abbrev pub StandIn : Slots → Slots → Type 0
StandIn all es = AllByRecursion (λ (e : Key × Option (List Value)). (slot_at all e.0 ≡ Some e.1) × (e.0.index ≡ 0)) es

as_row_key : (k : Key) (table : ℕ) → (k.table == table) ≡ true → k.index ≡ 0 → k ≡ row_key table k.values
as_row_key k table is primary =
    let same : k.table ≡ table = grind (arith, nat_tests) in
    λ j. record { table = same j; index = primary j; values = k.values }

slot_keeps : (t : TableRow) (all : Slots) (e : Key × Option (List Value)) (owners : Owners) (i : ℕ) (columns : List ℕ)
    (k x : List Value) → OneLive t all → (slot_at all e.0 ≡ Some e.1) × (e.0.index ≡ 0) →
    slice_get (uniques_of t) i ≡ Some columns → IsLive all t.id k x → list_any is_null (values_at x columns) ≡ false →
    owner_at owners (unique_key t.id (1 + i) (values_at x columns)) ≡ Some (row_key t.id k) →
    (e.0.table == t.id) ≡ true → (slot : Option (List Value)) → e.1 ≡ slot →
    owner_at (index_slot t e.0 slot owners) (unique_key t.id (1 + i) (values_at x columns)) ≡ Some (row_key t.id k)
slot_keeps t all e owners i columns k x one stands s live full had is None at = had
slot_keeps t all e owners i columns k x one stands s live full had is (Some row) at =
    let u = unique_key t.id (1 + i) (values_at x columns) in
    let named = as_row_key e.0 t.id is stands.1 in
    by_else t.id row e.0 1 (uniques_of t) owners u (owner_at (index_by t.id row e.0 1 (uniques_of t) owners) u ≡
    Some (row_key t.id k))
    (λ same. same ∙ had)
    (λ j others r filled is put.
    let number : 1 + i ≡ 1 + j = ap (λ (q : Key). q.index) is in
    let place : i ≡ j = one_more i j number in
    let list : Some columns ≡ Some others = sym s ∙ ap (slice_get (uniques_of t)) place ∙ r in
    let like : columns ≡ others = cc in
    let values : values_at x columns ≡ values_at row others = ap (λ (q : Key). q.values) is in
    let there : IsLive all t.id e.0.values row = ap (slot_at all) (sym named) ∙ stands.0 ∙ ap Some at in
    let same : k ≡ e.0.values = one i columns k x e.0.values row s live there full (values ∙ ap (values_at row) (sym like)) in
    put ∙ ap Some named ∙ ap (λ v. Some (row_key t.id v)) (sym same))

all_keeps : (t : TableRow) (all es : Slots) (owners : Owners) (i : ℕ) (columns : List ℕ) (k x : List Value) → OneLive t all →
    StandIn all es →
    slice_get (uniques_of t) i ≡ Some columns → IsLive all t.id k x → list_any is_null (values_at x columns) ≡ false →
    owner_at owners (unique_key t.id (1 + i) (values_at x columns)) ≡ Some (row_key t.id k) →
    owner_at (index_all t es owners) (unique_key t.id (1 + i) (values_at x columns)) ≡ Some (row_key t.id k)
all_keeps t all [] owners i columns k x one stand s live full had = had
all_keeps t all (e ∷ es) owners i columns k x one stand s live full had =
    all_keeps t all es (if e.0.table == t.id then index_slot t e.0 e.1 owners else owners) i columns k x one stand.1 s live full
    (elim (e.0.table == t.id) as (λ b. (e.0.table == t.id) ≡ b →
    owner_at (if b then index_slot t e.0 e.1 owners else owners) (unique_key t.id (1 + i) (values_at x columns)) ≡
    Some (row_key t.id k)) [
      | true ↦ λ is. slot_keeps t all e owners i columns k x one stand.0 s live full had is e.1 refl
      | false ↦ λ is. had
    ] refl)

self_table : (id : ℕ) → (id == id) ≡ true
self_table id = grind (arith, nat_tests)

all_puts : (t : TableRow) (all es : Slots) (owners : Owners) (i : ℕ) (columns : List ℕ) (k x : List Value) → OneLive t all →
    StandIn all es →
    slice_get (uniques_of t) i ≡ Some columns → IsLive all t.id k x → list_any is_null (values_at x columns) ≡ false →
    slot_at es (row_key t.id k) ≡ Some (Some x) →
    owner_at (index_all t es owners) (unique_key t.id (1 + i) (values_at x columns)) ≡ Some (row_key t.id k)
all_puts t all [] owners i columns k x one stand s live full here = absurd (cc)
all_puts t all (e ∷ es) owners i columns k x one stand s live full here =
    let u = unique_key t.id (1 + i) (values_at x columns) in
    let next = λ (os : Owners). index_all t es os in
    elim (is_eq (key_cmp (row_key t.id k) e.0)) as (λ b. is_eq (key_cmp (row_key t.id k) e.0) ≡ b →
    cond b (Some e.1) (slot_at es (row_key t.id k)) ≡ Some (Some x) →
    owner_at (index_all t es (if e.0.table == t.id then index_slot t e.0 e.1 owners else owners)) u ≡ Some (row_key t.id k)) [
      | true ↦ λ is h.
          let same : row_key t.id k ≡ e.0 = key_is (row_key t.id k) e.0 is in
          let slot : e.1 ≡ Some x = cc in
          let table : (e.0.table == t.id) ≡ true = ap (λ (q : Key). q.table == t.id) (sym same) ∙ self_table t.id in
          let put : owner_at (index_by t.id x e.0 1 (uniques_of t) owners) u ≡ Some e.0 =
          by_puts t.id x e.0 1 (uniques_of t) owners i columns s full in
          let done : owner_at (if e.0.table == t.id then index_slot t e.0 e.1 owners else owners) u ≡ Some (row_key t.id k) =
          ap (λ b. owner_at (if b then index_slot t e.0 e.1 owners else owners) u) table ∙
          ap (λ o. owner_at (index_slot t e.0 o owners) u) slot ∙ put ∙ ap Some (sym same) in
          all_keeps t all es (if e.0.table == t.id then index_slot t e.0 e.1 owners else owners) i columns k x one stand.1
          s live full done
      | false ↦ λ is h. all_puts t all es (if e.0.table == t.id then index_slot t e.0 e.1 owners else owners) i columns k x one
          stand.1 s live full h
    ] refl here

pub slot_else : (t : TableRow) (key : Key) (slot : Option (List Value)) (owners : Owners) →
    OwnersOnly t.id owners (index_slot t key slot owners)
slot_else t key None owners q other = refl
slot_else t key (Some row) owners q other = by-only t.id row key 1 (uniques_of t) owners q other

pub all-only : (t : TableRow) (es : Slots) (owners : Owners) → OwnersOnly t.id owners (index_all t es owners)
all-only t [] owners q other = refl
all-only t (e ∷ es) owners q other =
    all-only t es (if e.0.table == t.id then index_slot t e.0 e.1 owners else owners) q other
    ∙ elim (e.0.table == t.id) as (λ b. owner_at (if b then index_slot t e.0 e.1 owners else owners) q ≡
    owner_at owners q) [ true ↦ slot_else t e.0 e.1 owners q other | false ↦ refl ]

-- each entry of slots in order is found
greater : (k l : Key) → key_cmp k l ≡ Less → is_eq (key_cmp l k) ≡ false
greater k l e = key_turned l k ∙ ap is_eq e

later_found : (e : Key × Option (List Value)) (es fs : Slots) → AllByRecursion (λ y. key_cmp e.0 y ≡ Less) (keys_of fs) →
    StandIn es fs → StandIn (e ∷ es) fs
later_found e es [] low h = tt
later_found e es (f ∷ fs) low h = (
  (ap (λ b. cond b (Some e.1) (slot_at es f.0)) (greater e.0 f.0 low.0) ∙ h.0.0, h.0.1),
  later_found e es fs low.1 h.1,
)

pub stand : (es : Slots) → ArePrimary es → IsStrictlySortedBy key_cmp (keys_of es) → StandIn es es
stand [] p s = tt
stand (e ∷ es) p s = (
  (ap (λ b. cond b (Some e.1) (slot_at es e.0)) (key_self e.0), p.0),
  later_found e es es (sorted_head key_cmp e.0 (keys_of es) s) (stand es p.1 (sorted_tail key_cmp e.0 (keys_of es) s)),
)

pub indexed_all : (t : TableRow) (es : Slots) (owners : Owners) → AreSlots es → OneLive t es →
    IsIndexedBy es (index_all t es owners) t.id (uniques_of t)
indexed_all t es owners a one key x i columns live s full =
    all_puts t es es owners i columns key x one (stand es a.primary a.ordered) s live full live

-- ---- whether each value leads to its row

owner_is : (key : Key) (o : Option Key) → is_owner key o ≡ true → o ≡ Some key
owner_is key None e = absurd (cc)
owner_is key (Some owner) e = ap Some (key_is owner key e)

leads_if : (b : Bool) (key : Key) (o : Option Key) → (b ≡ false → o ≡ Some key) → (if b then true else is_owner key o) ≡ true
leads_if true key o is = refl
leads_if false key o is = ap (is_owner key) (is refl) ∙ key_self key

leads_if_not : (b : Bool) (key : Key) (o : Option Key) → (if b then true else is_owner key o) ≡ true → b ≡ false → o ≡ Some key
leads_if_not true key o e full = absurd (cc)
leads_if_not false key o e full = owner_is key o e

by_leads : (owners : Owners) (table : ℕ) (row : List Value) (key : Key) (n : ℕ) (us : List (List ℕ)) →
    leads_by owners table row key n us ≡ true → (i : ℕ) (columns : List ℕ) → slice_get us i ≡ Some columns →
    list_any is_null (values_at row columns) ≡ false → owner_at owners
    (unique_key table (n + i) (values_at row columns)) ≡ Some key
by_leads owners table row key n [] e i columns s full = absurd (cc)
by_leads owners table row key n (u ∷ us) e zero columns s full =
    let same : u ≡ columns = cc in
    let number : n ≡ n + 0 = omega arith in
    let here = (both (leads_at owners table row key n u) (leads_by owners table row key (n + 1) us) e).0 in
    sym (λ j. owner_at owners (unique_key table (number j) (values_at row (same j))))
    ∙ leads_if_not (list_any is_null (values_at row u)) key (owner_at owners (unique_key table n (values_at row u))) here
    (ap (λ c. list_any is_null (values_at row c)) same ∙ full)
by_leads owners table row key n (u ∷ us) e (suc i) columns s full =
    let number : (n + 1) + i ≡ n + suc i = omega arith in
    subst (λ (k : ℕ). owner_at owners (unique_key table k (values_at row columns)) ≡ Some key) number
    (by_leads owners table row key (n + 1) us (both (leads_at owners table row key n u) (leads_by owners table row key (n + 1) us)
    e).1 i columns s full)

by_leading : (owners : Owners) (table : ℕ) (row : List Value) (key : Key) (n : ℕ) (us : List (List ℕ)) →
    ((i : ℕ) (columns : List ℕ) → slice_get us i ≡ Some columns →
    list_any is_null (values_at row columns) ≡ false → owner_at owners (unique_key table (n + i) (values_at row columns)) ≡
    Some key) → leads_by owners table row key n us ≡ true
by_leading owners table row key n [] each = refl
by_leading owners table row key n (u ∷ us) each =
    let first : n + 0 ≡ n = omega arith in
    join (leads_at owners table row key n u) (leads_by owners table row key (n + 1) us)
    (leads_if (list_any is_null (values_at row u)) key (owner_at owners (unique_key table n (values_at row u)))
    (λ full. subst (λ (k : ℕ). owner_at owners (unique_key table k (values_at row u)) ≡ Some key) first (each 0 u refl full)))
    (by_leading owners table row key (n + 1) us (λ i columns s full.
    let number : n + suc i ≡ (n + 1) + i = omega arith in
    subst (λ (k : ℕ). owner_at owners (unique_key table k (values_at row columns)) ≡ Some key) number
    (each (suc i) columns s full)))

all_lead : (t : TableRow) (owners : Owners) (es : Slots) → leads_all t owners es ≡ true → (k x : List Value) →
    slot_at es (row_key t.id k) ≡ Some (Some x) → leads_by owners t.id x (row_key t.id k) 1 (uniques_of t) ≡ true
all_lead t owners [] led k x live = absurd (cc)
all_lead t owners (e ∷ es) led k x live =
    let p = both (if e.0.table == t.id then leads_slot t owners e.0 e.1 else true) (leads_all t owners es) led in
    elim (is_eq (key_cmp (row_key t.id k) e.0)) as (λ b. is_eq (key_cmp (row_key t.id k) e.0) ≡ b →
    cond b (Some e.1) (slot_at es (row_key t.id k)) ≡ Some (Some x) →
    leads_by owners t.id x (row_key t.id k) 1 (uniques_of t) ≡ true) [
      | true ↦ λ is h.
          let same : row_key t.id k ≡ e.0 = key_is (row_key t.id k) e.0 is in
          let slot : e.1 ≡ Some x = cc in
          let table : (e.0.table == t.id) ≡ true = ap (λ (q : Key). q.table == t.id) (sym same) ∙ self_table t.id in
          ap (λ (q : Key). leads_by owners t.id x q 1 (uniques_of t)) same
          ∙ sym (ap (leads_slot t owners e.0) slot)
          ∙ sym (ap (λ b. if b then leads_slot t owners e.0 e.1 else true) table)
          ∙ p.0
      | false ↦ λ is h. all_lead t owners es p.1 k x h
    ] refl live

-- rows whose values lead to them are indexed
indexed_led : (t : TableRow) (es : Slots) (owners : Owners) → leads_all t owners es ≡ true →
    IsIndexedBy es owners t.id (uniques_of t)
indexed_led t es owners led key row i columns live s full =
    by_leads owners t.id row (row_key t.id key) 1 (uniques_of t) (all_lead t owners es led key row live) i columns s full

-- and the values of indexed rows lead to them
slot_leads : (t : TableRow) (all : Slots) (e : Key × Option (List Value)) (owners : Owners) → (slot_at all e.0 ≡ Some e.1) ×
    (e.0.index ≡ 0) → IsIndexedBy all owners t.id (uniques_of t) → (e.0.table == t.id) ≡ true →
    (slot : Option (List Value)) → e.1 ≡ slot → leads_slot t owners e.0 slot ≡ true
slot_leads t all e owners stands was is None at = refl
slot_leads t all e owners stands was is (Some row) at =
    let named = as_row_key e.0 t.id is stands.1 in
    let there : IsLive all t.id e.0.values row = ap (slot_at all) (sym named) ∙ stands.0 ∙ ap Some at in
    by_leading owners t.id row e.0 1 (uniques_of t) (λ i columns s full. was e.0.values row i columns there s full ∙
    ap Some (sym named))

led_indexed : (t : TableRow) (all es : Slots) (owners : Owners) → StandIn all es → IsIndexedBy all owners t.id (uniques_of t) →
    leads_all t owners es ≡ true
led_indexed t all [] owners stands was = refl
led_indexed t all (e ∷ es) owners stands was =
    join (if e.0.table == t.id then leads_slot t owners e.0 e.1 else true) (leads_all t owners es)
    (elim (e.0.table == t.id) as (λ b. (e.0.table == t.id) ≡ b → (if b then leads_slot t owners e.0 e.1 else true) ≡ true) [
      | true ↦ λ is. slot_leads t all e owners stands.0 was is e.1 refl
      | false ↦ λ other. refl
    ] refl)
    (led_indexed t all es owners stands.1 was)

-- where each value has one owner, each leads to it after all were indexed
pub led_single : (t : TableRow) (es : Slots) (owners : Owners) → AreSlots es → OneLive t es →
    leads_all t (index_all t es owners) es ≡ true
led_single t es owners a one = led_indexed t es es (index_all t es owners) (stand es a.primary a.ordered)
    (indexed_all t es owners a one)

-- ---- all tables

pub indexed_else : (table : ℕ) (old new : Slots) (owners after : Owners) (indexed marked : Indexed) →
    AreIndexed old owners indexed → ChangesOnly table old new → OwnersOnly table owners after → IndexedOnly table indexed marked →
    ((keys : List (List ℕ)) → indexed_at marked table ≡ Some keys → IsIndexedBy new after table (drop 1 keys)) →
    AreIndexed new after marked
indexed_else table old new owners after indexed marked was slots owns marks here id keys e =
    elim (id == table) as (λ b. (id == table) ≡ b → IsIndexedBy new after id (drop 1 keys)) [
      | true ↦ λ is.
          let same : table ≡ id = grind (arith, nat_tests) in
          subst (λ (n : ℕ). IsIndexedBy new after n (drop 1 keys)) same (here keys (ap (indexed_at marked) same ∙ e))
      | false ↦ λ other key x i columns live s full.
          owns (unique_key id (1 + i) (values_at x columns)) other ∙
          was id keys (sym (marks id other) ∙ e) key x i columns (sym (slots (row_key id key) other) ∙ live) s full
    ] refl

-- a table that is indexed anew
pub index_marked : (t : TableRow) (slots new : Slots) (owners after : Owners) (indexed unmarked marked : Indexed) →
    AreIndexed slots owners indexed → leads_all t after slots ≡ true → new ≡ slots →
    OwnersOnly t.id owners after → IndexedOnly t.id indexed unmarked → IndexedOnly t.id unmarked marked →
    ((keys : List (List ℕ)) → indexed_at marked t.id ≡ Some keys → keys ≡ t.keys) → AreIndexed new after marked
index_marked t slots new owners after indexed unmarked marked was led same owns first second here =
    subst (λ (es : Slots). AreIndexed es after marked) (sym same)
    (indexed_else t.id slots slots owners after indexed marked was (λ q other. refl) owns
    (λ id other. second id other ∙ first id other)
    (λ keys e. subst (λ (ks : List (List ℕ)). IsIndexedBy slots after t.id (drop 1 ks)) (sym (here keys e))
    (indexed_led t slots after led)))

-- where the index was not made to the end, the table is not indexed
pub index_unmarked : (table : ℕ) (slots new : Slots) (owners after : Owners) (indexed unmarked : Indexed) →
    AreIndexed slots owners indexed → ChangesOnly table slots new → OwnersOnly table owners after →
    IndexedOnly table indexed unmarked → indexed_at unmarked table ≡ None → AreIndexed new after unmarked
index_unmarked table slots new owners after indexed unmarked was slot owns marks none =
    indexed_else table slots new owners after indexed unmarked was slot owns marks (λ keys e. absurd (cc))

-- a row that is put, and the table marked again
pub index_put : (t : TableRow) (old new : Slots) (owners after : Owners) (indexed unmarked marked : Indexed) (gone : Option Key)
    (key : Key) (row : List Value) → AreIndexed old owners indexed →
    key ≡ row_key t.id key.values → IsPrimaryOf t.id gone → (indexed_at indexed t.id ≡ Some t.keys → IsFreeAmong t old gone row) →
    Puts old new gone key row → after ≡ index_by t.id row key 1 (uniques_of t) owners →
    IndexedOnly t.id indexed unmarked → IndexedOnly t.id unmarked marked →
    ((keys : List (List ℕ)) → indexed_at marked t.id ≡ Some keys → (keys ≡ t.keys) × (indexed_at indexed t.id ≡ Some t.keys))
    → AreIndexed new after marked
index_put t old new owners after indexed unmarked marked gone key row was named of free puts is first second here =
    let k = row_key t.id key.values in
    let put : Puts old new gone k row = subst (λ (q : Key). Puts old new gone q row) named puts in
    let same : after ≡ index_by t.id row k 1 (uniques_of t) owners =
    is ∙ ap (λ (q : Key). index_by t.id row q 1 (uniques_of t) owners) named in
    indexed_else t.id old new owners after indexed marked was (puts-only old new gone k row of put)
    (subst (OwnersOnly t.id owners) (sym same) (by-only t.id row k 1 (uniques_of t) owners))
    (λ id other. second id other ∙ first id other)
    (λ keys e. let at = here keys e in subst (λ (ks : List (List ℕ)). IsIndexedBy new after t.id (drop 1 ks)) (sym at.0)
    (subst (λ (os : Owners). IsIndexedBy new os t.id (uniques_of t)) (sym same)
    (indexed_put t old new owners gone key.values row put (free at.1) (was t.id t.keys at.1))))

-- a row that goes leaves the index right
gone_not : (b : Bool) (S : Option (Option (List Value))) (x : List Value) → cond b (Some None) S ≡ Some (Some x) →
    S ≡ Some (Some x)
gone_not true S x e = absurd (cc)
gone_not false S x e = e

pub indexed_gone : (old new : Slots) (owners : Owners) (indexed : Indexed) (key : Key) → Sets old new key None →
    AreIndexed old owners indexed → AreIndexed new owners indexed
indexed_gone old new owners indexed gone sets was id keys e key x i columns live s full =
    was id keys e key x i columns (gone_not (is_eq (key_cmp gone (row_key id key))) (slot_at old (row_key id key)) x
    (sym (sets (row_key id key)) ∙ live)) s full

pub ruleset only = (at-only, by-only, slot_else, all-only)
