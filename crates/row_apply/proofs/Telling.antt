-- Writes that rise are told by what they leave under each key.
use Rattle.std.proofs.Common.{◌≡◌, List, [], ◌∷◌, ◌++◌, map, refl, sym, ap, subst, ◌∙◌, Bool, true, false, cond, ◌||◌, Option, Some}
use Rattle.std.proofs.Math.Dec.{T}
use Rattle.std.specs.declared.cmp.Ordering.{Ordering}
use Rattle.std.specs.declared.cmp.Ordering.TheVariants.{Less, Equal, Greater}
use Rattle.std.specs.FinMap.Entries as entries
use Rattle.std.specs.Ordering.{is_lt, is_eq, match_ordering}
use Rattle.std.specs.List.{AllByRecursion, list_any}
use Rattle.std.specs.List.Sorted.{IsStrictlySortedBy}
use Rattle.std.specs.Map.{keys_of}
use Rattle.std.specs.BTreeMap.{insert_entry}
use Rattle.std.proofs.lemmas.List.{append-nil}
use Rattle.rl_value.specs.declared.value.Value.{Value}
use Rattle.rl_value.specs.declared.key.Key.{Key}
use Rattle.rl_value.specs.Order.{key_cmp, key_total, keys_rise, is_below_first}
use Rattle.row_apply.specs.declared.writes.Write.{Write}
use Rattle.row_apply.specs.Kept.{Slots, slot_at, ArePrimary, AreSlots}
use Rattle.row_apply.specs.Overlaid.{writes_rise, written_key, written_at}
use Rattle.row_apply.specs.Written.{writes_in, put_writes}
use Rattle.row_apply.proofs.Fitting.{both}
use Rattle.row_apply.proofs.Orders.{key_is, key_turned}
use Rattle.row_apply.proofs.Slots.{slots_same, insert_entry-put, lookup-inserted, lookup-find, sorted_entries}
use Rattle.row_apply.proofs.Untouched.{written_slot}
use Rattle.row_apply.proofs.Writing.{inserted_last}

-- ---- writes as slots

abbrev slots_by : List Write → Slots
slots_by [] = []
slots_by (w ∷ ws) = (written_key w, w.row) ∷ slots_by ws

back : (ws : List Write) → writes_in (slots_by ws) ≡ ws
back [] = refl
back (w ∷ ws) = ap (λ (vs : List Write). w ∷ vs) (back ws)

primary_by : (ws : List Write) → ArePrimary (slots_by ws)
primary_by [] = tt
primary_by (w ∷ ws) = (refl, primary_by ws)

keys_by : (ws : List Write) → map written_key ws ≡ keys_of (slots_by ws)
keys_by [] = refl
keys_by (w ∷ ws) = ap (λ (ks : List Key). written_key w ∷ ks) (keys_by ws)

-- ---- keys that rise are sorted

less_is : (o : Ordering) → is_lt o ≡ true → o ≡ Less
less_is Less e = refl
less_is Equal e = absurd (cc)
less_is Greater e = absurd (cc)

all_below : (k l : Key) (ls : List Key) → key_cmp k l ≡ Less → AllByRecursion (λ m. key_cmp l m ≡ Less) ls →
    AllByRecursion (λ m. key_cmp k m ≡ Less) ls
all_below k l [] less h = tt
all_below k l (m ∷ ms) less h = (key_total.trans k l m less h.0, all_below k l ms less h.1)

-- the first is below all, and the others rise
pub record AreAbove (k : Key) (ks : List Key) : Type 0 where
  pub all : AllByRecursion (λ l. key_cmp k l ≡ Less) ks
  pub sorted : IsStrictlySortedBy key_cmp ks

above : (k : Key) (ks : List Key) → is_below_first k ks ≡ true → keys_rise ks ≡ true → AreAbove k ks
unfolding IsStrictlySortedBy
above k [] e f = record { all = tt; sorted = tt }
above k (l ∷ ls) e f =
    let p = both (is_below_first l ls) (keys_rise ls) f in
    let a = above l ls p.0 p.1 in
    let less = less_is (key_cmp k l) e in
    record { all = (less, all_below k l ls less a.all); sorted = (a.all, a.sorted) }

sorted_by : (ks : List Key) → keys_rise ks ≡ true → IsStrictlySortedBy key_cmp ks
unfolding IsStrictlySortedBy
sorted_by [] e = tt
sorted_by (k ∷ ks) e =
    let p = both (is_below_first k ks) (keys_rise ks) e in
    let a = above k ks p.0 p.1 in
    (a.all, a.sorted)

ordered_by : (ws : List Write) → writes_rise ws ≡ true → IsStrictlySortedBy key_cmp (keys_of (slots_by ws))
ordered_by ws e = subst (IsStrictlySortedBy key_cmp) (keys_by ws) (sorted_by (map written_key ws) e)

-- what was written under a key, among the slots
told_by : (ws : List Write) (q : Key) → written_at ws q ≡ slot_at (slots_by ws) q
told_by ws q = ap (λ (vs : List Write). written_at vs q) (sym (back ws)) ∙ written_slot (slots_by ws) q (primary_by ws)

pub writes_same : (one other : List Write) → writes_rise one ≡ true → writes_rise other ≡ true →
    ((q : Key) → written_at one q ≡ written_at other q) → one ≡ other
writes_same one other e f same =
    sym (back one)
    ∙ ap writes_in (slots_same (slots_by one) (slots_by other) (ordered_by one e) (ordered_by other f)
    (λ q. sym (told_by one q) ∙ same q ∙ told_by other q))
    ∙ back other

-- ---- writes that rise, put in one after the other

put_last : (es : Slots) (ws : List Write) → IsStrictlySortedBy key_cmp (keys_of (es ++ slots_by ws)) →
    put_writes es ws ≡ es ++ slots_by ws
put_last es [] s = sym (append-nil es)
put_last es (w ∷ ws) s =
    let is : insert_entry key_cmp es (written_key w) w.row ++ slots_by ws ≡ es ++ (written_key w, w.row) ∷ slots_by ws =
    inserted_last es (written_key w, w.row) (slots_by ws) s in
    put_last (insert_entry key_cmp es (written_key w) w.row) ws
    (subst (λ (l : Slots). IsStrictlySortedBy key_cmp (keys_of l)) (sym is) s) ∙ is

pub put_slots : (ws : List Write) → writes_rise ws ≡ true → AreSlots (put_writes [] ws)
put_slots ws e = subst AreSlots (sym (put_last [] ws (ordered_by ws e)))
    (record { primary = primary_by ws; ordered = ordered_by ws e })

pub put_same : (ws : List Write) → writes_rise ws ≡ true → writes_in (put_writes [] ws) ≡ ws
put_same ws e = ap writes_in (put_last [] ws (ordered_by ws e)) ∙ back ws

-- ---- later writes

-- the entries under keys that rise stay so
put_sorted : (es : Slots) (ws : List Write) → T (entries.is_sorted key_cmp es) → T (entries.is_sorted key_cmp (put_writes es ws))
put_sorted es [] s = s
put_sorted es (w ∷ ws) s =
    put_sorted (insert_entry key_cmp es (written_key w) w.row) ws
    (subst (λ (l : Slots). T (entries.is_sorted key_cmp l)) (sym (insert_entry-put key_cmp es (written_key w) w.row))
    (entries.is_sorted-put key_cmp key_total (written_key w) w.row es s))

primary_inserted : (es : Slots) (key : Key) (row : Option (List Value)) → ArePrimary es → key.index ≡ 0 →
    ArePrimary (insert_entry key_cmp es key row)
primary_inserted [] key row p k = (k, tt)
primary_inserted (e ∷ es) key row p k =
    elim (key_cmp key e.0) as (λ o. ArePrimary (match_ordering o ((key, row) ∷ e ∷ es) ((e.0, row) ∷ es)
    (e ∷ insert_entry key_cmp es key row))) [
      | Less ↦ (k, p)
      | Equal ↦ p
      | Greater ↦ (p.0, primary_inserted es key row p.1 k)
    ]

put_primary : (es : Slots) (ws : List Write) → ArePrimary es → ArePrimary (put_writes es ws)
put_primary es [] p = p
put_primary es (w ∷ ws) p =
    put_primary (insert_entry key_cmp es (written_key w) w.row) ws (primary_inserted es (written_key w) w.row p refl)

put_append : (es : Slots) (vs ws : List Write) → put_writes es (vs ++ ws) ≡ put_writes (put_writes es vs) ws
put_append es [] ws = refl
put_append es (v ∷ vs) ws = put_append (insert_entry key_cmp es (written_key v) v.row) vs ws

-- what stands under the key once the write was put in
stands : (b : Bool) (q k : Key) (row : Option (List Value)) (was told : Option (Option (List Value))) →
    is_eq (key_cmp q k) ≡ b → (q ≡ k → Some row ≡ told) → (is_eq (key_cmp k q) ≡ false → was ≡ told) → cond b (Some row) was ≡ told
stands true q k row was told e here there = here (key_is q k e)
stands false q k row was told e here there = there (key_turned k q ∙ e)

no_write : (b c : Bool) → b ≡ false → c ≡ false → (b || c) ≡ false
no_write true c p q = absurd (cc)
no_write false c p q = q

agree : (new : List Write) (es : Slots) (ws : List Write) →
    ((q : Key) → list_any (λ w. is_eq (key_cmp (written_key w) q)) ws ≡ false → slot_at es q ≡ written_at new q) →
    AllByRecursion (λ w. written_at new (written_key w) ≡ Some w.row) ws → (q : Key) → slot_at (put_writes es ws) q ≡ written_at new q
agree new es [] others each q = others q refl
agree new es (w ∷ ws) others each q =
    agree new (insert_entry key_cmp es (written_key w) w.row) ws
    (λ k out. lookup-inserted key_cmp key_total k (written_key w) w.row es
    ∙ stands (is_eq (key_cmp k (written_key w))) k (written_key w) w.row (slot_at es k) (written_at new k) refl
    (λ same. sym each.0 ∙ ap (written_at new) (sym same))
    (λ other. others k (no_write (is_eq (key_cmp (written_key w) k)) (list_any (λ v. is_eq (key_cmp (written_key v) k)) ws)
    other out)))
    each.1 q

pub later_put : (before ws new : List Write) → writes_rise new ≡ true →
    AllByRecursion (λ w. written_at new (written_key w) ≡ Some w.row) ws →
    ((q : Key) → list_any (λ w. is_eq (key_cmp (written_key w) q)) ws ≡ false →
    written_at new q ≡ written_at (writes_in (put_writes [] before)) q) →
    new ≡ writes_in (put_writes [] (before ++ ws))
later_put before ws new rise each others =
    let es = put_writes [] before in
    let all = agree new es ws
    (λ q out. sym (written_slot es q (put_primary [] before tt)) ∙ sym (others q out)) each in
    sym (back new)
    ∙ ap writes_in (entries.same_entries key_cmp key_total (λ x y e. key_is x y (ap is_eq e)) (slots_by new) (put_writes es ws)
    (sorted_entries key_cmp (slots_by new) (ordered_by new rise)) (put_sorted es ws (put_sorted [] before tt))
    (λ q. sym (lookup-find key_cmp q (slots_by new)) ∙ sym (told_by new q) ∙ sym (all q)
    ∙ lookup-find key_cmp q (put_writes es ws)))
    ∙ ap writes_in (sym (put_append [] before ws))
