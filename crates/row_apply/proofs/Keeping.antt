-- What an overlay keeps stays right: slots with one more write, and one that is taken back.
use Rattle.std.specs.Prelude.{OnOk, IfOk, IsSome}
use Rattle.std.proofs.Common.{Result, Ok, Err, ◌≡◌, ℕ, List, [], ◌∷◌, refl, sym, ap, subst, ◌∙◌, Bool, true, false, cond, ◌==◌, arith, Option, Some, None}
use Rattle.std.specs.declared.cmp.Ordering.TheVariants.{Less, Equal, Greater}
use Rattle.std.specs.Ordering.{is_eq, match_ordering, nat_cmp}
use Rattle.std.specs.List.Sorted.{IsStrictlySortedBy}
use Rattle.std.specs.Map.{keys_of, remove_entry}
use Rattle.std.specs.BTreeMap.{insert_entry}
use Rattle.std.specs.Cmp.{unsigned_tied}
use Rattle.std.proofs.lemmas.Bool.Decides.{nat_tests}
use Rattle.rl_value.specs.declared.value.Value.{Value}
use Rattle.rl_value.specs.declared.key.Key.{Key}
use Rattle.rl_value.specs.Order.{key_cmp}
use Rattle.rl_value.specs.declared.miss.Miss.{Miss}
use Rattle.row_apply.specs.declared.fault.EffectFault.{EffectFault}
use Rattle.row_apply.specs.declared.fault.EffectFault.TheVariants as faults
use Rattle.row_apply.specs.Outcomes.{OnMiss}
use Rattle.row_apply.specs.Kept.{Slots, Indexed, slot_at, indexed_at, ArePrimary, AreSlots, Sets, Puts, IndexedOnly}
use Rattle.row_apply.proofs.Orders.{key_is, key_self}
use Rattle.row_apply.proofs.Slots.{slots_same}

-- a primary key comes to primary keys
pub primary_inserted : (es : Slots) (key : Key) (slot : Option (List Value)) → ArePrimary es → key.index ≡ 0 →
    ArePrimary (insert_entry key_cmp es key slot)
primary_inserted [] key slot p k = (k, tt)
primary_inserted (e ∷ es) key slot p k =
    elim (key_cmp key e.0) as (λ o. ArePrimary (match_ordering o ((key, slot) ∷ e ∷ es) ((e.0, slot) ∷ es)
    (e ∷ insert_entry key_cmp es key slot))) [
      | Less ↦ (k, p)
      | Equal ↦ p
      | Greater ↦ (p.0, primary_inserted es key slot p.1 k)
    ]

pub primary_removed : (es : Slots) (test : Key → Bool) → ArePrimary es → ArePrimary (remove_entry test es)
primary_removed [] test p = tt
primary_removed (e ∷ es) test p =
    elim (test e.0) as (λ b. ArePrimary (cond b es (e ∷ remove_entry test es))) [
      | true ↦ p.1
      | false ↦
          (p.0, primary_removed es test p.1)
    ]

pub slots_inserted : (es after : Slots) (key : Key) (slot : Option (List Value)) → AreSlots es → key.index ≡ 0 →
    after ≡ insert_entry key_cmp es key slot → IsStrictlySortedBy key_cmp (keys_of after) → AreSlots after
slots_inserted es after key slot a k is s = record {
  primary = subst ArePrimary (sym is)
      (primary_inserted es key slot a.primary k);
  ordered = s;
}

-- a row that goes from under a key and comes back under it
merged : {A : Type 0} (b : Bool) (x y z : A) → cond b x z ≡ cond b x (cond b y z)
merged true x y z = refl
merged false x y z = refl

pub set-puts : (old new : Slots) (gone key : Key) (row : List Value) → is_eq (key_cmp gone key) ≡ true →
    Sets old new key (Some row) → Puts old new (Some gone) key row
set-puts old new gone key row same set q =
    let is : gone ≡ key = key_is gone key same in
    set q ∙ merged (is_eq (key_cmp key q)) (Some (Some row)) (Some None) (slot_at old q)
    ∙ ap (λ (k : Key). cond (is_eq (key_cmp key q)) (Some (Some row)) (cond (is_eq (key_cmp k q)) (Some None) (slot_at old q)))
    (sym is)

pub sets-puts : (old mid new : Slots) (gone key : Key) (row : List Value) → Sets old mid gone None → Sets mid new key (Some row) →
    Puts old new (Some gone) key row
sets-puts old mid new gone key row first second q = second q ∙
    ap (λ s. cond (is_eq (key_cmp key q)) (Some (Some row)) s) (first q)

pub set-put : (old new : Slots) (key : Key) (row : List Value) → Sets old new key (Some row) → Puts old new None key row
set-put old new key row set q = set q

-- a write that is taken back
put_back : (b : Bool) (s t u : Option (Option (List Value))) → (b ≡ true → s ≡ u) → cond b s (cond b t u) ≡ u
put_back true s t u e = e refl
put_back false s t u e = refl

pub restored : (old mid new : Slots) (key : Key) (slot : Option (Option (List Value))) (set : Option (List Value)) →
    AreSlots old → IsStrictlySortedBy key_cmp (keys_of new) → slot ≡ slot_at old key → Sets old mid key set →
    ((q : Key) → slot_at new q ≡ cond (is_eq (key_cmp key q)) slot (slot_at mid q)) → new ≡ old
restored old mid new key slot set a s was sets back =
    slots_same new old s a.ordered
    (λ q. back q ∙ ap (λ t. cond (is_eq (key_cmp key q)) slot t) (sets q)
    ∙ put_back (is_eq (key_cmp key q)) slot (Some set) (slot_at old q) (λ t. was ∙ ap (slot_at old) (key_is key q t)))

-- ---- which tables are indexed

number_tie : (id table : ℕ) (b : Bool) → (id == table) ≡ b → is_eq (nat_cmp table id) ≡ b
number_tie id table b e = unsigned_tied table id ∙ (let turned : (table == id) ≡
    (id == table) = grind (arith, nat_tests) in turned) ∙ e

pub marked_else : (old new : Indexed) (table : ℕ) (mark : Option (List (List ℕ))) →
    ((q : ℕ) → indexed_at new q ≡ cond (is_eq (nat_cmp table q)) mark (indexed_at old q)) → IndexedOnly table old new
marked_else old new table mark sets id other = sets id ∙
    ap (λ b. cond b mark (indexed_at old id)) (number_tie id table false other)

pub marked : (old new : Indexed) (table : ℕ) (mark : Option (List (List ℕ))) →
    ((q : ℕ) → indexed_at new q ≡ cond (is_eq (nat_cmp table q)) mark (indexed_at old q)) → indexed_at new table ≡ mark
marked old new table mark sets = sets table ∙ ap (λ b. cond b mark (indexed_at old table))
    (number_tie table table true (grind (arith, nat_tests)))

-- what follows where the call succeeded
pub on_ok : {T E P Q : Type 0} (r : Result T E) → (P → Q) → OnOk r P → OnOk r Q
on_ok (Ok x) f p = f p
on_ok (Err e) f p = p

-- what follows where the change missed
pub on_miss : {T : Type 0} (r : Result T EffectFault) (P Q : Miss → Type 0) → ((m : Miss) → P m → Q m) → OnMiss r P → OnMiss r Q
on_miss (Ok x) P Q f p = p
on_miss (Err (faults.Miss m)) P Q f p = f m p
on_miss (Err faults.Memory) P Q f p = p

-- the row that went, and comes back
pub still_there : (old mid kept : Slots) (left gone : Key) (slot : Option (List Value)) → Sets old mid left slot → kept ≡ mid →
    left ≡ gone → IsSome (slot_at kept gone)
still_there old mid kept left gone slot sets same is =
    let here : slot_at kept gone ≡ Some slot = ap (λ (es : Slots). slot_at es gone) same ∙ sets gone
    ∙ ap (λ (k : Key). cond (is_eq (key_cmp k gone)) (Some slot) (slot_at old gone)) is ∙
    ap (λ b. cond b (Some slot) (slot_at old gone)) (key_self gone) in
    subst (λ (o : Option (Option (List Value))). IsSome o) (sym here) refl

pub restored_row : (old mid kept new : Slots) (left gone : Key) (was : Option (Option (List Value))) (set : Option (List Value)) →
    AreSlots old → IsStrictlySortedBy key_cmp (keys_of new) → was ≡ slot_at old left →
    Sets old mid left set → kept ≡ mid → left ≡ gone → ((q : Key) →
    slot_at new q ≡ cond (is_eq (key_cmp gone q)) was (slot_at kept q)) → new ≡ old
restored_row old mid kept new left gone was set a s w sets same is back =
    restored old mid new gone was set a s (w ∙ ap (slot_at old) is) (subst (λ (k : Key). Sets old mid k set) is sets)
    (λ q. back q ∙ ap (λ (es : Slots). cond (is_eq (key_cmp gone q)) was (slot_at es q)) same)

-- what holds of each value holds of the one that was answered
pub each_ok : {T E : Type 0} (r : Result T E) (P : T → Type 0) → ((x : T) → P x) → IfOk r P
each_ok (Ok x) P each = each x
each_ok (Err e) P each = tt
