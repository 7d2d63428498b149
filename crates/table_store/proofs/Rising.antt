-- Tables whose ids rise: where the table of an id stands.
use Rattle.std.proofs.Common.{◌≡◌, ◌≤◌, ◌<◌, ◌+◌, ℕ, zero, suc, List, [], ◌∷◌, length, get_or, slice_get, arith, true, false, Bool, cond, ◌&&◌, ◌==◌, nat_le, nat_lt, refl, sym, ap, ◌∙◌, Some, None}
use Rattle.std.proofs.lemmas.Bool.Decides.{nat_tests}
use Rattle.std.specs.Arc.{arc_value}
use Rattle.std.specs.List.{AllWithin}
use Rattle.std.specs.List.Sorted.{IsPartitionedBy}
use Rattle.redo_spec.specs.Dictionary.{ids_rise}
use Rattle.redo_spec.specs.Tables.{definitions_of}
use Rattle.table_store.specs.Shared.{id_in, tables_in, found_in, if_of_id}
use Rattle.table_store.specs.declared.shared_table.SharedTable.{SharedTable}

both : (a b : Bool) → (a && b) ≡ true → (a ≡ true) × (b ≡ true)
both true true e = (refl, refl)
both true false e = absurd (cc)
both false b e = absurd (cc)

is_not : (b : Bool) → (b ≡ true → ⊥) → b ≡ false
is_not true never = absurd (never refl)
is_not false never = refl

-- what is there does not go by what would stand in for it
same_item : (ts : List SharedTable) (k : ℕ) (d e : SharedTable) → k < length ts → get_or ts k d ≡ get_or ts k e
same_item [] k d e inside = absurd (omega (arith, inside))
same_item (t ∷ ts) zero d e inside = refl
same_item (t ∷ ts) (suc k) d e inside = same_item ts k d e (omega (arith, inside))

-- ids rise from this one on
abbrev pub rise_from : ℕ → List SharedTable → Bool
rise_from from ts = ids_rise from (definitions_of (tables_in ts))

-- each id is not below the least one
ids_low : (from : ℕ) (ts : List SharedTable) → rise_from from ts ≡ true → (k : ℕ) (d : SharedTable) → k < length ts →
    from ≤ id_in (get_or ts k d)
ids_low from [] e k d inside = absurd (omega (arith, inside))
ids_low from (t ∷ ts) e zero d inside = grind (arith, nat_tests, (both (nat_le from (id_in t)) _ e).0)
ids_low from (t ∷ ts) e (suc k) d inside =
    let parts = both (nat_le from (id_in t)) (rise_from (id_in t + 1) ts) e in
    let here : from ≤ id_in t = grind (arith, nat_tests, parts.0) in
    let there = ids_low (id_in t + 1) ts parts.1 k d (omega (arith, inside)) in
    omega (arith, here, there)

-- the tables below an id stand before the others
pub partitioned : (id from : ℕ) (ts : List SharedTable) → rise_from from ts ≡ true → IsPartitionedBy (λ s. nat_lt (id_in s) id) ts
partitioned id from [] e i j d low inside below = absurd (omega (arith, inside))
partitioned id from (t ∷ ts) e zero zero d low inside below = below
partitioned id from (t ∷ ts) e (suc i) zero d low inside below = absurd (omega (arith, low))
partitioned id from (t ∷ ts) e zero (suc j) d low inside below =
    let there = ids_low (id_in t + 1) ts (both (nat_le from (id_in t)) _ e).1 j d (omega (arith, inside)) in
    let less : id_in (get_or ts j d) < id = grind (arith, nat_tests, below) in
    let here : id_in t < id = omega (arith, there, less) in
    grind (arith, nat_tests, here)
partitioned id from (t ∷ ts) e (suc i) (suc j) d low inside below =
    partitioned id (id_in t + 1) ts (both (nat_le from (id_in t)) _ e).1 i j d (omega (arith, low)) (omega (arith, inside)) below

-- a table below an id has those before it below too
pub all_below : (id : ℕ) (ts : List SharedTable) (middle : ℕ) (t : SharedTable) → rise_from 0 ts ≡ true → middle < length ts →
    t ≡ get_or ts middle t → nat_lt (id_in t) id ≡ true → AllWithin (λ s. nat_lt (id_in s) id ≡ true) ts 0 (middle + 1)
all_below id ts middle t e inside is below = λ k d _ before.
    partitioned id 0 ts e k middle d (omega (arith, before)) inside
    (ap (λ s. nat_lt (id_in s) id) (sym (is ∙ same_item ts middle t d inside)) ∙ below)

-- and one that is not has those behind it not below
pub none_behind : (id : ℕ) (ts : List SharedTable) (middle : ℕ) (t : SharedTable) → rise_from 0 ts ≡ true → middle < length ts →
    t ≡ get_or ts middle t → nat_lt (id_in t) id ≡ false →
    AllWithin (λ s. nat_lt (id_in s) id ≡ false) ts middle (length ts)
none_behind id ts middle t e inside is above = λ k d behind within.
    is_not (nat_lt (id_in (get_or ts k d)) id) (λ below.
    let here = partitioned id 0 ts e middle k d behind within below in
    let there : nat_lt (id_in t) id ≡ true = ap (λ s. nat_lt (id_in s) id) (is ∙ same_item ts middle t d inside) ∙ here in
    let both : true ≡ false = sym there ∙ above in
    absurd (cc))

-- no table has an id below the least one
none_below : (id from : ℕ) (ts : List SharedTable) → rise_from from ts ≡ true → id < from → found_in id (tables_in ts) ≡ None
none_below id from [] e low = refl
none_below id from (t ∷ ts) e low =
    let parts = both (nat_le from (id_in t)) (rise_from (id_in t + 1) ts) e in
    let here : from ≤ id_in t = grind (arith, nat_tests, parts.0) in
    let other : (id_in t == id) ≡ false = grind (arith, nat_tests, here, low) in
    ap (λ b. cond b (Some (arc_value t.table)) (found_in id (tables_in ts))) other ∙
    none_below id (id_in t + 1) ts parts.1 (omega (arith, here, low))

-- the table of an id stands where those with lower ids end, or nowhere
pub found_at : (id from : ℕ) (ts : List SharedTable) → rise_from from ts ≡ true → (i : ℕ) →
    AllWithin (λ s. nat_lt (id_in s) id ≡ true) ts 0 i → AllWithin (λ s. nat_lt (id_in s) id ≡ false) ts i (length ts) →
    if_of_id id (slice_get ts i) ≡ found_in id (tables_in ts)
found_at id from [] e i low high = refl
found_at id from (t ∷ ts) e zero low high =
    let parts = both (nat_le from (id_in t)) (rise_from (id_in t + 1) ts) e in
    let here = high 0 t (omega arith) (omega arith) in
    let reach : id ≤ id_in t = grind (arith, nat_tests, here) in
    ap (λ o. cond (id_in t == id) (Some (arc_value t.table)) o)
    (sym (none_below id (id_in t + 1) ts parts.1 (omega (arith, reach))))
found_at id from (t ∷ ts) e (suc i) low high =
    let parts = both (nat_le from (id_in t)) (rise_from (id_in t + 1) ts) e in
    let here = low 0 t (omega arith) (omega arith) in
    let other : (id_in t == id) ≡ false = grind (arith, nat_tests, here) in
    found_at id (id_in t + 1) ts parts.1 i (λ k d a b. low (suc k) d (omega arith) (omega (arith, b)))
    (λ k d a b. high (suc k) d (omega (arith, a)) (omega (arith, b)))
    ∙ sym (ap (λ b. cond b (Some (arc_value t.table)) (found_in id (tables_in ts))) other)

-- the element at a place, and none behind the end
pub read_at : (ts : List SharedTable) (k : ℕ) (d : SharedTable) → k < length ts → slice_get ts k ≡ Some (get_or ts k d)
read_at [] k d inside = absurd (omega (arith, inside))
read_at (t ∷ ts) zero d inside = refl
read_at (t ∷ ts) (suc k) d inside = read_at ts k d (omega (arith, inside))

pub past_end : (ts : List SharedTable) (k : ℕ) → length ts ≤ k → slice_get ts k ≡ None
past_end [] k past = refl
past_end (t ∷ ts) zero past = absurd (omega (arith, past))
past_end (t ∷ ts) (suc k) past = past_end ts k (omega (arith, past))
