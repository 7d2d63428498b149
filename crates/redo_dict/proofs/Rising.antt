-- Tables whose ids rise: where the table of an id stands, and where a new one goes.
use Rattle.std.proofs.Common.{◌≡◌, ◌≤◌, ◌<◌, ◌+◌, ℕ, zero, suc, List, [], ◌∷◌, length, get_or, slice_get, arith, true, false, Bool, cond, ◌&&◌, ◌||◌, ◌==◌, nat_le, nat_lt, refl, sym, ap, ◌∙◌, Some, None}
use Rattle.std.proofs.lemmas.Bool.Decides.{nat_tests}
use Rattle.std.specs.List.{AllWithin, insert, list_any}
use Rattle.std.specs.List.Sorted.{IsPartitionedBy}
use Rattle.rl_value.specs.Order.{same_bytes}
use Rattle.redo_vec.specs.declared.table.TableRow.{TableRow}
use Rattle.redo_dict.specs.Found.{if_of_id}
use Rattle.redo_spec.specs.Dictionary.{ids_rise, table_of, with_table, same_table}

second : (a b : Bool) → (a || b) ≡ false → b ≡ false
second true b e = absurd (cc)
second false b e = e

both : (a b : Bool) → (a && b) ≡ true → (a ≡ true) × (b ≡ true)
both true true e = (refl, refl)
both true false e = absurd (cc)
both false b e = absurd (cc)

-- each id is not below the least one
ids_low : (from : ℕ) (ts : List TableRow) → ids_rise from ts ≡ true → (k : ℕ) (d : TableRow) → k < length ts →
    from ≤ (get_or ts k d).id
ids_low from [] e k d inside = absurd (omega (arith, inside))
ids_low from (t ∷ ts) e zero d inside = grind (arith, nat_tests, (both (nat_le from t.id) _ e).0)
ids_low from (t ∷ ts) e (suc k) d inside =
    let parts = both (nat_le from t.id) (ids_rise (t.id + 1) ts) e in
    let here : from ≤ t.id = grind (arith, nat_tests, parts.0) in
    let there = ids_low (t.id + 1) ts parts.1 k d (omega (arith, inside)) in
    omega (arith, here, there)

-- the tables below an id stand before the others
pub partitioned : (id from : ℕ) (ts : List TableRow) → ids_rise from ts ≡ true → IsPartitionedBy (λ t. nat_lt t.id id) ts
partitioned id from [] e i j d low inside below = absurd (omega (arith, inside))
partitioned id from (t ∷ ts) e zero zero d low inside below = below
partitioned id from (t ∷ ts) e (suc i) zero d low inside below = absurd (omega (arith, low))
partitioned id from (t ∷ ts) e zero (suc j) d low inside below =
    let there = ids_low (t.id + 1) ts (both (nat_le from t.id) _ e).1 j d (omega (arith, inside)) in
    let less : (get_or ts j d).id < id = grind (arith, nat_tests, below) in
    let here : t.id < id = omega (arith, there, less) in
    grind (arith, nat_tests, here)
partitioned id from (t ∷ ts) e (suc i) (suc j) d low inside below =
    partitioned id (t.id + 1) ts (both (nat_le from t.id) _ e).1 i j d (omega (arith, low)) (omega (arith, inside)) below

-- no table has an id below the least one
none_below : (id from : ℕ) (ts : List TableRow) → ids_rise from ts ≡ true → id < from → table_of ts id ≡ None
none_below id from [] e low = refl
none_below id from (t ∷ ts) e low =
    let parts = both (nat_le from t.id) (ids_rise (t.id + 1) ts) e in
    let here : from ≤ t.id = grind (arith, nat_tests, parts.0) in
    let other : (t.id == id) ≡ false = grind (arith, nat_tests, here, low) in
    ap (λ b. cond b (Some t) (table_of ts id)) other ∙ none_below id (t.id + 1) ts parts.1 (omega (arith, here, low))

-- the table of an id stands where those with lower ids end, or nowhere
pub found_at : (id from : ℕ) (ts : List TableRow) → ids_rise from ts ≡ true → (i : ℕ) →
    AllWithin (λ t. nat_lt t.id id ≡ true) ts 0 i → AllWithin (λ t. nat_lt t.id id ≡ false) ts i (length ts) →
    if_of_id id (slice_get ts i) ≡ table_of ts id
found_at id from [] e i low high = refl
found_at id from (t ∷ ts) e zero low high =
    let parts = both (nat_le from t.id) (ids_rise (t.id + 1) ts) e in
    let here = high 0 t (omega arith) (omega arith) in
    let reach : id ≤ t.id = grind (arith, nat_tests, here) in
    ap (λ o. cond (t.id == id) (Some t) o) (sym (none_below id (t.id + 1) ts parts.1 (omega (arith, reach))))
found_at id from (t ∷ ts) e (suc i) low high =
    let parts = both (nat_le from t.id) (ids_rise (t.id + 1) ts) e in
    let here = low 0 t (omega arith) (omega arith) in
    let other : (t.id == id) ≡ false = grind (arith, nat_tests, here) in
    found_at id (t.id + 1) ts parts.1 i (λ k d a b. low (suc k) d (omega arith) (omega (arith, b)))
    (λ k d a b. high (suc k) d (omega (arith, a)) (omega (arith, b)))
    ∙ sym (ap (λ b. cond b (Some t) (table_of ts id)) other)

no_id : (t u : TableRow) (rest : Bool) → (same_table t u || rest) ≡ false → ((t.id == u.id) ≡ false) × (rest ≡ false)
no_id t u rest e = elim (t.id == u.id) as (λ b. ((b || (same_bytes t.schema u.schema && same_bytes t.name u.name)) || rest) ≡
    false → (b ≡ false) × (rest ≡ false)) [
      | true ↦ λ h. absurd (cc)
      | false ↦ λ h. (refl, second (same_bytes t.schema u.schema && same_bytes t.name u.name) rest h)
    ] e

-- a new table goes where those with lower ids end
pub inserted_at : (t : TableRow) (from : ℕ) (ts : List TableRow) → ids_rise from ts ≡ true → list_any (same_table t) ts ≡ false →
    (i : ℕ) → i ≤ length ts →
    AllWithin (λ u. nat_lt u.id t.id ≡ true) ts 0 i → AllWithin (λ u. nat_lt u.id t.id ≡ false) ts i (length ts) →
    insert ts i t ≡ with_table t ts
inserted_at t from [] e new zero inside low high = refl
inserted_at t from [] e new (suc i) inside low high = absurd (omega (arith, inside))
inserted_at t from (u ∷ us) e new zero inside low high =
    let here = high 0 u (omega arith) (omega arith) in
    let apart = (no_id t u (list_any (same_table t) us) new).0 in
    let before : nat_lt t.id u.id ≡ true = grind (arith, nat_tests, here, apart) in
    sym (ap (λ b. cond b (t ∷ u ∷ us) (u ∷ with_table t us)) before)
inserted_at t from (u ∷ us) e new (suc i) inside low high =
    let here = low 0 u (omega arith) (omega arith) in
    let behind : nat_lt t.id u.id ≡ false = grind (arith, nat_tests, here) in
    ap (λ vs. u ∷ vs) (inserted_at t (u.id + 1) us (both (nat_le from u.id) _ e).1 (no_id t u (list_any (same_table t) us) new).1
    i (omega (arith, inside))
    (λ k d a b. low (suc k) d (omega arith) (omega (arith, b))) (λ k d a b. high (suc k) d (omega (arith, a)) (omega (arith, b))))
    ∙ sym (ap (λ b. cond b (t ∷ u ∷ us) (u ∷ with_table t us)) behind)

join : (a b : Bool) → a ≡ true → b ≡ true → (a && b) ≡ true
join true b x y = y
join false b x y = absurd (cc)

-- ids rise with a new table in its place
pub rises_with : (t : TableRow) (from : ℕ) (ts : List TableRow) → ids_rise from ts ≡ true → list_any (same_table t) ts ≡ false →
    from ≤ t.id → ids_rise from (with_table t ts) ≡ true
rises_with t from [] e new low = join (nat_le from t.id) true (grind (arith, nat_tests, low)) refl
rises_with t from (u ∷ us) e new low =
    let parts = both (nat_le from u.id) (ids_rise (u.id + 1) us) e in
    let apart = no_id t u (list_any (same_table t) us) new in
    elim (nat_lt t.id u.id) as (λ b. nat_lt t.id u.id ≡ b → ids_rise from (cond b (t ∷ u ∷ us) (u ∷ with_table t us)) ≡ true) [
      | true ↦ λ h.
          let less : t.id < u.id = grind (arith, nat_tests, h) in
          let next : nat_le (t.id + 1) u.id ≡ true = grind (arith, nat_tests, less) in
          join (nat_le from t.id) _ (grind (arith, nat_tests, low)) (join (nat_le (t.id + 1) u.id) _ next parts.1)
      | false ↦ λ h.
          let above : u.id + 1 ≤ t.id = grind (arith, nat_tests, h, apart.0) in
          join (nat_le from u.id) _ parts.0 (rises_with t (u.id + 1) us parts.1 apart.1 above)
    ] refl

-- the element at a place, and none behind the end
pub read_at : (ts : List TableRow) (k : ℕ) (d : TableRow) → k < length ts → slice_get ts k ≡ Some (get_or ts k d)
read_at [] k d inside = absurd (omega (arith, inside))
read_at (t ∷ ts) zero d inside = refl
read_at (t ∷ ts) (suc k) d inside = read_at ts k d (omega (arith, inside))

pub past_end : (ts : List TableRow) (k : ℕ) → length ts ≤ k → slice_get ts k ≡ None
past_end [] k past = refl
past_end (t ∷ ts) zero past = absurd (omega (arith, past))
past_end (t ∷ ts) (suc k) past = past_end ts k (omega (arith, past))
