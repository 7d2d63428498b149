-- Writes that rise: where the row of a key stands among them.
use Rattle.std.proofs.Common.{◌≡◌, ◌≤◌, ◌<◌, ℕ, zero, suc, List, [], ◌∷◌, length, map, get_or, slice_get, arith, true, false, Bool, ◌&&◌, ◌||◌, ◌==◌, refl, sym, ap, ◌∙◌, subst, Option, Some, None}
use Rattle.std.proofs.lemmas.Bool.Decides.{nat_tests}
use Rattle.std.specs.List.{AllWithin}
use Rattle.std.specs.List.Sorted.{IsPartitionedBy}
use Rattle.std.specs.declared.cmp.Ordering.{Ordering}
use Rattle.std.specs.declared.cmp.Ordering.TheVariants.{Less, Equal, Greater}
use Rattle.std.specs.Ordering.{eq_by_cmp, is_lt, is_eq, ordering_reverse}
use Rattle.rl_value.specs.declared.key.Key.{Key}
use Rattle.rl_value.specs.declared.value.Value.{Value}
use Rattle.rl_value.specs.Order.{row_cmp, key_cmp, key_total, keys_rise, is_below_first}
use Rattle.row_apply.specs.declared.writes.Write.{Write}
use Rattle.row_apply.specs.Kept.{row_key}
use Rattle.row_apply.specs.Overlaid.{written_key, writes_rise}
use Rattle.row_apply.proofs.Orders.{row_is, key_self, key_is}
use Rattle.constraint_check.specs.LookUps.{is_before, same_row, is_written}

pub left_true : (a b : Bool) → (a && b) ≡ true → a ≡ true
left_true true b e = refl
left_true false b e = absurd (cc)

pub right_true : (a b : Bool) → (a && b) ≡ true → b ≡ true
right_true true b e = e
right_true false b e = absurd (cc)

pub both : (a b : Bool) → a ≡ true → b ≡ true → (a && b) ≡ true
both true b p q = q
both false b p q = absurd (cc)

either : (a b : Bool) → a ≡ false → b ≡ false → (a || b) ≡ false
either true b p q = absurd (cc)
either false b p q = q

pub is_not : (b : Bool) → (b ≡ true → ⊥) → b ≡ false
is_not true never = absurd (never refl)
is_not false never = refl

less_is : (o : Ordering) → is_lt o ≡ true → o ≡ Less
less_is Less e = refl
less_is Equal e = absurd (cc)
less_is Greater e = absurd (cc)

pub same_number : (a b : ℕ) → (a == b) ≡ true → a ≡ b
same_number a b e = grind (arith, nat_tests)

pub same_id : (n : ℕ) → (n == n) ≡ true
same_id n = grind (arith, nat_tests)

-- ---- writes above another

below_next : (k l : Key) (ms : List Key) → key_cmp k l ≡ Less → is_below_first l ms ≡ true → is_below_first k ms ≡ true
below_next k l [] less below = refl
below_next k l (m ∷ ms) less below = ap is_lt (key_total.trans k l m less (less_is (key_cmp l m) below))

pub rise_on : (w : Write) (ws : List Write) → writes_rise (w ∷ ws) ≡ true → writes_rise ws ≡ true
rise_on w ws rise = right_true (is_below_first (written_key w) (map written_key ws)) (keys_rise (map written_key ws)) rise

first_less : (w v : Write) (vs : List Write) → writes_rise (w ∷ v ∷ vs) ≡ true → key_cmp (written_key w) (written_key v) ≡ Less
first_less w v vs rise = less_is (key_cmp (written_key w) (written_key v))
    (left_true (is_below_first (written_key w) (map written_key (v ∷ vs))) (keys_rise (map written_key (v ∷ vs))) rise)

-- the first may be taken away behind another
rise_over : (w v : Write) (vs : List Write) → writes_rise (w ∷ v ∷ vs) ≡ true → writes_rise (w ∷ vs) ≡ true
rise_over w v vs rise =
    let later = rise_on w (v ∷ vs) rise in
    both (is_below_first (written_key w) (map written_key vs)) (keys_rise (map written_key vs))
    (below_next (written_key w) (written_key v) (map written_key vs) (first_less w v vs rise)
    (left_true (is_below_first (written_key v) (map written_key vs)) (keys_rise (map written_key vs)) later))
    (rise_on v vs later)

pub above : (w : Write) (ws : List Write) → writes_rise (w ∷ ws) ≡ true → (k : ℕ) (d : Write) → k < length ws →
    key_cmp (written_key w) (written_key (get_or ws k d)) ≡ Less
above w [] rise k d inside = absurd (omega (arith, inside))
above w (v ∷ vs) rise zero d inside = first_less w v vs rise
above w (v ∷ vs) rise (suc k) d inside = above w vs (rise_over w v vs rise) k d (omega (arith, inside))

-- those before a row's key stand before the others
pub partitioned : (table : ℕ) (key : List Value) (ws : List Write) → writes_rise ws ≡ true →
    IsPartitionedBy (is_before table key) ws
partitioned table key [] rise i j d low inside before = absurd (omega (arith, inside))
partitioned table key (w ∷ ws) rise zero zero d low inside before = before
partitioned table key (w ∷ ws) rise (suc i) zero d low inside before = absurd (omega (arith, low))
partitioned table key (w ∷ ws) rise zero (suc j) d low inside before =
    ap is_lt (key_total.trans (written_key w) (written_key (get_or ws j d)) (row_key table key)
    (above w ws rise j d (omega (arith, inside)))
    (less_is (key_cmp (written_key (get_or ws j d)) (row_key table key)) before))
partitioned table key (w ∷ ws) rise (suc i) (suc j) d low inside before =
    partitioned table key ws (rise_on w ws rise) i j d (omega (arith, low)) (omega (arith, inside)) before

-- ---- the row of a key

key_of_same : (table : ℕ) (key : List Value) (w : Write) → same_row table key w ≡ true → written_key w ≡ row_key table key
key_of_same table key w same =
    let of : w.table ≡ table = same_number w.table table (left_true (w.table == table) (eq_by_cmp row_cmp w.key key) same) in
    let is : w.key ≡ key = row_is w.key key (right_true (w.table == table) (eq_by_cmp row_cmp w.key key) same) in
    λ i. record { table = of i; index = 0; values = is i }

no_less : (o : Ordering) → o ≡ Less → is_eq o ≡ true → ⊥
no_less Less e f = cc
no_less Equal e f = cc
no_less Greater e f = cc

-- a write behind the key is not of it
not_same : (table : ℕ) (key : List Value) (w : Write) → key_cmp (row_key table key) (written_key w) ≡ Less →
    same_row table key w ≡ false
not_same table key w less = is_not (same_row table key w) (λ same.
    no_less (key_cmp (row_key table key) (written_key w)) less
    (ap (λ k. is_eq (key_cmp (row_key table key) k)) (key_of_same table key w same) ∙ key_self (row_key table key)))

-- nor is one before it
not_same_before : (table : ℕ) (key : List Value) (w : Write) → is_before table key w ≡ true → same_row table key w ≡ false
not_same_before table key w before = is_not (same_row table key w) (λ same.
    no_less (key_cmp (written_key w) (row_key table key))
    (less_is (key_cmp (written_key w) (row_key table key)) before)
    (ap (λ k. is_eq (key_cmp k (row_key table key))) (key_of_same table key w same) ∙ key_self (row_key table key)))

pub none_behind : (table : ℕ) (key : List Value) (ws : List Write) →
    ((k : ℕ) (d : Write) → k < length ws → key_cmp (row_key table key) (written_key (get_or ws k d)) ≡ Less) →
    is_written ws table key ≡ false
none_behind table key [] behind = refl
none_behind table key (w ∷ ws) behind =
    either (same_row table key w) (is_written ws table key) (not_same table key w (behind 0 w (omega arith)))
    (none_behind table key ws (λ k d inside. behind (suc k) d (omega (arith, inside))))

-- what is behind a write that is not before the key is behind the key
behind_from : (o : Ordering) (k q l : Key) → key_cmp k q ≡ o → is_lt o ≡ false → key_cmp k l ≡ Less → key_cmp q l ≡ Less
behind_from Less k q l is not less = absurd (cc)
behind_from Equal k q l is not less = subst (λ m. key_cmp m l ≡ Less) (key_is k q (ap is_eq is)) less
behind_from Greater k q l is not less = key_total.trans q k l (key_total.antisymm q k ∙ ap ordering_reverse is) less

abbrev pub if_same : ℕ → List Value → Option Write → Bool
if_same table key None = false
if_same table key (Some w) = same_row table key w

or_false : (b : Bool) → (b || false) ≡ b
or_false true = refl
or_false false = refl

-- the row of a key is written where those before it end, or not at all
pub found_at : (table : ℕ) (key : List Value) (ws : List Write) → writes_rise ws ≡ true → (i : ℕ) →
    AllWithin (λ w. is_before table key w ≡ true) ws 0 i → AllWithin (λ w. is_before table key w ≡ false) ws i (length ws) →
    if_same table key (slice_get ws i) ≡ is_written ws table key
found_at table key [] rise i low high = refl
found_at table key (w ∷ ws) rise zero low high =
    let here = high 0 w (omega arith) (omega arith) in
    sym (ap (λ b. same_row table key w || b) (none_behind table key ws (λ k d inside.
    behind_from (key_cmp (written_key w) (row_key table key)) (written_key w) (row_key table key) (written_key (get_or ws k d)) refl
    here (above w ws rise k d inside)))
    ∙ or_false (same_row table key w))
found_at table key (w ∷ ws) rise (suc i) low high =
    let here = low 0 w (omega arith) (omega arith) in
    found_at table key ws (rise_on w ws rise) i (λ k d a b. low (suc k) d (omega arith) (omega (arith, b)))
    (λ k d a b. high (suc k) d (omega (arith, a)) (omega (arith, b)))
    ∙ sym (ap (λ b. b || is_written ws table key) (not_same_before table key w here))

-- the element at a place, and none behind the end
pub read_at : (ws : List Write) (k : ℕ) (d : Write) → k < length ws → slice_get ws k ≡ Some (get_or ws k d)
read_at [] k d inside = absurd (omega (arith, inside))
read_at (w ∷ ws) zero d inside = refl
read_at (w ∷ ws) (suc k) d inside = read_at ws k d (omega (arith, inside))

pub past_end : (ws : List Write) (k : ℕ) → length ws ≤ k → slice_get ws k ≡ None
past_end [] k past = refl
past_end (w ∷ ws) zero past = absurd (omega (arith, past))
past_end (w ∷ ws) (suc k) past = past_end ws k (omega (arith, past))
