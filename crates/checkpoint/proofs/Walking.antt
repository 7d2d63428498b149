-- Walking through the pairs of an area, each asked for by the key of the one before it: what lies above a key of a store in order
-- is the next pair and what lies above its key.
use Rattle.std.proofs.Common.{◌≡◌, ℕ, List, [], ◌∷◌, map, filter, Bool, true, false, cond, refl, sym, ap, ◌∙◌, subst, Option, Some, None, Ok, Err, Result}
use Rattle.std.specs.Prelude.{◌&&◌, ◌||◌, ◌==◌, IsTrue}
use Rattle.std.proofs.Math.Dec.{T}
use Rattle.std.specs.List.{find, list_all, AllByRecursion}
use Rattle.std.specs.Option.{option_map}
use Rattle.std.specs.declared.cmp.Ordering.{Ordering}
use Rattle.std.specs.declared.cmp.Ordering.TheVariants.{Less, Equal, Greater}
use Rattle.std.specs.Ordering.{is_lt}
use Rattle.std.specs.Cmp.{IsTotalOrder, tied_itself}
use Rattle.std.specs.FinMap.Entries as entries
use Rattle.rl_value.specs.Order.{bytes_cmp, bytes_total, same_bytes}
use Rattle.rl_value.specs.Outcome.{◌>>=◌, or_err}
use Rattle.rl_ports.specs.declared.batch.Pair.{Pair}
use Rattle.rl_ports.specs.Faults.{Told}
use Rattle.rl_ports.specs.Store.{Store, place_cmp, is_key, is_store, next_pair}
use Rattle.redo_spec.proofs.ListLaws.{filter_all}
use Rattle.standby_spec.specs.Loading.{KeyValue, of_area, has_key, read_area}
use Rattle.standby_spec.proofs.AreaLaws.{sorted-area}
use Rattle.standby_spec.proofs.StoreLaws.{and-left, and-right, first-of, second-of, from_T, to_T, same_nat}
use Rattle.checkpoint.specs.declared.fault.LoadFault.{LoadFault}
use Rattle.checkpoint.specs.declared.fault.LoadFault.TheVariants as faults
use Rattle.checkpoint.specs.Areas.{is_above, pairs_above, IsNext, GivesNext, LiesAbove, Checks, Going}
use Rattle.checkpoint.specs.Images.{OfBadKey}

-- ---- the order of keys

less : (r : Ordering) → is_lt r ≡ true → r ≡ Less
less Less e = refl
less Equal e = absurd (cc)
less Greater e = absurd (cc)

pub above_trans : (a b c : List ℕ) → is_above a b ≡ true → is_above b c ≡ true → is_above a c ≡ true
above_trans a b c p q =
    let o : IsTotalOrder bytes_cmp = bytes_total in
    ap is_lt (o.trans a b c (less (bytes_cmp a b) p) (less (bytes_cmp b c) q))

pub not_itself : (a : List ℕ) → is_above a a ≡ false
not_itself a = ap is_lt (tied_itself bytes_total a)

back_at : (a b : List ℕ) → is_above a b ≡ true → (t : Bool) → is_above b a ≡ t → t ≡ false
back_at a b p true is = let round : is_above a a ≡ true = above_trans a b a p is in
    let itself : is_above a a ≡ false = not_itself a in absurd (cc)
back_at a b p false is = refl

pub not_back : (a b : List ℕ) → is_above a b ≡ true → is_above b a ≡ false
not_back a b p = back_at a b p (is_above b a) refl

-- ---- pairs in order

abbrev AllAbove : List ℕ → List KeyValue → Type 0
AllAbove k ps = AllByRecursion (λ p. is_above k p.0 ≡ true) ps

all_above : (k : List ℕ) (ps : List KeyValue) → T (entries.below_all bytes_cmp k ps) → AllAbove k ps
all_above k [] h = tt
all_above k (p ∷ ps) h = (from_T _ (first-of _ _ h), all_above k ps (second-of _ _ h))

all_lower : (j k : List ℕ) (ps : List KeyValue) → is_above j k ≡ true → AllAbove k ps → AllAbove j ps
all_lower j k [] up all = tt
all_lower j k (p ∷ ps) up all = (above_trans j k p.0 up all.0, all_lower j k ps up all.1)

kept_all : (k : List ℕ) (ps : List KeyValue) → AllAbove k ps → pairs_above k ps ≡ ps
kept_all k ps all = filter_all (λ (p : KeyValue). is_above k p.0) ps all

abbrev next_of : List ℕ → List KeyValue → Option KeyValue
next_of k ps = find (λ p. is_above k p.0) ps

-- what is found there is above each key that all of them are above
found_above : (j k : List ℕ) (q : KeyValue) (ps : List KeyValue) → AllAbove j ps → next_of k ps ≡ Some q → is_above j q.0 ≡ true
found_above j k q [] all e = absurd (cc)
found_above j k q (p ∷ ps) all e =
    elim (is_above k p.0) as (λ b. cond b (Some p) (next_of k ps) ≡ Some q → is_above j q.0 ≡ true) [
      | true ↦ λ is. let same : p ≡ q = cc in ap (λ (x : KeyValue). is_above j x.0) (sym same) ∙ all.0
      | false ↦ λ is. found_above j k q ps all.1 is
    ] e

abbrev IsNextKey : List ℕ → List KeyValue → Option KeyValue → Type 0
IsNextKey k ps None = pairs_above k ps ≡ []
IsNextKey k ps (Some q) = (pairs_above k ps ≡ q ∷ pairs_above q.0 ps) × (is_above k q.0 ≡ true)

here : (k : List ℕ) (p : KeyValue) (ps : List KeyValue) (o : Option KeyValue) → T (entries.below_all bytes_cmp p.0 ps) →
    is_above k p.0 ≡ true → Some p ≡ o → IsNextKey k (p ∷ ps) o
here k p ps None h up e = absurd (cc)
here k p ps (Some q) h up e =
    let same : p ≡ q = cc in
    let all = all_above p.0 ps h in
    let whole : pairs_above k (p ∷ ps) ≡ p ∷ ps =
    ap (λ b. cond b (p ∷ pairs_above k ps) (pairs_above k ps)) up
    ∙ ap (λ xs. p ∷ xs) (kept_all k ps (all_lower k p.0 ps up all)) in
    let behind : pairs_above p.0 (p ∷ ps) ≡ ps =
    ap (λ b. cond b (p ∷ pairs_above p.0 ps) (pairs_above p.0 ps)) (not_itself p.0) ∙ kept_all p.0 ps all in
    subst (λ (x : KeyValue). (pairs_above k (p ∷ ps) ≡ x ∷ pairs_above x.0 (p ∷ ps)) × (is_above k x.0 ≡ true)) same
    (whole ∙ sym (ap (λ xs. p ∷ xs) behind), up)

later : (k : List ℕ) (p : KeyValue) (ps : List KeyValue) (o : Option KeyValue) → T (entries.below_all bytes_cmp p.0 ps) →
    is_above k p.0 ≡ false → next_of k ps ≡ o → IsNextKey k ps o → IsNextKey k (p ∷ ps) o
later k p ps None h low e rest = ap (λ b. cond b (p ∷ pairs_above k ps) (pairs_above k ps)) low ∙ rest
later k p ps (Some q) h low e rest =
    let up : is_above p.0 q.0 ≡ true = found_above p.0 k q ps (all_above p.0 ps h) e in (
      ap (λ b. cond b (p ∷ pairs_above k ps) (pairs_above k ps)) low
          ∙ rest.0
          ∙ sym (ap (λ b. q ∷ cond b (p ∷ pairs_above q.0 ps) (pairs_above q.0 ps)) (not_back p.0 q.0 up)),
      rest.1,
    )

next_key : (k : List ℕ) (ps : List KeyValue) → T (entries.is_sorted bytes_cmp ps) → (o : Option KeyValue) → next_of k ps ≡ o →
    IsNextKey k ps o
next_key k [] h None e = refl
next_key k [] h (Some q) e = absurd (cc)
next_key k (p ∷ ps) h o e =
    elim (is_above k p.0) as (λ b. is_above k p.0 ≡ b → cond b (Some p) (next_of k ps) ≡ o → IsNextKey k (p ∷ ps) o) [
      | true ↦ λ up is. here k p ps o (first-of _ _ h) up is
      | false ↦ λ low is. later k p ps o (first-of _ _ h) low is (next_key k ps (second-of _ _ h) o is)
    ] refl e

-- ---- the pairs of a store

-- the next pair of an area of a store
abbrev placed : ℕ → KeyValue → (ℕ × List ℕ) × List ℕ
placed a p = ((a, p.0), p.1)

abbrev pair-of : (ℕ × List ℕ) × List ℕ → KeyValue
pair-of e = (e.0.1, e.1)

at_once : (a : ℕ) (k : List ℕ) (e : (ℕ × List ℕ) × List ℕ) (rest : Option KeyValue) → e.0.0 ≡ a → (b : Bool) →
    cond b (Some e) (option_map (placed a) rest) ≡ option_map (placed a) (cond b (Some (pair-of e)) rest)
at_once a k e rest same true = ap (λ n. Some ((n, e.0.1), e.1)) same
at_once a k e rest same false = refl

in_step : (a : ℕ) (k : List ℕ) (e : (ℕ × List ℕ) × List ℕ) (s : Store) → next_pair a k s ≡ option_map (placed a)
    (next_of k (of_area a s)) →
    (t : Bool) → (e.0.0 == a) ≡ t →
    cond (t && is_above k e.0.1) (Some e) (next_pair a k s) ≡
    option_map (placed a) (next_of k (map pair-of (cond t (e ∷ filter (λ x. x.0.0 == a) s) (filter (λ x. x.0.0 == a) s))))
in_step a k e s rest true is =
    ap (cond (is_above k e.0.1) (Some e)) rest ∙ at_once a k e (next_of k (of_area a s)) (same_nat e.0.0 a is) (is_above k e.0.1)
in_step a k e s rest false is = rest

in_area : (a : ℕ) (k : List ℕ) (s : Store) → next_pair a k s ≡ option_map (placed a) (next_of k (of_area a s))
in_area a k [] = refl
in_area a k (e ∷ s) = in_step a k e s (in_area a k s) (e.0.0 == a) refl

abbrev given : ℕ → Pair → (ℕ × List ℕ) × List ℕ
given a p = ((a, p.key), p.value)

abbrev as_pair : Pair → KeyValue
as_pair p = (p.key, p.value)

same_some : (x y : (ℕ × List ℕ) × List ℕ) → Some x ≡ Some y → x ≡ y
same_some x y e = cc

same_found : (a : ℕ) (found : Option Pair) (o : Option KeyValue) → option_map (given a) found ≡ option_map (placed a) o →
    o ≡ option_map as_pair found
same_found a None None e = refl
same_found a None (Some q) e = absurd (cc)
same_found a (Some p) None e = absurd (cc)
same_found a (Some p) (Some q) e =
    let same = same_some (given a p) (placed a q) e in
    let k : p.key ≡ q.0 = ap (λ (x : (ℕ × List ℕ) × List ℕ). x.0.1) same in
    let v : p.value ≡ q.1 = ap (λ (x : (ℕ × List ℕ) × List ℕ). x.1) same in
    sym (λ i. Some (k i, v i))

sorted : (a : ℕ) (s : Store) → is_store s ≡ true → T (entries.is_sorted bytes_cmp (of_area a s))
sorted a s store = sorted-area a s (to_T _ (and-left (entries.is_sorted place_cmp s) (list_all (λ e. is_key e.0.1) s) store))

is_next : (k : List ℕ) (ps : List KeyValue) (found : Option Pair) → IsNextKey k ps (option_map as_pair found) →
    IsNext ps k found × LiesAbove k found
is_next k ps None e = (e, tt)
is_next k ps (Some p) e = e

-- what the keeper gives is the next pair
pub gives_next : (a : ℕ) (k : List ℕ) (s : Store) (found : Option Pair) → is_store s ≡ true →
    option_map (given a) found ≡ next_pair a k s → IsNext (of_area a s) k found × LiesAbove k found
gives_next a k s found store e =
    is_next k (of_area a s) found (next_key k (of_area a s) (sorted a s store) (option_map as_pair found)
    (same_found a found (next_of k (of_area a s)) (e ∙ in_area a k s)))

checked_at : (a : ℕ) (k : List ℕ) (s : Store) (found : Option Pair) (result : Result (Option Pair) LoadFault) →
    IsNext (of_area a s) k found × LiesAbove k found → Checks k found result → GivesNext (of_area a s) k result
checked_at a k s found (Ok kept) is checks = subst (IsNext (of_area a s) k) (sym checks.0) is.0
checked_at a k s found (Err (faults.BadKeeper area key)) is checks = checks is.1
checked_at a k s found (Err faults.KeeperFault) is checks = absurd checks
checked_at a k s found (Err faults.Memory) is checks = absurd checks

pub checked_next : (known : Option Store) (a : ℕ) (k : List ℕ) (found : Option Pair) (result : Result (Option Pair) LoadFault) →
    Told known (λ s. IsTrue (is_store s)) → Told known (λ s. option_map (given a) found ≡ next_pair a k s) →
    Checks k found result →
    Told known (λ s. GivesNext (of_area a s) k result)
checked_next None a k found result store next checks = tt
checked_next (Some s) a k found result store next checks =
    checked_at a k s found result (gives_next a k s found store next) checks

-- ---- before the first pair

key_above : (k : List ℕ) → is_key k ≡ true → is_above [] k ≡ true
key_above [] e = absurd (cc)
key_above (b ∷ bytes) e = refl

keys_step : (a : ℕ) (e : (ℕ × List ℕ) × List ℕ) (s : Store) → is_key e.0.1 ≡ true → AllAbove [] (of_area a s) → (t : Bool) →
    AllAbove [] (map pair-of (cond t (e ∷ filter (λ x. x.0.0 == a) s) (filter (λ x. x.0.0 == a) s)))
keys_step a e s key rest true = (key_above e.0.1 key, rest)
keys_step a e s key rest false = rest

keys_above : (a : ℕ) (s : Store) → list_all (λ (e : (ℕ × List ℕ) × List ℕ). is_key e.0.1) s ≡ true → AllAbove [] (of_area a s)
keys_above a [] all = tt
keys_above a (e ∷ s) all =
    keys_step a e s (and-left (is_key e.0.1) (list_all (λ (x : (ℕ × List ℕ) × List ℕ). is_key x.0.1) s) all)
    (keys_above a s (and-right (is_key e.0.1) (list_all (λ (x : (ℕ × List ℕ) × List ℕ). is_key x.0.1) s) all)) (e.0.0 == a)

-- all pairs of an area are above the key of no bytes
pub all_first : (a : ℕ) (s : Store) → is_store s ≡ true → pairs_above [] (of_area a s) ≡ of_area a s
all_first a s store = kept_all [] (of_area a s)
    (keys_above a s (and-right (entries.is_sorted place_cmp s) (list_all (λ e. is_key e.0.1) s) store))

-- ---- a whole area

pub going_first : {A : Type 0} (area : ℕ) (step : A → KeyValue → Option A) (first : A) (s : Store) → is_store s ≡ true →
    Going area step first first [] (of_area area s)
going_first area step first s store = ap (read_area area step first) (sym (all_first area s store))

pub going_on : {A : Type 0} (area : ℕ) (step : A → KeyValue → Option A) (first so_far next : A) (last : List ℕ) (p : Pair)
    (pairs : List KeyValue) → Going area step first so_far last pairs → IsNext pairs last (Some p) →
    step so_far (p.key, p.value) ≡ Some next → Going area step first next p.key pairs
going_on area step first so_far next last p pairs going is taken =
    going
    ∙ ap (read_area area step so_far) is
    ∙ ap (λ o. or_err o (area, p.key) >>= λ x. read_area area step x (pairs_above p.key pairs)) taken

pub gone_bad : {A : Type 0} (area : ℕ) (step : A → KeyValue → Option A) (first so_far : A) (last : List ℕ) (p : Pair)
    (pairs : List KeyValue) → Going area step first so_far last pairs → IsNext pairs last (Some p) →
    step so_far (p.key, p.value) ≡ None → read_area area step first pairs ≡ Err (area, p.key)
gone_bad area step first so_far last p pairs going is refused =
    going
    ∙ ap (read_area area step so_far) is
    ∙ ap (λ o. or_err o (area, p.key) >>= λ x. read_area area step x (pairs_above p.key pairs)) refused

pub gone_through : {A : Type 0} (area : ℕ) (step : A → KeyValue → Option A) (first so_far : A) (last : List ℕ)
    (pairs : List KeyValue) → Going area step first so_far last pairs → IsNext pairs last None →
    read_area area step first pairs ≡ Ok so_far
gone_through area step first so_far last pairs going is = going ∙ ap (read_area area step so_far) is

-- ---- a key among the pairs

pub looked_on : (key last : List ℕ) (p : Pair) (pairs : List KeyValue) → has_key key pairs ≡ has_key key
    (pairs_above last pairs) →
    IsNext pairs last (Some p) → same_bytes p.key key ≡ false → has_key key pairs ≡ has_key key (pairs_above p.key pairs)
looked_on key last p pairs so_far is other =
    so_far ∙ ap (has_key key) is ∙ ap (λ b. b || has_key key (pairs_above p.key pairs)) other

pub looked_found : (key last : List ℕ) (p : Pair) (pairs : List KeyValue) → has_key key pairs ≡ has_key key
    (pairs_above last pairs) →
    IsNext pairs last (Some p) → same_bytes p.key key ≡ true → has_key key pairs ≡ true
looked_found key last p pairs so_far is same =
    so_far ∙ ap (has_key key) is ∙ ap (λ b. b || has_key key (pairs_above p.key pairs)) same

pub looked_through : (key last : List ℕ) (pairs : List KeyValue) → has_key key pairs ≡ has_key key (pairs_above last pairs) →
    IsNext pairs last None → has_key key pairs ≡ false
looked_through key last pairs so_far is = so_far ∙ ap (has_key key) is

-- ---- the same where the keeper tells its pairs

pub told_first : {A : Type 0} (known : Option Store) (area : ℕ) (step : A → KeyValue → Option A) (first : A) →
    Told known (λ s. IsTrue (is_store s)) → Told known (λ s. Going area step first first [] (of_area area s))
told_first None area step first store = tt
told_first (Some s) area step first store = going_first area step first s store

pub told_on : {A : Type 0} (known : Option Store) (area : ℕ) (step : A → KeyValue → Option A) (first so_far next : A)
    (last : List ℕ) (p : Pair) → Told known (λ s. Going area step first so_far last (of_area area s)) →
    Told known (λ s. IsNext (of_area area s) last (Some p)) → step so_far (p.key, p.value) ≡ Some next →
    Told known (λ s. Going area step first next p.key (of_area area s))
told_on None area step first so_far next last p going is taken = tt
told_on (Some s) area step first so_far next last p going is taken =
    going_on area step first so_far next last p (of_area area s) going is taken

pub told_bad : {A : Type 0} (known : Option Store) (area : ℕ) (step : A → KeyValue → Option A) (first so_far : A)
    (last : List ℕ) (p : Pair) → Told known (λ s. Going area step first so_far last (of_area area s)) →
    Told known (λ s. IsNext (of_area area s) last (Some p)) → step so_far (p.key, p.value) ≡ None →
    Told known (λ s. read_area area step first (of_area area s) ≡ Err (area, p.key))
told_bad None area step first so_far last p going is refused = tt
told_bad (Some s) area step first so_far last p going is refused =
    gone_bad area step first so_far last p (of_area area s) going is refused

pub told_through : {A : Type 0} (known : Option Store) (area : ℕ) (step : A → KeyValue → Option A) (first so_far : A)
    (last : List ℕ) → Told known (λ s. Going area step first so_far last (of_area area s)) →
    Told known (λ s. IsNext (of_area area s) last None) →
    Told known (λ s. read_area area step first (of_area area s) ≡ Ok so_far)
told_through None area step first so_far last going is = tt
told_through (Some s) area step first so_far last going is = gone_through area step first so_far last (of_area area s) going is

-- what the next call of a keeper that holds the same tells
pub told_now : (known now : Option Store) (P : Store → Type 0) → now ≡ known → Told now P → Told known P
told_now known now P same told = subst (λ k. Told k P) same told

-- ---- a key that is looked for

pub told_looked_first : (known : Option Store) (area : ℕ) (key : List ℕ) → Told known (λ s. IsTrue (is_store s)) →
    Told known (λ s. has_key key (of_area area s) ≡ has_key key (pairs_above [] (of_area area s)))
told_looked_first None area key store = tt
told_looked_first (Some s) area key store = ap (has_key key) (sym (all_first area s store))

pub told_looked_on : (known : Option Store) (area : ℕ) (key last : List ℕ) (p : Pair) →
    Told known (λ s. has_key key (of_area area s) ≡ has_key key (pairs_above last (of_area area s))) →
    Told known (λ s. IsNext (of_area area s) last (Some p)) → same_bytes p.key key ≡ false →
    Told known (λ s. has_key key (of_area area s) ≡ has_key key (pairs_above p.key (of_area area s)))
told_looked_on None area key last p so_far is other = tt
told_looked_on (Some s) area key last p so_far is other = looked_on key last p (of_area area s) so_far is other

pub told_looked_found : (known : Option Store) (area : ℕ) (key last : List ℕ) (p : Pair) →
    Told known (λ s. has_key key (of_area area s) ≡ has_key key (pairs_above last (of_area area s))) →
    Told known (λ s. IsNext (of_area area s) last (Some p)) → same_bytes p.key key ≡ true →
    Told known (λ s. true ≡ has_key key (of_area area s))
told_looked_found None area key last p so_far is same = tt
told_looked_found (Some s) area key last p so_far is same = sym (looked_found key last p (of_area area s) so_far is same)

pub told_looked_through : (known : Option Store) (area : ℕ) (key last : List ℕ) →
    Told known (λ s. has_key key (of_area area s) ≡ has_key key (pairs_above last (of_area area s))) →
    Told known (λ s. IsNext (of_area area s) last None) → Told known (λ s. false ≡ has_key key (of_area area s))
told_looked_through None area key last so_far is = tt
told_looked_through (Some s) area key last so_far is = sym (looked_through key last (of_area area s) so_far is)

-- ---- the answers of calls, where the keeper holds what it held

pub told_all : (known : Option Store) (P : Store → Type 0) → ((s : Store) → P s) → Told known P
told_all None P all = tt
told_all (Some s) P all = all s

pub told_start : {A : Type 0} (known : Option Store) (area : ℕ) (step : A → KeyValue → Option A) (first so_far : A)
    (last : List ℕ) → last ≡ [] → so_far ≡ first → Told known (λ s. IsTrue (is_store s)) →
    Told known (λ s. Going area step first so_far last (of_area area s))
told_start None area step first so_far last none same store = tt
told_start (Some s) area step first so_far last none same store =
    going_first area step first s store
    ∙ (λ i. read_area area step (sym same i) (pairs_above (sym none i) (of_area area s)))

pub told_looked_start : (known : Option Store) (area : ℕ) (key last : List ℕ) → last ≡ [] →
    Told known (λ s. IsTrue (is_store s)) →
    Told known (λ s. has_key key (of_area area s) ≡ has_key key (pairs_above last (of_area area s)))
told_looked_start None area key last none store = tt
told_looked_start (Some s) area key last none store =
    ap (has_key key) (sym (all_first area s store)) ∙ ap (λ k. has_key key (pairs_above k (of_area area s))) (sym none)

pub told_next : (known now : Option Store) (area : ℕ) (last : List ℕ) (found o : Option Pair) → now ≡ known → found ≡ o →
    Told now (λ s. GivesNext (of_area area s) last (Ok found)) → Told known (λ s. IsNext (of_area area s) last o)
told_next known now area last found o same is told =
    subst (λ (x : Option Pair). Told known (λ s. IsNext (of_area area s) last x)) is
    (subst (λ (k : Option Store). Told k (λ s. IsNext (of_area area s) last found)) same told)

-- the same of the first pair
pub told_head : (known now : Option Store) (area : ℕ) (last : List ℕ) (found o : Option Pair) → now ≡ known → last ≡ [] →
    found ≡ o → Told now (λ s. GivesNext (of_area area s) last (Ok found)) → Told known (λ s. IsNext (of_area area s) [] o)
told_head known now area last found o same none is told =
    subst (λ (k : List ℕ). Told known (λ s. IsNext (of_area area s) k o)) none
    (told_next known now area last found o same is told)

pub lies_next : (last : List ℕ) (found : Option Pair) (p : Pair) → found ≡ Some p → LiesAbove last found →
    is_above last p.key ≡ true
lies_next last found p is up = subst (LiesAbove last) is up

none_bad_at : (known : Option Store) (area : ℕ) (last : List ℕ) (f : LoadFault) (P : Store → LoadFault → Type 0) →
    ((s : Store) → P s faults.KeeperFault) → ((s : Store) → P s faults.Memory) →
    Told known (λ s. GivesNext (of_area area s) last (Err f)) → Told known (λ s. P s f)
none_bad_at None area last f P x y told = tt
none_bad_at (Some s) area last (faults.BadKeeper a k) P x y told = absurd told
none_bad_at (Some s) area last faults.KeeperFault P x y told = x s
none_bad_at (Some s) area last faults.Memory P x y told = y s

-- a call that gave no pair was no bad key
pub none_bad : (known now : Option Store) (area : ℕ) (last : List ℕ) (f : LoadFault) (P : Store → LoadFault → Type 0) →
    ((s : Store) → P s faults.KeeperFault) → ((s : Store) → P s faults.Memory) → now ≡ known →
    Told now (λ s. GivesNext (of_area area s) last (Err f)) → Told known (λ s. P s f)
none_bad known now area last f P x y same told =
    none_bad_at known area last f P x y (told_now known now (λ s. GivesNext (of_area area s) last (Err f)) same told)

no_key_at : (known : Option Store) (f : LoadFault) (P : Store → LoadFault → Type 0) →
    ((s : Store) → P s faults.KeeperFault) → ((s : Store) → P s faults.Memory) →
    Told known (λ s. OfBadKey f (λ area key. ⊥)) → Told known (λ s. P s f)
no_key_at None f P x y told = tt
no_key_at (Some s) (faults.BadKeeper a k) P x y told = absurd told
no_key_at (Some s) faults.KeeperFault P x y told = x s
no_key_at (Some s) faults.Memory P x y told = y s

pub no_key : (known now : Option Store) (f : LoadFault) (P : Store → LoadFault → Type 0) →
    ((s : Store) → P s faults.KeeperFault) → ((s : Store) → P s faults.Memory) → now ≡ known →
    Told now (λ s. OfBadKey f (λ area key. ⊥)) → Told known (λ s. P s f)
no_key known now f P x y same told = no_key_at known f P x y (told_now known now (λ s. OfBadKey f (λ area key. ⊥)) same told)
