-- Lemmas on the pairs of a keeper: what an item leaves of them is in order, and the next pair is the first behind its place.
use Rattle.std.proofs.Common.{◌≡◌, ℕ, suc, zero, ◌<◌, ◌≤◌, List, [], ◌∷◌, drop, Bool, true, false, not, refl, sym, ap, ◌∙◌, subst, arith, None}
use Rattle.std.proofs.Math.Dec.{T}
use Rattle.std.specs.Prelude.{◌&&◌, ◌==◌, nat_eq}
use Rattle.std.specs.List.{list_all, remove, insert}
use Rattle.std.specs.declared.cmp.Ordering.{Ordering}
use Rattle.std.specs.declared.cmp.Ordering.TheVariants.{Less, Equal, Greater}
use Rattle.std.specs.Ordering.{is_lt, is_eq, nat_cmp, ordering_then, eq_by_cmp}
use Rattle.std.specs.Cmp.{IsTotalOrder, then_total, on_total, nat_cmp_total, ranked, unsigned_ties}
use Rattle.std.specs.Cmp.Lexicographic.{slice_cmp, pointwise, nat_list_cmp_total, texts_ties}
use Rattle.std.specs.FinMap.Entries as entries
use Rattle.std.proofs.lemmas.Bool.Decides.{nat_tests}
use Rattle.rl_ports.specs.Store.{Store, place_cmp, same_place, is_key, is_store, key_of, after_item, next_pair}
use Rattle.rl_ports.specs.declared.batch.Item.{Item}
use Rattle.rl_ports.specs.declared.batch.Item.TheVariants.{Put, Drop}
use Rattle.rl_mem.specs.Places.{IsSpot, IsFree, IsNext, first_is, first_in}
use Rattle.rl_mem.proofs.Places.{both, first, second, put-gap, put-without, dropped-there, dropped-missing, list_all-put, list_all-filter}

pub place_total : IsTotalOrder place_cmp
place_total = then_total (on_total (λ (p : ℕ × List ℕ). p.0) nat_cmp_total)
    (on_total (λ (p : ℕ × List ℕ). p.1) nat_list_cmp_total)

both_ties : (a b : Bool) (r s : Ordering) → a ≡ is_eq r → b ≡ is_eq s → (a && b) ≡ is_eq (ordering_then r s)
both_ties a b Less s p q = rw p refl
both_ties a b Equal s p q = rw p q
both_ties a b Greater s p q = rw p refl

pub place_ties : (p q : ℕ × List ℕ) → same_place p q ≡ eq_by_cmp place_cmp p q
place_ties p q = both_ties (p.0 == q.0) (pointwise nat_eq p.1 q.1) (nat_cmp p.0 q.0) (slice_cmp nat_cmp p.1 q.1)
    (unsigned_ties p.0 q.0) (texts_ties p.1 q.1)

eq_from : (t : Bool) (x y : ℕ) → (x == y) ≡ t → t ≡ true → x ≡ y
eq_from true x y is e = grind (arith, nat_tests)
eq_from false x y is e = cc

bytes_from : (xs ys : List ℕ) → pointwise nat_eq xs ys ≡ true → xs ≡ ys
bytes_from [] [] e = refl
bytes_from [] (y ∷ ys) e = cc
bytes_from (x ∷ xs) [] e = cc
bytes_from (x ∷ xs) (y ∷ ys) e =
    let head : x ≡ y = eq_from (x == y) x y refl (first (x == y) (pointwise nat_eq xs ys) e) in
    let tail : xs ≡ ys = bytes_from xs ys (second (x == y) (pointwise nat_eq xs ys) e) in
    cc

pub place_is : (p q : ℕ × List ℕ) → same_place p q ≡ true → p ≡ q
place_is p q e =
    let area : p.0 ≡ q.0 = eq_from (p.0 == q.0) p.0 q.0 refl (first _ _ e) in
    let key : p.1 ≡ q.1 = bytes_from p.1 q.1 (second _ _ e) in
    λ i. (area i, key i)

to_T : (b : Bool) → b ≡ true → T b
to_T b e = subst T (sym e) tt

from_T : (b : Bool) → T b → b ≡ true
from_T true t = refl
from_T false t = absurd t

-- an item that names a key keeps a store one

sorted-item : (item : Item) (s : Store) → entries.is_sorted place_cmp s ≡ true →
    entries.is_sorted place_cmp (after_item item s) ≡ true
sorted-item (Put area key value) s h = from_T _ (entries.is_sorted-put place_cmp place_total (area, key) value s (to_T _ h))
sorted-item (Drop area key) s h = from_T _ (entries.is_sorted-where_key place_cmp
    (λ p. not (same_place p (area, key))) s (to_T _ h))

keys-item : (item : Item) (s : Store) → is_key (key_of item) ≡ true →
    list_all (λ (e : (ℕ × List ℕ) × List ℕ). is_key e.0.1) s ≡ true
    → list_all (λ (e : (ℕ × List ℕ) × List ℕ). is_key e.0.1) (after_item item s) ≡ true
keys-item (Put area key value) s k h = list_all-put place_cmp (λ (p : ℕ × List ℕ). is_key p.1) (area, key) value s k h
keys-item (Drop area key) s k h = list_all-filter (λ (e : (ℕ × List ℕ) × List ℕ). is_key e.0.1)
    (λ e. not (same_place e.0 (area, key))) s h

pub is_store-item : (item : Item) (s : Store) → is_key (key_of item) ≡ true → is_store s ≡ true →
    is_store (after_item item s) ≡ true
is_store-item item s k h = both _ _ (sorted-item item s (first _ _ h)) (keys-item item s k (second _ _ h))

pub is_sorted-store : (s : Store) → is_store s ≡ true → entries.is_sorted place_cmp s ≡ true
is_sorted-store s h = first _ _ h

-- what stands in a list after the item is dropped or put

pub drop-there : (area i : ℕ) (key : List ℕ) (s : Store) → is_store s ≡ true → IsSpot place_cmp i (area, key) s →
    first_is (λ (e : (ℕ × List ℕ) × List ℕ). same_place e.0 (area, key)) (drop i s) ≡ true
    → (remove s i ≡ after_item (Drop area key) s) × IsFree place_cmp i (area, key) (remove s i)
drop-there area i key s h p t = dropped-there place_cmp place_total same_place place_ties place_is i (area, key) s
    (first _ _ h) p t

pub drop-missing : (area i : ℕ) (key : List ℕ) (s : Store) → is_store s ≡ true → IsSpot place_cmp i (area, key) s →
    first_is (λ (e : (ℕ × List ℕ) × List ℕ). same_place e.0 (area, key)) (drop i s) ≡ false
    → (s ≡ after_item (Drop area key) s) × IsFree place_cmp i (area, key) s
drop-missing area i key s h p t = dropped-missing place_cmp place_total same_place place_ties place_is i (area, key) s
    (first _ _ h) p t

pub put-dropped : (area i : ℕ) (key value : List ℕ) (s left : Store) → is_store s ≡ true → left ≡ after_item (Drop area key) s →
    IsFree place_cmp i (area, key) left
    → insert left i ((area, key), value) ≡ after_item (Put area key value) s
put-dropped area i key value s left h e g =
    sym (put-gap place_cmp place_total i (area, key) value left g)
    ∙ ap (λ (l : Store). entries.put place_cmp (area, key) value l) e
    ∙ put-without place_cmp place_total same_place place_ties place_is (area, key) value s (first _ _ h)

-- the next pair of an area

le_of_less : (r s : Ordering) (a b : ℕ) → r ≡ nat_cmp a b → is_lt (ordering_then r s) ≡ true → a ≤ b
le_of_less Less s a b e p = let lt : a < b = ranked a b Less e in omega arith
le_of_less Equal s a b e p = let same : a ≡ b = ranked a b Equal e in omega arith
le_of_less Greater s a b e p = cc

apart : (a b : ℕ) → a < b → (b == a) ≡ false
apart a b h = grind (arith, nat_tests)

none_past : (area : ℕ) (key : List ℕ) (e : (ℕ × List ℕ) × List ℕ) (s : Store) → area < e.0.0 →
    entries.below_all place_cmp e.0 s ≡ true → next_pair area key s ≡ None
none_past area key e [] h b = refl
none_past area key e (f ∷ s) h b =
    let later : e.0.0 ≤ f.0.0 = le_of_less (nat_cmp e.0.0 f.0.0) (slice_cmp nat_cmp e.0.1 f.0.1) e.0.0 f.0.0 refl (first _ _ b) in
    let other : (f.0.0 == area) ≡ false = apart area f.0.0 (omega arith) in
    rw other (none_past area key e s h (second _ _ b))

first_step : (r : Ordering) (area : ℕ) (key : List ℕ) (e : (ℕ × List ℕ) × List ℕ) (s : Store) → r ≡ nat_cmp area e.0.0 →
    is_lt (ordering_then r (slice_cmp nat_cmp key e.0.1)) ≡ true
    → entries.below_all place_cmp e.0 s ≡ true → next_pair area key (e ∷ s) ≡ first_in area (e ∷ s)
first_step Less area key e s is p b =
    let lt : area < e.0.0 = ranked area e.0.0 Less is in
    let other : (e.0.0 == area) ≡ false = apart area e.0.0 lt in
    rw other (none_past area key e s lt b)
first_step Equal area key e s is p b =
    let same : area ≡ e.0.0 = ranked area e.0.0 Equal is in
    let like : (e.0.0 == area) ≡ true = grind (arith, nat_tests) in
    rw (like, p) refl
first_step Greater area key e s is p b = cc

later_step : (r : Ordering) (area : ℕ) (key : List ℕ) (e : (ℕ × List ℕ) × List ℕ) (s : Store) → r ≡ nat_cmp area e.0.0 →
    is_lt (ordering_then r (slice_cmp nat_cmp key e.0.1)) ≡ false
    → next_pair area key (e ∷ s) ≡ next_pair area key s
later_step Less area key e s is p = cc
later_step Equal area key e s is p =
    let same : area ≡ e.0.0 = ranked area e.0.0 Equal is in
    let like : (e.0.0 == area) ≡ true = grind (arith, nat_tests) in
    rw (like, p) refl
later_step Greater area key e s is p =
    let lt : e.0.0 < area = ranked area e.0.0 Greater is in
    let other : (e.0.0 == area) ≡ false = grind (arith, nat_tests) in
    rw other refl

next_at : (i : ℕ) (area : ℕ) (key : List ℕ) (s : Store) → entries.is_sorted place_cmp s ≡ true →
    IsNext place_cmp i (area, key) s → next_pair area key s ≡ first_in area (drop i s)
next_at zero area key [] h p = refl
next_at (suc i) area key [] h p = absurd p
next_at zero area key (e ∷ s) h p = first_step (nat_cmp area e.0.0) area key e s refl p (first _ _ h)
next_at (suc i) area key (e ∷ s) h p =
    later_step (nat_cmp area e.0.0) area key e s refl p.0 ∙ next_at i area key s (second _ _ h) p.1

pub next_pair-at : (i : ℕ) (area : ℕ) (key : List ℕ) (s : Store) → is_store s ≡ true → IsNext place_cmp i (area, key) s →
    next_pair area key s ≡ first_in area (drop i s)
next_pair-at i area key s h p = next_at i area key s (first _ _ h) p
