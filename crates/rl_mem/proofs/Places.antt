-- Lemmas on lists in order of their keys: where a key stands, and what is there after an entry is put or dropped.
use Rattle.std.proofs.Common.{◌≡◌, ℕ, suc, zero, ◌<◌, ◌≤◌, List, [], ◌∷◌, length, drop, Bool, true, false, cond, not, refl, sym, ap, ◌∙◌, subst, arith, get_or, filter}
use Rattle.std.specs.Prelude.{◌&&◌, nat_lt}
use Rattle.std.specs.List.{insert, remove, list_all}
use Rattle.std.specs.List.Sorted.{IsPartitionedBy, IsPartitionPoint}
use Rattle.std.specs.declared.cmp.Ordering.{Ordering}
use Rattle.std.specs.declared.cmp.Ordering.TheVariants.{Less, Equal, Greater}
use Rattle.std.specs.Ordering.{is_lt, is_eq, ordering_reverse, eq_by_cmp}
use Rattle.std.specs.Cmp.{IsTotalOrder}
use Rattle.std.specs.FinMap.Entries as entries
use Rattle.std.specs.FinMap.Entries.{by_order}
use Rattle.std.proofs.lemmas.Bool.Decides.{nat_tests}
use Rattle.rl_mem.specs.Places.{IsSpot, IsFree, IsNext, first_is}

pub both : (a b : Bool) → a ≡ true → b ≡ true → (a && b) ≡ true
both true b p q = q
both false b p q = p

pub first : (a b : Bool) → (a && b) ≡ true → a ≡ true
first true b p = refl
first false b p = p

pub second : (a b : Bool) → (a && b) ≡ true → b ≡ true
second true b p = p
second false b p = cc

less : (r : Ordering) → is_lt r ≡ true → r ≡ Less
less Less p = refl
less Equal p = cc
less Greater p = cc

-- of an order and the one the other way round
greater : (r s : Ordering) → r ≡ ordering_reverse s → is_lt s ≡ true → r ≡ Greater
greater r Less e p = e
greater r Equal e p = cc
greater r Greater e p = cc

less_else : (r s : Ordering) → r ≡ ordering_reverse s → is_lt s ≡ false → is_eq s ≡ false → r ≡ Less
less_else r Less e p q = cc
less_else r Equal e p q = cc
less_else r Greater e p q = e

unlike_less : (s : Ordering) → is_lt s ≡ true → is_eq s ≡ false
unlike_less Less p = refl
unlike_less Equal p = cc
unlike_less Greater p = cc

unlike_greater : (r s : Ordering) → s ≡ ordering_reverse r → r ≡ Less → is_eq s ≡ false
unlike_greater r s e p = rw (e, p) refl

unlike_turned : (r s : Ordering) → s ≡ ordering_reverse r → r ≡ Greater → is_eq s ≡ false
unlike_turned r s e h = rw (e, h) refl

equal : (r : Ordering) → is_eq r ≡ true → r ≡ Equal
equal Less p = cc
equal Equal p = refl
equal Greater p = cc

turned : (r s : Ordering) → s ≡ ordering_reverse r → r ≡ Equal → s ≡ Equal
turned r s e h = rw (e, h) refl

is_less : (r : Ordering) → r ≡ Less → is_lt r ≡ true
is_less r p = rw p refl

le_cases : (t : Bool) (i j : ℕ) → nat_lt i j ≡ t → i ≤ j → (P : Type 0) → (i ≡ j → P) → (i < j → P) → P
le_cases true i j is h P e l = l (grind (arith, nat_tests))
le_cases false i j is h P e l = e (grind (arith, nat_tests))

not_above : (b : Bool) → (b ≡ true → ⊥) → not b ≡ true
not_above true h = absurd (h refl)
not_above false h = refl

above_not : (b : Bool) → b ≡ true → not b ≡ true → ⊥
above_not true p q = cc
above_not false p q = cc

unnot : (b c : Bool) → not b ≡ c → b ≡ not c
unnot true c p = cc
unnot false c p = rw (sym p) refl

module _ {K X : Type 0} (R : K → K → Ordering) (o : IsTotalOrder R) where
  -- lists in order

  below_at : (k : K) (es : List (K × X)) (j : ℕ) (d : K × X) → entries.below_all R k es ≡ true → j < length es →
      R k (get_or es j d).0 ≡ Less
  below_at k [] j d b lt = absurd (omega arith)
  below_at k (e ∷ es) zero d b lt = less (R k e.0) (first _ _ b)
  below_at k (e ∷ es) (suc j) d b lt = below_at k es j d (second _ _ b) (omega arith)

  later_at : (es : List (K × X)) (i j : ℕ) (d : K × X) → entries.is_sorted R es ≡ true → i < j → j < length es →
      R (get_or es i d).0 (get_or es j d).0 ≡ Less
  later_at [] i j d s h lt = absurd (omega arith)
  later_at (e ∷ es) i zero d s h lt = absurd (omega arith)
  later_at (e ∷ es) zero (suc j) d s h lt = below_at e.0 es j d (first _ _ s) (omega arith)
  later_at (e ∷ es) (suc i) (suc j) d s h lt = later_at es i j d (second _ _ s) (omega arith) (omega arith)

  below_less : (k x : K) (es : List (K × X)) → R k x ≡ Less → entries.below_all R x es ≡ true → entries.below_all R k es ≡ true
  below_less k x [] h b = refl
  below_less k x (e ∷ es) h b =
      both _ _ (is_less _ (o.trans k x e.0 h (less _ (first _ _ b)))) (below_less k x es h (second _ _ b))

  below_same : (k x : K) (es : List (K × X)) → R x k ≡ Equal → entries.below_all R x es ≡ true → entries.below_all R k es ≡ true
  below_same k x [] h b = refl
  below_same k x (e ∷ es) h b =
      both _ _ (is_less _ (sym (o.congr x k e.0 h) ∙ less _ (first _ _ b))) (below_same k x es h (second _ _ b))

  -- the two tests by which a list is halved

  pub parted_below : (es : List (K × X)) (k : K) → entries.is_sorted R es ≡ true →
      IsPartitionedBy (λ (e : K × X). is_lt (R e.0 k)) es
  parted_below es k s i j d h lt p =
      le_cases (nat_lt i j) i j refl h (is_lt (R (get_or es i d).0 k) ≡ true)
      (λ e. subst (λ (n : ℕ). is_lt (R (get_or es n d).0 k) ≡ true) (sym e) p)
      (λ l. is_less _ (o.trans (get_or es i d).0 (get_or es j d).0 k (later_at es i j d s l lt) (less _ p)))

  pub parted_upto : (es : List (K × X)) (k : K) → entries.is_sorted R es ≡ true →
      IsPartitionedBy (λ (e : K × X). not (is_lt (R k e.0))) es
  parted_upto es k s i j d h lt p =
      le_cases (nat_lt i j) i j refl h (not (is_lt (R k (get_or es i d).0)) ≡ true)
      (λ e. subst (λ (n : ℕ). not (is_lt (R k (get_or es n d).0)) ≡ true) (sym e) p)
      (λ l. not_above _ (λ a. above_not _ (is_less _ (o.trans k (get_or es i d).0 (get_or es j d).0 (less _ a)
      (later_at es i j d s l lt))) p))

  pub spot : (es : List (K × X)) (i : ℕ) (k : K) → i ≤ length es
      → IsPartitionPoint (λ (e : K × X). is_lt (R e.0 k) ≡ true) (λ e. is_lt (R e.0 k) ≡ false) es i → IsSpot R i k es
  spot [] zero k h p = tt
  spot [] (suc i) k h p = absurd (omega arith)
  spot (e ∷ es) zero k h p = p.1 0 e (omega arith) (omega arith)
  spot (e ∷ es) (suc i) k h p = (
    greater _ _ (o.antisymm k e.0) (p.0 0 e (omega arith) (omega arith)),
    spot es i k (omega arith) (
      λ j d low lt. p.0 (suc j) d (omega arith) (omega arith),
      λ j d low lt. p.1 (suc j) d (omega arith) (omega arith),
    ),
  )

  pub next : (es : List (K × X)) (i : ℕ) (k : K) → i ≤ length es
      → IsPartitionPoint (λ (e : K × X). not (is_lt (R k e.0)) ≡ true) (λ e. not (is_lt (R k e.0)) ≡ false) es i → IsNext R i k es
  next [] zero k h p = tt
  next [] (suc i) k h p = absurd (omega arith)
  next (e ∷ es) zero k h p = unnot _ false (p.1 0 e (omega arith) (omega arith))
  next (e ∷ es) (suc i) k h p = (
    unnot _ true (p.0 0 e (omega arith) (omega arith)),
    next es i k (omega arith) (
      λ j d low lt. p.0 (suc j) d (omega arith) (omega arith),
      λ j d low lt. p.1 (suc j) d (omega arith) (omega arith),
    ),
  )

  -- an entry is put where there is none of its key
  pub put-gap : (i : ℕ) (k : K) (v : X) (es : List (K × X)) → IsFree R i k es → entries.put R k v es ≡ insert es i (k, v)
  put-gap zero k v [] g = refl
  put-gap zero k v (e ∷ es) g = rw g refl
  put-gap (suc i) k v [] g = absurd g
  put-gap (suc i) k v (e ∷ es) g = rw (g.0) (ap (λ l. e ∷ l) (put-gap i k v es g.1))

  module _ (same : K → K → Bool) (ties : (x y : K) → same x y ≡ eq_by_cmp R x y) (is : (x y : K) → same x y ≡ true → x ≡ y) where
    others : (k : K) (es : List (K × X)) → entries.below_all R k es ≡ true → filter (λ (e : K × X). not (same e.0 k)) es ≡ es
    others k [] b = refl
    others k (e ∷ es) b =
        let unlike : same e.0 k ≡ false = ties e.0 k ∙ unlike_greater (R k e.0) (R e.0 k) (o.antisymm e.0 k)
        (less _ (first _ _ b)) in
        rw unlike (ap (λ l. e ∷ l) (others k es (second _ _ b)))

    below_head : (k : K) (e : K × X) (es : List (K × X)) → R k e.0 ≡ Less → entries.is_sorted R (e ∷ es) ≡ true →
        entries.below_all R k (e ∷ es) ≡ true
    below_head k e es h s = both _ _ (is_less _ h) (below_less k e.0 es h (first _ _ s))

    -- an entry is dropped where one of its key stands
    gap_after : (k : K) (es : List (K × X)) → entries.below_all R k es ≡ true → IsFree R zero k es
    gap_after k [] b = tt
    gap_after k (e ∷ es) b = less _ (first _ _ b)

    pub dropped-there : (i : ℕ) (k : K) (es : List (K × X)) → entries.is_sorted R es ≡ true → IsSpot R i k es →
        first_is (λ (e : K × X). same e.0 k) (drop i es) ≡ true
        → (remove es i ≡ filter (λ (e : K × X). not (same e.0 k)) es) × IsFree R i k (remove es i)
    dropped-there zero k [] s p t = cc
    dropped-there (suc i) k [] s p t = absurd p
    dropped-there zero k (e ∷ es) s p t =
        let b = below_same k e.0 es (equal _ (sym (ties e.0 k) ∙ t)) (first _ _ s) in
        (rw t (sym (others k es b)), gap_after k es b)
    dropped-there (suc i) k (e ∷ es) s p t =
        let unlike : same e.0 k ≡ false = ties e.0 k ∙ unlike_turned (R k e.0) (R e.0 k) (o.antisymm e.0 k) p.0 in
        let rest = dropped-there i k es (second _ _ s) p.1 t in
        (rw unlike (ap (λ l. e ∷ l) rest.0), (p.0, rest.1))

    pub dropped-missing : (i : ℕ) (k : K) (es : List (K × X)) → entries.is_sorted R es ≡ true → IsSpot R i k es →
        first_is (λ (e : K × X). same e.0 k) (drop i es) ≡ false
        → (es ≡ filter (λ (e : K × X). not (same e.0 k)) es) × IsFree R i k es
    dropped-missing zero k [] s p t = (refl, tt)
    dropped-missing (suc i) k [] s p t = absurd p
    dropped-missing zero k (e ∷ es) s p t =
        let h : R k e.0 ≡ Less = less_else _ _ (o.antisymm k e.0) p (sym (ties e.0 k) ∙ t) in
        (sym (others k (e ∷ es) (below_head k e es h s)), h)
    dropped-missing (suc i) k (e ∷ es) s p t =
        let unlike : same e.0 k ≡ false = ties e.0 k ∙ unlike_turned (R k e.0) (R e.0 k) (o.antisymm e.0 k) p.0 in
        let rest = dropped-missing i k es (second _ _ s) p.1 t in
        (rw unlike (ap (λ l. e ∷ l) rest.0), (p.0, rest.1))

    put-first : (k : K) (v : X) (es : List (K × X)) → entries.below_all R k es ≡ true → entries.put R k v es ≡ (k, v) ∷ es
    put-first k v [] b = refl
    put-first k v (e ∷ es) b = let h : R k e.0 ≡ Less = less _ (first _ _ b) in rw h refl

    put_step : (r : Ordering) (k : K) (v : X) (e : K × X) (es : List (K × X)) → R k e.0 ≡ r → entries.is_sorted R (e ∷ es) ≡ true
        → entries.put R k v (filter (λ (e : K × X). not (same e.0 k)) es) ≡ entries.put R k v es
        → entries.put R k v (filter (λ (e : K × X). not (same e.0 k)) (e ∷ es)) ≡
        by_order r ((k, v) ∷ e ∷ es) ((e.0, v) ∷ es) (e ∷ entries.put R k v es)
    put_step Less k v e es h s ih =
        let all : filter (λ (e : K × X). not (same e.0 k)) (e ∷ es) ≡ e ∷ es = others k (e ∷ es) (below_head k e es h s) in
        ap (λ l. entries.put R k v l) all ∙ ap (λ r. by_order r ((k, v) ∷ e ∷ es) ((e.0, v) ∷ es) (e ∷ entries.put R k v es)) h
    put_step Equal k v e es h s ih =
        let back : R e.0 k ≡ Equal = turned (R k e.0) (R e.0 k) (o.antisymm e.0 k) h in
        let like : same e.0 k ≡ true = ties e.0 k ∙ ap is_eq back in
        let b = below_same k e.0 es back (first _ _ s) in
        rw like (ap (λ l. entries.put R k v l) (others k es b) ∙ put-first k v es b ∙
        ap (λ (q : K). (q, v) ∷ es) (sym (is e.0 k like)))
    put_step Greater k v e es h s ih =
        let unlike : same e.0 k ≡ false = ties e.0 k ∙ unlike_turned (R k e.0) (R e.0 k) (o.antisymm e.0 k) h in
        rw (unlike, h) (ap (λ l. e ∷ l) ih)

    -- to put an entry is to drop the one of its key before
    pub put-without : (k : K) (v : X) (es : List (K × X)) → entries.is_sorted R es ≡ true
        → entries.put R k v (filter (λ (e : K × X). not (same e.0 k)) es) ≡ entries.put R k v es
    put-without k v [] s = refl
    put-without k v (e ∷ es) s = put_step (R k e.0) k v e es refl s (put-without k v es (second _ _ s))

-- a test of keys

put_test : {K X : Type 0} (R : K → K → Ordering) (test : K → Bool) (r : Ordering) (k : K) (v : X) (e : K × X) (es : List (K × X))
    → test k ≡ true → test e.0 ≡ true
    → list_all (λ (e : K × X). test e.0) es ≡ true → list_all (λ (e : K × X). test e.0) (entries.put R k v es) ≡ true
    → list_all (λ (e : K × X). test e.0) (by_order r ((k, v) ∷ e ∷ es) ((e.0, v) ∷ es) (e ∷ entries.put R k v es)) ≡ true
put_test R test Less k v e es hk he hes ih = both _ _ hk (both _ _ he hes)
put_test R test Equal k v e es hk he hes ih = both _ _ he hes
put_test R test Greater k v e es hk he hes ih = both _ _ he ih

pub list_all-put : {K X : Type 0} (R : K → K → Ordering) (test : K → Bool) (k : K) (v : X) (es : List (K × X)) → test k ≡ true →
    list_all (λ (e : K × X). test e.0) es ≡ true
    → list_all (λ (e : K × X). test e.0) (entries.put R k v es) ≡ true
list_all-put R test k v [] hk h = both _ _ hk refl
list_all-put R test k v (e ∷ es) hk h =
    put_test R test (R k e.0) k v e es hk (first _ _ h) (second _ _ h) (list_all-put R test k v es hk (second _ _ h))

filter_test : {X : Type 0} (test kept : X → Bool) (b : Bool) (x : X) (xs : List X) → test x ≡ true →
    list_all test (filter kept xs) ≡ true → list_all test (cond b (x ∷ filter kept xs) (filter kept xs)) ≡ true
filter_test test kept true x xs h ih = both _ _ h ih
filter_test test kept false x xs h ih = ih

pub list_all-filter : {X : Type 0} (test kept : X → Bool) (xs : List X) → list_all test xs ≡ true →
    list_all test (filter kept xs) ≡ true
list_all-filter test kept [] h = refl
list_all-filter test kept (x ∷ xs) h = filter_test test kept (kept x) x xs (first _ _ h)
    (list_all-filter test kept xs (second _ _ h))
