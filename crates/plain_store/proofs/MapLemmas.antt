-- A map's entries in the words of two modules: those of the maps, and those of lists in the order of their keys.
use Rattle.std.proofs.Common.{◌≡◌, ℕ, ◌==◌, List, [], ◌∷◌, ◌++◌, refl, sym, ap, ◌∙◌, Bool, true, false, cond, not, subst, append_assoc, Result, Ok, Err, OnErr, Some, ◌&&◌, arith, unwrap_or}
use Rattle.std.specs.declared.cmp.Ordering.{Ordering}
use Rattle.std.specs.declared.cmp.Ordering.TheVariants.{Less, Equal, Greater}
use Rattle.std.specs.Ordering.{eq_by_cmp, is_eq, is_lt, match_ordering, ordering_reverse, nat_cmp}
use Rattle.std.specs.Cmp.{IsTotalOrder, eq_by_cmp_equiv}
use Rattle.std.specs.List.{AllByRecursion}
use Rattle.std.specs.List.Sorted.{IsStrictlySortedBy}
use Rattle.std.specs.Map.{lookup, remove_entry, keys_of}
use Rattle.std.specs.BTreeMap.{insert_entry, is_at}
use Rattle.std.specs.FinMap.Entries as entries
use Rattle.std.specs.FinMap.Entries.{by_order}
use Rattle.std.proofs.lemmas.Map.{NonePasses}
use Rattle.std.proofs.lemmas.Map.Keys.{sorted_head, sorted_tail, IsDistinct-from_sorted}
use Rattle.std.proofs.lemmas.Map.Entries.{none_past_head}
use Rattle.std.proofs.lemmas.Bool.Decides.{nat_tests}
use Rattle.redo_spec.specs.Tables.{RowsById, rows_by}

pub both_true : (a b : Bool) → a ≡ true → b ≡ true → (a && b) ≡ true
both_true true b p q = q
both_true false b p q = absurd (cc)

pub less_is : (o : Ordering) → is_lt o ≡ true → o ≡ Less
less_is Less e = refl
less_is Equal e = absurd (cc)
less_is Greater e = absurd (cc)

pub left_true : (a b : Bool) → (a && b) ≡ true → a ≡ true
left_true true b e = refl
left_true false b e = absurd (cc)

pub right_true : (a b : Bool) → (a && b) ≡ true → b ≡ true
right_true true b e = e
right_true false b e = absurd (cc)

greater_from : {K : Type 0} (cmp : K → K → Ordering) → IsTotalOrder cmp → (x k : K) → cmp x k ≡ Less → cmp k x ≡ Greater
greater_from cmp o x k is = o.antisymm k x ∙ ap ordering_reverse is

pub on_err : {A E P : Type 0} (r : Result A E) → P → OnErr r P
on_err (Ok x) p = tt
on_err (Err e) p = p

module _ {K X : Type 0} (cmp : K → K → Ordering) where
  pub find_is_lookup : (q : K) (es : List (K × X)) → lookup (is_at (cmp q)) es ≡ entries.find cmp q es
  find_is_lookup q [] = refl
  find_is_lookup q (e ∷ es) = ap (λ o. cond (eq_by_cmp cmp q e.0) (Some e.1) o) (find_is_lookup q es)

  pub put_is_insert : (k : K) (v : X) (es : List (K × X)) → insert_entry cmp es k v ≡ entries.put cmp k v es
  put_is_insert k v [] = refl
  put_is_insert k v (e ∷ es) =
      elim (cmp k e.0) as (λ o. match_ordering o ((k, v) ∷ e ∷ es) ((e.0, v) ∷ es) (e ∷ insert_entry cmp es k v) ≡
      by_order o ((k, v) ∷ e ∷ es) ((e.0, v) ∷ es) (e ∷ entries.put cmp k v es)) [
        | Less ↦ refl
        | Equal ↦ refl
        | Greater ↦ ap (λ rest. e ∷ rest) (put_is_insert k v es)
      ]

  -- the first key is below the others
  below_from_sorted : (x : K) (es : List (K × X)) → AllByRecursion (λ y. cmp x y ≡ Less) (keys_of es) →
      entries.below_all cmp x es ≡ true
  below_from_sorted x [] h = refl
  below_from_sorted x (e ∷ es) h = both_true _ _ (ap is_lt h.0) (below_from_sorted x es h.1)

  pub sorted_is : (es : List (K × X)) → IsStrictlySortedBy cmp (keys_of es) → entries.is_sorted cmp es ≡ true
  sorted_is [] h = refl
  sorted_is (e ∷ es) h = both_true _ _ (below_from_sorted e.0 es (sorted_head cmp e.0 (keys_of es) h))
      (sorted_is es (sorted_tail cmp e.0 (keys_of es) h))

  below_is : (x : K) (es : List (K × X)) → entries.below_all cmp x es ≡ true → AllByRecursion (λ y. cmp x y ≡ Less) (keys_of es)
  below_is x [] h = tt
  below_is x (e ∷ es) h = (
    less_is (cmp x e.0) (left_true (is_lt (cmp x e.0)) _ h),
    below_is x es (right_true (is_lt (cmp x e.0)) _ h),
  )

  pub is_sorted_by : (es : List (K × X)) → entries.is_sorted cmp es ≡ true → IsStrictlySortedBy cmp (keys_of es)
  unfolding IsStrictlySortedBy
  is_sorted_by [] h = tt
  is_sorted_by (e ∷ es) h = (
    below_is e.0 es (left_true (entries.below_all cmp e.0 es) _ h),
    is_sorted_by es (right_true (entries.below_all cmp e.0 es) _ h),
  )

  none_left : (p : K → Bool) (es : List (K × X)) → NonePasses p es → entries.where_key cmp (λ k. not (p k)) es ≡ es
  none_left p [] h = refl
  none_left p (e ∷ es) h = ap (λ b. cond (not b) (e ∷ entries.where_key cmp (λ k. not (p k)) es)
      (entries.where_key cmp (λ k. not (p k)) es)) h.0 ∙ ap (λ rest. e ∷ rest) (none_left p es h.1)

  module _ (o : IsTotalOrder cmp) where
    -- without the one entry of a key
    pub where_is_remove : (q : K) (es : List (K × X)) → IsStrictlySortedBy cmp (keys_of es) →
        remove_entry (is_at (cmp q)) es ≡ entries.where_key cmp (λ k. not (eq_by_cmp cmp q k)) es
    where_is_remove q [] h = refl
    where_is_remove q (e ∷ es) h =
        let left = entries.where_key cmp (λ k. not (eq_by_cmp cmp q k)) es in
        elim (eq_by_cmp cmp q e.0) as (λ b. eq_by_cmp cmp q e.0 ≡ b →
        cond b es (e ∷ remove_entry (is_at (cmp q)) es) ≡ cond (not b) (e ∷ left) left) [
          | true ↦ λ is. sym (none_left (eq_by_cmp cmp q) es
              (none_past_head (eq_by_cmp_equiv o) q e es (IsDistinct-from_sorted cmp (keys_of (e ∷ es)) h) is))
          | false ↦ λ is. ap (λ rest. e ∷ rest) (where_is_remove q es (sorted_tail cmp e.0 (keys_of es) h))
        ] refl

    -- an entry that comes last
    pub insert_last : (es fs : List (K × X)) (k : K) (v : X) → IsStrictlySortedBy cmp (keys_of (es ++ (k, v) ∷ fs)) →
        insert_entry cmp es k v ≡ es ++ (k, v) ∷ []
    insert_last [] fs k v h = refl
    insert_last (e ∷ es) fs k v h =
        ap (λ r. match_ordering r ((k, v) ∷ e ∷ es) ((e.0, v) ∷ es) (e ∷ insert_entry cmp es k v))
        (greater_from cmp o e.0 k (last_below e.0 es fs k v (sorted_head cmp e.0 (keys_of (es ++ (k, v) ∷ fs)) h)))
        ∙ ap (λ rest. e ∷ rest) (insert_last es fs k v (sorted_tail cmp e.0 (keys_of (es ++ (k, v) ∷ fs)) h))
      where
        last_below : (x : K) (es fs : List (K × X)) (k : K) (v : X) →
            AllByRecursion (λ y. cmp x y ≡ Less) (keys_of (es ++ (k, v) ∷ fs)) → cmp x k ≡ Less
        last_below x [] fs k v h = h.0
        last_below x (e ∷ es) fs k v h = last_below x es fs k v h.1

    -- one more entry of a copy that goes from the first entry to the last
    pub copied_more : (all es it rest new : List (K × X)) (k : K) (v : X) → es ++ it ≡ all → it ≡ (k, v) ∷ rest →
        IsStrictlySortedBy cmp (keys_of all) → new ≡ entries.put cmp k v es → new ++ rest ≡ all
    copied_more all es it rest new k v are steps h is =
        let whole : es ++ (k, v) ∷ rest ≡ all = ap (λ t. es ++ t) (sym steps) ∙ are in
        let sorted : IsStrictlySortedBy cmp (keys_of (es ++ (k, v) ∷ rest)) =
        subst (λ (xs : List (K × X)). IsStrictlySortedBy cmp (keys_of xs)) (sym whole) h in
        ap (λ xs. xs ++ rest) (is ∙ sym (put_is_insert k v es) ∙ insert_last es rest k v sorted) ∙
        append_assoc es ((k, v) ∷ []) rest ∙ whole

-- ---- rows of a table by its id

same_id : (i id : ℕ) → (i == id) ≡ is_eq (nat_cmp id i)
same_id i id = grind (arith, nat_tests)

pub rows_by_is : (by : RowsById) (id : ℕ) → rows_by by id ≡ unwrap_or (lookup (is_at (nat_cmp id)) by) []
rows_by_is [] id = refl
rows_by_is ((i, rows) ∷ more) id =
    ap (λ b. cond b rows (rows_by more id)) (same_id i id)
    ∙ elim (is_eq (nat_cmp id i)) as (λ b. cond b rows (rows_by more id) ≡
    unwrap_or (cond b (Some rows) (lookup (is_at (nat_cmp id)) more)) []) [
      | true ↦ refl
      | false ↦ rows_by_is more id
    ]
