-- Lemmas that tie std's ordered maps to the lists in which devices tell what they hold.
use Rattle.std.proofs.Common.{◌≡◌, ℕ, ◌<◌, List, [], ◌∷◌, Bool, true, false, cond, not, refl, sym, ap, arith, ◌∙◌, subst, ◌++◌, ◌+◌, take, drop, take-append-drop, map, filter, Some}
use Rattle.std.specs.Cmp.{ranked, unsigned_tied}
use Rattle.std.specs.Prelude.{◌==◌}
use Rattle.std.specs.declared.cmp.Ordering.{Ordering}
use Rattle.std.specs.declared.cmp.Ordering.TheVariants.{Less, Equal, Greater}
use Rattle.std.specs.Ordering.{nat_cmp, match_ordering, is_eq}
use Rattle.std.specs.BTreeMap.{insert_entry, is_at}
use Rattle.std.specs.Map.{lookup, remove_entry}
use Rattle.std.specs.List.{AllByRecursion}
use Rattle.std.specs.List.Sorted.{IsStrictlySortedBy}
use Rattle.std.specs.FinMap.Entries as entries
use Rattle.std.specs.FinMap.Entries.{by_order}
use Rattle.std.proofs.lemmas.List.{drop-drop}
use Rattle.std.proofs.lemmas.Bool.Decides.{nat_tests}
use Rattle.rl_ports.specs.Store.{without}

-- an insert puts the entry in its place
pub insert_entry-put : {K X : Type 0} (R : K → K → Ordering) (es : List (K × X)) (k : K) (v : X) →
    insert_entry R es k v ≡ entries.put R k v es
insert_entry-put R [] k v = refl
insert_entry-put R (e ∷ es) k v =
    elim (R k e.0) as (λ o. match_ordering o ((k, v) ∷ e ∷ es) ((e.0, v) ∷ es) (e ∷ insert_entry R es k v) ≡
    by_order o ((k, v) ∷ e ∷ es) ((e.0, v) ∷ es) (e ∷ entries.put R k v es)) [
      | Less ↦ refl
      | Equal ↦ refl
      | Greater ↦ ap (λ l. e ∷ l) (insert_entry-put R es k v)
    ]

-- a look-up finds the first entry of that key
pub lookup-find : {X : Type 0} (k : ℕ) (es : List (ℕ × X)) → lookup (is_at (nat_cmp k)) es ≡ entries.find nat_cmp k es
lookup-find k [] = refl
lookup-find k (e ∷ es) = ap (λ l. cond (is_eq (nat_cmp k e.0)) (Some e.1) l) (lookup-find k es)

turned : (a b : ℕ) → (a == b) ≡ (b == a)
turned a b = grind (arith, nat_tests)

not_less : (a b : ℕ) → nat_cmp a b ≡ Less → (b == a) ≡ false
not_less a b e = let below : a < b = ranked a b Less (sym e) in grind (arith, nat_tests)

-- no key of these is the one that is below them all
others : {X : Type 0} (id : ℕ) (es : List (ℕ × X)) → AllByRecursion (λ y. nat_cmp id y ≡ Less) (map (λ e. e.0) es) →
    filter (λ c. not (c.0 == id)) es ≡ es
others id [] h = refl
others id (e ∷ es) h = rw (not_less id e.0 h.0) (ap (λ l. e ∷ l) (others id es h.1))

same_key : (id x : ℕ) → is_at (nat_cmp id) x ≡ (x == id)
same_key id x = unsigned_tied id x ∙ turned id x

choose : (b : Bool) (id : ℕ) (e : ℕ × List ℕ) (es rest : List (ℕ × List ℕ)) → (e.0 == id) ≡ b →
    AllByRecursion (λ y. nat_cmp e.0 y ≡ Less) (map (λ c. c.0) es) → rest ≡ without id es
    → cond b es (e ∷ rest) ≡ cond (not b) (e ∷ without id es) (without id es)
choose true id e es rest is h ih =
    let same : e.0 ≡ id = grind (arith, nat_tests) in
    sym (others id es (subst (λ (k : ℕ). AllByRecursion (λ y. nat_cmp k y ≡ Less) (map (λ c. c.0) es)) same h))
choose false id e es rest is h ih = ap (λ l. e ∷ l) ih

-- in order, to remove the first entry of a key is to keep those of other keys
pub remove_entry-without : (id : ℕ) (es : List (ℕ × List ℕ)) → IsStrictlySortedBy nat_cmp (map (λ e. e.0) es) →
    remove_entry (is_at (nat_cmp id)) es ≡ without id es
unfolding IsStrictlySortedBy
remove_entry-without id [] h = refl
remove_entry-without id (e ∷ es) h = rw (same_key id e.0) (choose (e.0 == id) id e es _ refl h.0 (remove_entry-without id es h.1))

-- a read of n bytes takes them from the front of what is left
pub left-read : (bytes into : List ℕ) (at n : ℕ) → take n into ≡ take n (drop at bytes) →
    drop at bytes ≡ take n into ++ drop (at + n) bytes
left-read bytes into at n e = sym (rw (e, ← drop-drop n at bytes) (take-append-drop n (drop at bytes)))

pub ruleset maps = (insert_entry-put, lookup-find, remove_entry-without)

pub ruleset reads = (left-read)
