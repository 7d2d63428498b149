-- The surviving changes of open transactions, vector by vector: beside the standing, and beside the history.
use Rattle.std.proofs.Common.{◌≡◌, ℕ, ◌==◌, List, [], refl, sym, ap, ◌∙◌, subst, Bool, true, false, cond, not, ◌&&◌, T, Option, Some, None, is_some, arith}
use Rattle.std.specs.declared.cmp.Ordering.{Ordering}
use Rattle.std.specs.declared.cmp.Ordering.TheVariants.{Less, Equal, Greater}
use Rattle.std.specs.Ordering.{nat_cmp, is_eq, ordering_then, eq_by_cmp}
use Rattle.std.specs.Cmp.{eq_by_cmp_equiv}
use Rattle.std.specs.List.Sorted.{IsStrictlySortedBy}
use Rattle.std.specs.Option.{option_map}
use Rattle.std.specs.Map.{keys_of}
use Rattle.std.specs.BTreeMap.{is_at}
use Rattle.std.specs.FinMap.Entries as entries
use Rattle.std.proofs.lemmas.Bool.Decides.{nat_tests}
use Rattle.std.proofs.lemmas.Map.{keys-set_value, lookup-set_value, lookup-remove_entry}
use Rattle.std.proofs.lemmas.Map.Keys.{IsDistinct-from_sorted}
use Rattle.rl_value.specs.Order.{xid_cmp, xid_total}
use Rattle.rl_value.specs.declared.xid.Xid.{Xid}
use Rattle.redo_spec.specs.History.{Placed, same_xid}
use Rattle.primary.specs.Progress.{OpenChanges, changes_of, with_opened, without_closed, with_changes}
use Rattle.plain_store.proofs.MapLemmas.{find_is_lookup, put_is_insert, sorted_is, is_sorted_by, where_is_remove, left_true, right_true}

-- a test that holds, in two words
is_true : (b : Bool) → T b → b ≡ true
is_true true h = refl
is_true false h = absurd h

holds : (b : Bool) → b ≡ true → T b
holds b e = subst T (sym e) tt

-- ---- transaction ids

tied_then : (o p : Ordering) → is_eq (ordering_then o p) ≡ (is_eq o && is_eq p)
tied_then Less p = refl
tied_then Equal p = refl
tied_then Greater p = refl

tied_number : (a b : ℕ) → is_eq (nat_cmp a b) ≡ (a == b)
tied_number a b = grind (arith, nat_tests)

and_assoc : (a b c : Bool) → (a && (b && c)) ≡ ((a && b) && c)
and_assoc true b c = refl
and_assoc false b c = refl

-- two ids tie where they are the same
pub tied_same : (x y : Xid) → is_eq (xid_cmp x y) ≡ same_xid x y
tied_same x y =
    tied_then (nat_cmp x.usn y.usn) (ordering_then (nat_cmp x.slot y.slot) (nat_cmp x.sqn y.sqn))
    ∙ ap (λ b. is_eq (nat_cmp x.usn y.usn) && b) (tied_then (nat_cmp x.slot y.slot) (nat_cmp x.sqn y.sqn))
    ∙ (λ i. tied_number x.usn y.usn i && (tied_number x.slot y.slot i && tied_number x.sqn y.sqn i))
    ∙ and_assoc (x.usn == y.usn) (x.slot == y.slot) (x.sqn == y.sqn)

equal_numbers : (a b : ℕ) → (a == b) ≡ true → a ≡ b
equal_numbers a b e = grind (arith, nat_tests)

same_number : (n : ℕ) → (n == n) ≡ true
same_number n = grind (arith, nat_tests)

pub same_are : (x y : Xid) → same_xid x y ≡ true → x ≡ y
same_are x y e =
    let front = left_true ((x.usn == y.usn) && (x.slot == y.slot)) (x.sqn == y.sqn) e in
    let usn = equal_numbers x.usn y.usn (left_true (x.usn == y.usn) (x.slot == y.slot) front) in
    let slot = equal_numbers x.slot y.slot (right_true (x.usn == y.usn) (x.slot == y.slot) front) in
    let sqn = equal_numbers x.sqn y.sqn (right_true ((x.usn == y.usn) && (x.slot == y.slot)) (x.sqn == y.sqn) e) in
    λ i. record { usn = usn i; slot = slot i; sqn = sqn i }

pub same_self : (x : Xid) → same_xid x x ≡ true
same_self x = λ i. same_number x.usn i && same_number x.slot i && same_number x.sqn i

-- ---- the map of changes

pub find_changes : (y : Xid) (live : OpenChanges) → changes_of y live ≡ entries.find xid_cmp y live
find_changes y live = find_is_lookup xid_cmp y live

pub opened_changes : (x y : Xid) (live : OpenChanges) → changes_of y (with_opened x live) ≡
    cond (same_xid y x) (Some []) (changes_of y live)
opened_changes x y live =
    ap (changes_of y) (put_is_insert xid_cmp x [] live)
    ∙ find_changes y (entries.put xid_cmp x [] live)
    ∙ entries.find-put xid_cmp xid_total y x [] live
    ∙ ap (λ b. cond b (Some []) (entries.find xid_cmp y live)) (tied_same y x)
    ∙ ap (λ o. cond (same_xid y x) (Some []) o) (sym (find_changes y live))

one_key : (x a b : Xid) → is_at (xid_cmp x) a ≡ true → is_at (xid_cmp x) b ≡ eq_by_cmp xid_cmp a b
one_key x a b e = (eq_by_cmp_equiv xid_total).congr x a b e

pub closed_changes : (x y : Xid) (live : OpenChanges) → IsStrictlySortedBy xid_cmp (keys_of live) →
    changes_of y (without_closed x live) ≡ cond (same_xid x y) None (changes_of y live)
closed_changes x y live h =
    lookup-remove_entry (eq_by_cmp_equiv xid_total) (is_at (xid_cmp x)) (one_key x) y live
    (IsDistinct-from_sorted xid_cmp (keys_of live) h)
    ∙ ap (λ b. cond b None (changes_of y live)) (tied_same x y)

pub rechanged_changes : (x y : Xid) (f : List Placed → List Placed) (live : OpenChanges) →
    changes_of y (with_changes x f live (changes_of x live)) ≡
    cond (same_xid x y) (option_map f (changes_of x live)) (changes_of y live)
rechanged_changes x y f live = by (changes_of x live) refl
  where
    by : (o : Option (List Placed)) → changes_of x live ≡ o →
        changes_of y (with_changes x f live o) ≡ cond (same_xid x y) (option_map f o) (changes_of y live)
    by (Some ps) e =
        lookup-set_value (eq_by_cmp_equiv xid_total) (is_at (xid_cmp x)) (one_key x) y (f ps) live (ap is_some e)
        ∙ ap (λ b. cond b (Some (f ps)) (changes_of y live)) (tied_same x y)
    by None e =
        elim (same_xid x y) as (λ b. same_xid x y ≡ b → changes_of y live ≡ cond b None (changes_of y live)) [
          | true ↦ λ is. ap (λ z. changes_of z live) (sym (same_are x y is)) ∙ e
          | false ↦ λ is. refl
        ] refl

-- ---- ids rise

abbrev pub ids_rise : OpenChanges → Type 0
ids_rise live = IsStrictlySortedBy xid_cmp (keys_of live)

pub nothing_rises : ids_rise []
unfolding IsStrictlySortedBy
nothing_rises = tt

pub opened_rises : (x : Xid) (live : OpenChanges) → ids_rise live → ids_rise (with_opened x live)
opened_rises x live h =
    subst ids_rise (sym (put_is_insert xid_cmp x [] live))
    (is_sorted_by xid_cmp (entries.put xid_cmp x [] live)
    (is_true _ (entries.is_sorted-put xid_cmp xid_total x [] live (holds _ (sorted_is xid_cmp live h)))))

pub closed_rises : (x : Xid) (live : OpenChanges) → ids_rise live → ids_rise (without_closed x live)
closed_rises x live h =
    subst ids_rise (sym (where_is_remove xid_cmp xid_total x live h))
    (is_sorted_by xid_cmp (entries.where_key xid_cmp (λ k. not (eq_by_cmp xid_cmp x k)) live)
    (is_true _ (entries.is_sorted-where_key xid_cmp (λ k. not (eq_by_cmp xid_cmp x k)) live
    (holds _ (sorted_is xid_cmp live h)))))

pub rechanged_rises : (x : Xid) (f : List Placed → List Placed) (live : OpenChanges) (o : Option (List Placed)) → ids_rise live →
    ids_rise (with_changes x f live o)
rechanged_rises x f live None h = h
rechanged_rises x f live (Some ps) h = subst (λ (ks : List Xid). IsStrictlySortedBy xid_cmp ks)
    (sym (keys-set_value (is_at (xid_cmp x)) live (f ps))) h
