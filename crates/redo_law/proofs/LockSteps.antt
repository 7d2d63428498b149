-- One key more, in each call that changes the table of locks key by key.
use Rattle.std.proofs.Common.{◌≡◌, ℕ, List, [], ◌∷◌, refl, sym, ap, ◌∙◌, Bool, true, false, cond, ◌&&◌, ◌||◌, Option, Some, None, Result, Ok, Err, Ordering, Less, Equal, Greater}
use Rattle.std.specs.List.{list_any}
use Rattle.std.specs.Ordering.{eq_by_cmp, is_eq, ordering_reverse}
use Rattle.std.specs.Option.{is_some, option_or}
use Rattle.std.specs.Result.{is_err, is_ok, OnOk}
use Rattle.rl_value.specs.declared.key.Key.{Key}
use Rattle.rl_value.specs.declared.xid.Xid.{Xid}
use Rattle.rl_value.specs.Order.{key_cmp, key_total}
use Rattle.redo_law.specs.declared.hold.Hold.{Hold}
use Rattle.redo_law.specs.Held.{has_key, is_hold, hold_after_take, hold_after_free, hold_after_undo, hold_after_end}
use Rattle.redo_law.proofs.Exact.{key_is}

-- what a result that is no error ensures
pub on_ok : {A E : Type 0} (r : Result A E) (P : Type 0) → OnOk r P → is_err r ≡ false → P
on_ok (Ok x) P p e = p
on_ok (Err x) P p e = absurd (cc)

pub is_ok_from : {A E : Type 0} (r : Result A E) → is_err r ≡ false → is_ok r ≡ true
is_ok_from (Ok x) e = refl
is_ok_from (Err x) e = absurd (cc)

turned : (o : Ordering) → is_eq (ordering_reverse o) ≡ is_eq o
turned Less = refl
turned Equal = refl
turned Greater = refl

pub key_sym : (k l : Key) → eq_by_cmp key_cmp k l ≡ eq_by_cmp key_cmp l k
key_sym k l = ap is_eq (key_total.antisymm k l) ∙ turned (key_cmp l k)

or_no : (b : Bool) → (b || false) ≡ b
or_no true = refl
or_no false = refl

-- ---- taking

pub taken_none : (holds : Key → Option Hold) (h : Hold) (q : Key) → hold_after_take holds [] h q ≡ holds q
taken_none holds h q = elim (holds q) as (λ o. option_or o None ≡ o) [
  | None ↦ refl
  | Some g ↦ refl
]

take_twice : (o : Option Hold) (a b : Bool) (h : Hold) →
    option_or (option_or o (cond (a || false) (Some h) None)) (cond b (Some h) None) ≡ option_or o (cond (a || b) (Some h) None)
take_twice None true b h = refl
take_twice None false b h = refl
take_twice (Some g) a b h = refl

pub taken_more : (holds after : Key → Option Hold) (k : Key) (ks : List Key) (h : Hold) →
    ((q : Key) → after q ≡ hold_after_take holds (k ∷ []) h q) → (q : Key) →
    hold_after_take after ks h q ≡ hold_after_take holds (k ∷ ks) h q
taken_more holds after k ks h is q =
    ap (λ o. option_or o (cond (has_key q ks) (Some h) None)) (is q) ∙
    take_twice (holds q) (eq_by_cmp key_cmp q k) (has_key q ks) h

-- a key that is held stays with its holder
pub taken_held : (holds : Key → Option Hold) (k : Key) (h : Hold) → is_some (holds k) ≡ true → (q : Key) →
    holds q ≡ hold_after_take holds (k ∷ []) h q
taken_held holds k h some q =
    elim (eq_by_cmp key_cmp q k) as (λ b. eq_by_cmp key_cmp q k ≡ b →
    holds q ≡ option_or (holds q) (cond (b || false) (Some h) None)) [
      | true ↦ λ is. elim (holds q) as (λ o. is_some o ≡ true → o ≡ option_or o (Some h)) [
        | None ↦ λ e. absurd (cc)
        | Some g ↦ λ e. refl
      ] (ap (λ l. is_some (holds l)) (key_is q k is) ∙ some)
      | false ↦ λ is. sym (taken_none holds h q)
    ] refl

none_is : {A : Type 0} (o : Option A) → is_some o ≡ false → o ≡ None
none_is None e = refl
none_is (Some x) e = absurd (cc)

-- a free key is taken
pub taken_free : (holds : Key → Option Hold) (k : Key) (h : Hold) → is_some (holds k) ≡ false → (q : Key) →
    cond (is_eq (key_cmp k q)) (Some h) (holds q) ≡ hold_after_take holds (k ∷ []) h q
taken_free holds k h free q =
    ap (λ b. cond b (Some h) (holds q)) (key_sym k q) ∙
    elim (eq_by_cmp key_cmp q k) as (λ b. eq_by_cmp key_cmp q k ≡ b →
    cond b (Some h) (holds q) ≡ option_or (holds q) (cond (b || false) (Some h) None)) [
      | true ↦ λ is. sym (ap (λ o. option_or o (Some h)) (ap holds (key_is q k is) ∙ none_is (holds k) free))
      | false ↦ λ is. sym (taken_none holds h q)
    ] refl

-- ---- freeing what one change took

pub freed_at_none : (holds : Key → Option Hold) (x : Xid) (n : ℕ) (q : Key) → hold_after_undo holds [] x n q ≡ holds q
freed_at_none holds x n q = refl

free_twice : (x : Xid) (n : ℕ) (o : Option Hold) (a b c : Bool) → is_hold x n o ≡ c →
    cond (b && is_hold x n (cond ((a || false) && c) None o)) None (cond ((a || false) && c) None o) ≡ cond ((a || b) && c) None o
free_twice x n o true true true e = refl
free_twice x n o true false true e = refl
free_twice x n o true b false e = ap (λ d. cond (b && d) None o) e ∙ elim b as (λ d. cond (d && false) None o ≡ o) [
  | true ↦ refl
  | false ↦ refl
]
free_twice x n o false b c e = ap (λ d. cond (b && d) None o) e

pub freed_at_more : (holds after : Key → Option Hold) (k : Key) (ks : List Key) (x : Xid) (n : ℕ) →
    ((q : Key) → after q ≡ hold_after_undo holds (k ∷ []) x n q) → (q : Key) →
    hold_after_undo after ks x n q ≡ hold_after_undo holds (k ∷ ks) x n q
freed_at_more holds after k ks x n is q =
    ap (λ o. cond (has_key q ks && is_hold x n o) None o) (is q) ∙
    free_twice x n (holds q) (eq_by_cmp key_cmp q k) (has_key q ks) (is_hold x n (holds q)) refl

pub freed_at_other : (holds : Key → Option Hold) (k : Key) (x : Xid) (n : ℕ) → is_hold x n (holds k) ≡ false → (q : Key) →
    holds q ≡ hold_after_undo holds (k ∷ []) x n q
freed_at_other holds k x n other q =
    elim (eq_by_cmp key_cmp q k) as (λ b. eq_by_cmp key_cmp q k ≡ b →
    holds q ≡ cond ((b || false) && is_hold x n (holds q)) None (holds q)) [
      | true ↦ λ is. sym (ap (λ b. cond b None (holds q)) (ap (λ l. is_hold x n (holds l)) (key_is q k is) ∙ other))
      | false ↦ λ is. refl
    ] refl

pub freed_at_own : (holds : Key → Option Hold) (k : Key) (x : Xid) (n : ℕ) → is_hold x n (holds k) ≡ true → (q : Key) →
    cond (is_eq (key_cmp k q)) None (holds q) ≡ hold_after_undo holds (k ∷ []) x n q
freed_at_own holds k x n own q =
    ap (λ b. cond b None (holds q)) (key_sym k q) ∙
    elim (eq_by_cmp key_cmp q k) as (λ b. eq_by_cmp key_cmp q k ≡ b →
    cond b None (holds q) ≡ cond ((b || false) && is_hold x n (holds q)) None (holds q)) [
      | true ↦ λ is. sym (ap (λ b. cond b None (holds q)) (ap (λ l. is_hold x n (holds l)) (key_is q k is) ∙ own))
      | false ↦ λ is. refl
    ] refl

-- ---- freeing keys

free_both : (o : Option Hold) (a b : Bool) → cond b None (cond a None o) ≡ cond (a || b) None o
free_both o true true = refl
free_both o true false = refl
free_both o false b = refl

pub freed_one : (holds : Key → Option Hold) (k : Key) (q : Key) →
    cond (is_eq (key_cmp k q)) None (holds q) ≡ hold_after_free holds (k ∷ []) q
freed_one holds k q = ap (λ b. cond b None (holds q)) (key_sym k q ∙ sym (or_no (eq_by_cmp key_cmp q k)))

pub freed_more : (holds after : Key → Option Hold) (k : Key) (ks : List Key) →
    ((q : Key) → after q ≡ hold_after_free holds (k ∷ []) q) → (q : Key) →
    hold_after_free after ks q ≡ hold_after_free holds (k ∷ ks) q
freed_more holds after k ks is q =
    ap (λ o. cond (has_key q ks) None o) (is q ∙ ap (λ b. cond b None (holds q)) (or_no (eq_by_cmp key_cmp q k))) ∙
    free_both (holds q) (eq_by_cmp key_cmp q k) (has_key q ks)

pub freed_each_more : (holds after : Key → Option Hold) (ks : List Key) (kss : List (List Key)) →
    ((q : Key) → after q ≡ hold_after_free holds ks q) → (q : Key) →
    hold_after_end after kss q ≡ hold_after_end holds (ks ∷ kss) q
freed_each_more holds after ks kss is q =
    ap (λ o. cond (list_any (has_key q) kss) None o) (is q) ∙ free_both (holds q) (has_key q ks) (list_any (has_key q) kss)
