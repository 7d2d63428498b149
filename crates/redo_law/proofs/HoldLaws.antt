-- The table of locks agrees with the open transactions after each change of both.
use Rattle.std.proofs.Common.{◌≡◌, ℕ, ◌+◌, ◌-◌, ◌<◌, List, [], ◌∷◌, ◌++◌, length, take, refl, sym, ap, ◌∙◌, Bool, true, false, cond, ◌&&◌, ◌||◌, ◌==◌, Option, Some, None, arith}
use Rattle.std.proofs.lemmas.Bool.Decides.{nat_tests}
use Rattle.std.specs.List.{list_any}
use Rattle.std.specs.Option.{option_map, option_or}
use Rattle.rl_value.specs.declared.key.Key.{Key}
use Rattle.rl_value.specs.declared.xid.Xid.{Xid}
use Rattle.redo_spec.specs.History.{same_xid}
use Rattle.redo_spec.specs.Standing.{OpenTxn, with_open, without_open, open_txn_after_change, open_txn_after_undo}
use Rattle.redo_law.specs.declared.hold.Hold.{Hold}
use Rattle.redo_law.specs.Calls.{open_of}
use Rattle.redo_law.specs.Held.{Holds, has_key, first_from, change_in, own_change, is_hold}
use Rattle.redo_law.proofs.Ids.{xid_is, xid_itself}
use Rattle.redo_law.proofs.OpenList.{open_after_push, open_changed, open_beside_changed, open_closed, open_beside_closed}

abbrev number_if : Bool → ℕ → Option ℕ
number_if b n = cond b (Some n) None

abbrev hold_if : Bool → Hold → Option Hold
hold_if b h = cond b (Some h) None

some_is : {A : Type 0} (x y : A) → Some x ≡ Some y → x ≡ y
some_is x y e = cc

-- ---- the first change that touches a key

first_append : (k : Key) (n : ℕ) (kss : List (List Key)) (ks : List Key) →
    first_from k n (kss ++ ks ∷ []) ≡ option_or (first_from k n kss) (number_if (has_key k ks) (n + length kss))
first_append k n [] ks = let e : n ≡ n + 0 = omega arith in ap (λ m. number_if (has_key k ks) m) e
first_append k n (js ∷ kss) ks =
    elim (has_key k js) as (λ b. cond b (Some n) (first_from k (n + 1) (kss ++ ks ∷ [])) ≡
    option_or (cond b (Some n) (first_from k (n + 1) kss)) (number_if (has_key k ks) (n + length (js ∷ kss)))) [
      | true ↦ refl
      | false ↦
          let e : n + 1 + length kss ≡ n + length (js ∷ kss) = omega arith in
          first_append k (n + 1) kss ks ∙ ap (λ m. option_or (first_from k (n + 1) kss) (number_if (has_key k ks) m)) e
    ]

-- it stands among them
first_below : (k : Key) (n : ℕ) (kss : List (List Key)) (i : ℕ) → first_from k n kss ≡ Some i → i < n + length kss
first_below k n [] i e = absurd (cc)
first_below k n (ks ∷ kss) i e =
    elim (has_key k ks) as (λ b. cond b (Some n) (first_from k (n + 1) kss) ≡ Some i → i < n + length (ks ∷ kss)) [
      | true ↦ λ h. let same : n ≡ i = some_is n i h in omega (arith, same)
      | false ↦ λ h. let below = first_below k (n + 1) kss i h in omega (arith, below)
    ] e

-- one is found exactly where one touches the key
pub first_none : (k : Key) (n : ℕ) (kss : List (List Key)) → list_any (has_key k) kss ≡ false → first_from k n kss ≡ None
first_none k n [] e = refl
first_none k n (ks ∷ kss) e =
    elim (has_key k ks) as (λ b. (b || list_any (has_key k) kss) ≡ false → cond b (Some n) (first_from k (n + 1) kss) ≡ None) [
      | true ↦ λ h. absurd (cc)
      | false ↦ λ h. first_none k (n + 1) kss h
    ] e

pub first_some : (k : Key) (n : ℕ) (kss : List (List Key)) → list_any (has_key k) kss ≡ true → (i : ℕ) ×
    (first_from k n kss ≡ Some i)
first_some k n [] e = absurd (cc)
first_some k n (ks ∷ kss) e =
    elim (has_key k ks) as (λ b. (b || list_any (has_key k) kss) ≡ true → (i : ℕ) ×
    (cond b (Some n) (first_from k (n + 1) kss) ≡ Some i)) [
      | true ↦ λ h. (n, refl)
      | false ↦ λ h. first_some k (n + 1) kss h
    ] e

-- ---- none is open at first

pub holds_none : (holds : Key → Option Hold) → ((k : Key) → holds k ≡ None) → Holds holds []
holds_none holds free k x = sym (ap (own_change x) (free k))

-- ---- one more transaction

pub holds_start : (holds : Key → Option Hold) (ts : List OpenTxn) (t : OpenTxn) → t.keys ≡ [] → Holds holds ts →
    open_of t.xid ts ≡ None → Holds holds (ts ++ t ∷ [])
holds_start holds ts t bare h fresh k x =
    ap (change_in k) (open_after_push x ts t) ∙
    elim (open_of x ts) as (λ o. change_in k (option_or o (cond (same_xid t.xid x) (Some t) None)) ≡ change_in k o) [
      | None ↦ elim (same_xid t.xid x) as (λ b. change_in k (cond b (Some t) None) ≡ None) [
        | true ↦ ap (first_from k 0) bare
        | false ↦ refl
      ]
      | Some u ↦ refl
    ] ∙ h k x

-- ---- one more change

-- the keys of a change are free, or the transaction's own
abbrev pub Free : (Key → Option Hold) → Xid → List Key → Type 0
Free holds x ks = (k : Key) (h : Hold) → has_key k ks ≡ true → holds k ≡ Some h → same_xid h.holder x ≡ true

touch_own : (x : Xid) (n : ℕ) (o : Option Hold) (b : Bool) → ((h : Hold) → b ≡ true → o ≡ Some h → same_xid h.holder x ≡ true) →
    option_or (own_change x o) (number_if b n) ≡ own_change x (option_or o (hold_if b (record { holder = x; change = n })))
touch_own x n None true free = sym (ap (λ b. cond b (Some n) None) (xid_itself x))
touch_own x n None false free = refl
touch_own x n (Some h) true free =
    let own = free h refl refl in
    ap (λ b. option_or (cond b (Some h.change) None) (Some n)) own ∙ sym (ap (λ b. cond b (Some h.change) None) own)
touch_own x n (Some h) false free = elim (same_xid h.holder x)
    as (λ b. option_or (cond b (Some h.change) None) None ≡ cond b (Some h.change) None) [
      | true ↦ refl
      | false ↦ refl
    ]

touch_other : (x y : Xid) (n : ℕ) (o : Option Hold) (b : Bool) → same_xid x y ≡ false →
    own_change y o ≡ own_change y (option_or o (hold_if b (record { holder = x; change = n })))
touch_other x y n None true apart = sym (ap (λ b. cond b (Some n) None) apart)
touch_other x y n None false apart = refl
touch_other x y n (Some h) b apart = refl

pub holds_touch : (holds after : Key → Option Hold) (x : Xid) (ks : List Key) (ts : List OpenTxn) (t : OpenTxn) →
    open_of x ts ≡ Some t → Holds holds ts → Free holds x ks →
    ((k : Key) → after k ≡ option_or (holds k) (cond (has_key k ks) (Some (record { holder = x; change = length t.keys })) None))
    →
    Holds after (with_open (open_txn_after_change ks) x ts)
holds_touch holds after x ks ts t found h free is k y =
    elim (same_xid x y) as (λ b. same_xid x y ≡ b → change_in k (open_of y (with_open (open_txn_after_change ks) x ts)) ≡
    own_change y (after k)) [
      | true ↦ λ same.
          ap (λ z. change_in k (open_of z (with_open (open_txn_after_change ks) x ts))) (sym (xid_is x y same))
          ∙ ap (change_in k) (open_changed (open_txn_after_change ks) (λ u. refl) x ts ∙
          ap (option_map (open_txn_after_change ks)) found)
          ∙ first_append k 0 t.keys ks
          ∙ ap (λ m. option_or (first_from k 0 t.keys) (number_if (has_key k ks) m))
          (let e : 0 + length t.keys ≡ length t.keys = omega arith in e)
          ∙ ap (λ o. option_or o (number_if (has_key k ks) (length t.keys))) (sym (ap (change_in k) found) ∙ h k x)
          ∙ touch_own x (length t.keys) (holds k) (has_key k ks) (λ g. free k g)
          ∙ ap (own_change x) (sym (is k))
          ∙ ap (λ z. own_change z (after k)) (xid_is x y same)
      | false ↦ λ other.
          ap (change_in k) (open_beside_changed (open_txn_after_change ks) (λ u. refl) x y other ts)
          ∙ h k y
          ∙ touch_other x y (length t.keys) (holds k) (has_key k ks) other
          ∙ ap (own_change y) (sym (is k))
    ] refl

-- ---- the last change is taken back

-- the front is found as before, and what the last change took is free
undo_own : (x : Xid) (n : ℕ) (front : Option ℕ) (b : Bool) (o : Option Hold) → ((i : ℕ) → front ≡ Some i → i < n) →
    option_or front (number_if b n) ≡ own_change x o →
    front ≡ own_change x (cond (b && is_hold x n o) None o)
undo_own x n (Some i) b None below e = absurd (cc)
undo_own x n (Some i) b (Some h) below e =
    elim (same_xid h.holder x) as (λ c. same_xid h.holder x ≡ c → Some i ≡ cond c (Some h.change) None →
    Some i ≡ own_change x (cond (b && (c && (h.change == n))) None (Some h))) [
      | true ↦ λ own f.
          let is : i ≡ h.change = some_is i h.change f in
          let under = below i refl in
          let other : (h.change == n) ≡ false = grind (arith, nat_tests, under, is) in
          elim b as (λ d. Some i ≡ own_change x (cond (d && (true && (h.change == n))) None (Some h))) [
            | true ↦ f ∙ sym (ap (λ c. cond c (Some h.change) None) own) ∙
                sym (ap (λ d. own_change x (cond d None (Some h))) other)
            | false ↦ f ∙ sym (ap (λ c. cond c (Some h.change) None) own)
          ]
      | false ↦ λ own f. absurd (cc)
    ] refl e
undo_own x n None true None below e = absurd (cc)
undo_own x n None true (Some h) below e =
    elim (same_xid h.holder x) as (λ c. Some n ≡ cond c (Some h.change) None →
    None ≡ own_change x (cond (c && (h.change == n)) None (Some h))) [
      | true ↦ λ f.
          let is : n ≡ h.change = some_is n h.change f in
          let same : (h.change == n) ≡ true = grind (arith, nat_tests, is) in
          sym (ap (λ d. own_change x (cond d None (Some h))) same)
      | false ↦ λ f. absurd (cc)
    ] e
undo_own x n None false o below e = e

undo_other : (x y : Xid) (n : ℕ) (b : Bool) (o : Option Hold) → same_xid x y ≡ false →
    own_change y o ≡ own_change y (cond (b && is_hold x n o) None o)
undo_other x y n false o apart = refl
undo_other x y n true None apart = refl
undo_other x y n true (Some h) apart =
    elim (same_xid h.holder x) as (λ c. same_xid h.holder x ≡ c →
    own_change y (Some h) ≡ own_change y (cond (c && (h.change == n)) None (Some h))) [
      | true ↦ λ own.
          let none : own_change y (Some h) ≡ None = ap (λ z. cond (same_xid z y) (Some h.change) None) (xid_is h.holder x own) ∙
          ap (λ d. cond d (Some h.change) None) apart in
          elim (h.change == n) as (λ d. own_change y (Some h) ≡ own_change y (cond d None (Some h))) [
            | true ↦ none
            | false ↦ refl
          ]
      | false ↦ λ own. refl
    ] refl

pub holds_undo : (holds after : Key → Option Hold) (x : Xid) (front : List (List Key)) (ks : List Key) (ts : List OpenTxn)
    (t : OpenTxn) → open_of x ts ≡ Some t →
    t.keys ≡ front ++ ks ∷ [] → take (length t.keys - 1) t.keys ≡ front → Holds holds ts →
    ((k : Key) → after k ≡ cond (has_key k ks && is_hold x (length front) (holds k)) None (holds k)) →
    Holds after (with_open open_txn_after_undo x ts)
holds_undo holds after x front ks ts t found split hold_after_take h is k y =
    elim (same_xid x y) as (λ b. same_xid x y ≡ b → change_in k (open_of y (with_open open_txn_after_undo x ts)) ≡
    own_change y (after k)) [
      | true ↦ λ same.
          let was : option_or (first_from k 0 front) (number_if (has_key k ks) (length front)) ≡ own_change x (holds k) =
          ap (λ m. option_or (first_from k 0 front) (number_if (has_key k ks) m))
          (let e : length front ≡ 0 + length front = omega arith in e)
          ∙ sym (first_append k 0 front ks) ∙ ap (first_from k 0) (sym split) ∙ sym (ap (change_in k) found) ∙ h k x in
          ap (λ z. change_in k (open_of z (with_open open_txn_after_undo x ts))) (sym (xid_is x y same))
          ∙ ap (change_in k) (open_changed open_txn_after_undo (λ u. refl) x ts ∙ ap (option_map open_txn_after_undo) found)
          ∙ ap (first_from k 0) hold_after_take
          ∙ undo_own x (length front) (first_from k 0 front) (has_key k ks) (holds k)
          (λ i e. let below = first_below k 0 front i e in omega (arith, below)) was
          ∙ ap (own_change x) (sym (is k))
          ∙ ap (λ z. own_change z (after k)) (xid_is x y same)
      | false ↦ λ other.
          ap (change_in k) (open_beside_changed open_txn_after_undo (λ u. refl) x y other ts)
          ∙ h k y
          ∙ undo_other x y (length front) (has_key k ks) (holds k) other
          ∙ ap (own_change y) (sym (is k))
    ] refl

-- where there is none, nothing changes
pub holds_bare : (holds : Key → Option Hold) (x : Xid) (ts : List OpenTxn) (t : OpenTxn) → open_of x ts ≡ Some t → t.keys ≡ [] →
    Holds holds ts → Holds holds (with_open open_txn_after_undo x ts)
holds_bare holds x ts t found bare h k y =
    elim (same_xid x y) as (λ b. same_xid x y ≡ b → change_in k (open_of y (with_open open_txn_after_undo x ts)) ≡
    own_change y (holds k)) [
      | true ↦ λ same.
          ap (λ z. change_in k (open_of z (with_open open_txn_after_undo x ts))) (sym (xid_is x y same))
          ∙ ap (change_in k) (open_changed open_txn_after_undo (λ u. refl) x ts ∙ ap (option_map open_txn_after_undo) found)
          ∙ ap (λ kss. first_from k 0 (take (length kss - 1) kss)) bare
          ∙ sym (ap (first_from k 0) bare)
          ∙ sym (ap (change_in k) found)
          ∙ h k x
          ∙ ap (λ z. own_change z (holds k)) (xid_is x y same)
      | false ↦ λ other. ap (change_in k) (open_beside_changed open_txn_after_undo (λ u. refl) x y other ts) ∙ h k y
    ] refl

-- ---- a transaction ends

close_own : (x : Xid) (b : Bool) (o : Option Hold) → (b ≡ false → own_change x o ≡ None) → None ≡ own_change x (cond b None o)
close_own x true o free = refl
close_own x false o free = sym (free refl)

close_other : (x y : Xid) (b : Bool) (o : Option Hold) → same_xid x y ≡ false → (b ≡ true → (i : ℕ) × (own_change x o ≡ Some i)) →
    own_change y o ≡ own_change y (cond b None o)
close_other x y false o apart held = refl
close_other x y true None apart held = refl
close_other x y true (Some h) apart held =
    elim (same_xid h.holder x) as (λ c. same_xid h.holder x ≡ c → cond c (Some h.change) None ≡ Some ((held refl).0) →
    own_change y (Some h) ≡ None) [
      | true ↦ λ own e. ap (λ z. cond (same_xid z y) (Some h.change) None) (xid_is h.holder x own) ∙
          ap (λ d. cond d (Some h.change) None) apart
      | false ↦ λ own e. absurd (cc)
    ] refl ((held refl).1)

pub holds_close : (holds after : Key → Option Hold) (x : Xid) (ts : List OpenTxn) (t : OpenTxn) → open_of x ts ≡ Some t →
    Holds holds ts →
    ((k : Key) → after k ≡ cond (list_any (has_key k) t.keys) None (holds k)) →
    Holds after (without_open x ts)
holds_close holds after x ts t found h is k y =
    let was : first_from k 0 t.keys ≡ own_change x (holds k) = sym (ap (change_in k) found) ∙ h k x in
    elim (same_xid x y) as (λ b. same_xid x y ≡ b → change_in k (open_of y (without_open x ts)) ≡ own_change y (after k)) [
      | true ↦ λ same.
          ap (λ z. change_in k (open_of z (without_open x ts))) (sym (xid_is x y same))
          ∙ ap (change_in k) (open_closed x ts)
          ∙ close_own x (list_any (has_key k) t.keys) (holds k) (λ e. sym was ∙ first_none k 0 t.keys e)
          ∙ ap (own_change x) (sym (is k))
          ∙ ap (λ z. own_change z (after k)) (xid_is x y same)
      | false ↦ λ other.
          ap (change_in k) (open_beside_closed x y other ts)
          ∙ h k y
          ∙ close_other x y (list_any (has_key k) t.keys) (holds k) other
          (λ e. let i = first_some k 0 t.keys e in (i.0, sym was ∙ i.1))
          ∙ ap (own_change y) (sym (is k))
    ] refl
