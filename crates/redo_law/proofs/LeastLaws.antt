-- The least key that keeps a change out: looked up by the change's own keys, it is the least of all held ones.
use Rattle.std.proofs.Common.{◌≡◌, ℕ, List, [], ◌∷◌, ◌++◌, map, filter, refl, sym, ap, ◌∙◌, subst, inl, inr, Bool, true, false, cond, not, ◌&&◌, ◌||◌, Option, Some, None, Ordering, Less, Equal, Greater}
use Rattle.std.specs.Prelude.{◌⊎◌}
use Rattle.std.specs.List.{list_any, flat_map}
use Rattle.std.specs.Ordering.{eq_by_cmp, is_lt, is_gt, ordering_reverse}
use Rattle.std.proofs.lemmas.Cmp.{tied_itself, upto}
use Rattle.rl_value.specs.declared.key.Key.{Key}
use Rattle.rl_value.specs.declared.xid.Xid.{Xid}
use Rattle.rl_value.specs.Order.{key_cmp, key_total}
use Rattle.redo_spec.specs.History.{same_xid}
use Rattle.redo_spec.specs.Locks.{held_keys, least, lesser}
use Rattle.redo_spec.specs.Standing.{OpenTxn}
use Rattle.redo_law.specs.declared.hold.Hold.{Hold}
use Rattle.redo_law.specs.Calls.{open_of}
use Rattle.redo_law.specs.Held.{Holds, has_key, first_from, change_in, own_change, if_blocked, blocked_keys, contended_keys, Apart}
use Rattle.redo_law.proofs.Exact.{key_exact, key_is, key_itself}
use Rattle.redo_law.proofs.Ids.{both, xid_is, xid_itself}
use Rattle.redo_law.proofs.OpenList.{found_id}
use Rattle.redo_law.proofs.HoldLaws.{first_none, first_some}

-- it is one of the list
abbrev IsIn : {A : Type 0} → A → List A → Type 0
IsIn a [] = ⊥
IsIn a (x ∷ xs) = (a ≡ x) ⊎ IsIn a xs

some_is : {A : Type 0} (x y : A) → Some x ≡ Some y → x ≡ y
some_is x y e = cc

-- ---- the least of a list

least_none : (l : List (Key × Xid)) → least l ≡ None → l ≡ []
least_none [] e = refl
least_none (k ∷ ks) e = absurd (cc)

least_in : (l : List (Key × Xid)) (p : Key × Xid) → least l ≡ Some p → IsIn p l
least_in [] p e = absurd (cc)
least_in (k ∷ ks) p e =
    elim (least ks) as (λ o. least ks ≡ o → Some (lesser k o) ≡ Some p → IsIn p (k ∷ ks)) [
      | None ↦ λ is h. inl (sym (some_is k p h))
      | Some l ↦ λ is h.
          elim (is_lt (key_cmp l.0 k.0)) as (λ b. Some (cond b l k) ≡ Some p → IsIn p (k ∷ ks)) [
            | true ↦ λ g. inr (least_in ks p (is ∙ g))
            | false ↦ λ g. inl (sym (some_is k p g))
          ] h
    ] refl e

not_lt : (o : Ordering) → is_lt o ≡ false → is_gt (ordering_reverse o) ≡ false
not_lt Less e = absurd (cc)
not_lt Equal e = refl
not_lt Greater e = refl

lt_not_gt : (o : Ordering) → is_lt o ≡ true → is_gt o ≡ false
lt_not_gt Less e = refl
lt_not_gt Equal e = absurd (cc)
lt_not_gt Greater e = absurd (cc)

-- no key of the list is below it
abbrev IsLow : Key × Xid → List (Key × Xid) → Type 0
IsLow p l = (q : Key × Xid) → IsIn q l → is_gt (key_cmp p.0 q.0) ≡ false

itself_low : (p q : Key × Xid) → q ≡ p → is_gt (key_cmp p.0 q.0) ≡ false
itself_low p q e = ap (λ r. is_gt (key_cmp p.0 r.0)) e ∙ ap is_gt (tied_itself key_total p.0)

least_low : (l : List (Key × Xid)) (p : Key × Xid) → least l ≡ Some p → IsLow p l
least_low [] p e q among = absurd among
least_low (k ∷ ks) p e q among =
    elim (least ks) as (λ o. least ks ≡ o → Some (lesser k o) ≡ Some p → is_gt (key_cmp p.0 q.0) ≡ false) [
      | None ↦ λ is h.
          let only : k ≡ p = some_is k p h in
          elim among as (λ a. is_gt (key_cmp p.0 q.0) ≡ false) [
            | inl same ↦ itself_low p q (same ∙ only)
            | inr later ↦ absurd (subst (IsIn q) (least_none ks is) later)
          ]
      | Some l ↦ λ is h.
          let low : IsLow l ks = least_low ks l is in
          elim (is_lt (key_cmp l.0 k.0)) as (λ b. is_lt (key_cmp l.0 k.0) ≡ b → Some (cond b l k) ≡ Some p →
          is_gt (key_cmp p.0 q.0) ≡ false) [
            | true ↦ λ less g.
                let here : l ≡ p = some_is l p g in
                subst (λ (r : Key × Xid). is_gt (key_cmp r.0 q.0) ≡ false) here
                (elim among as (λ a. is_gt (key_cmp l.0 q.0) ≡ false) [
                  | inl same ↦ ap (λ r. is_gt (key_cmp l.0 r.0)) same ∙ lt_not_gt (key_cmp l.0 k.0) less
                  | inr later ↦ low q later
                ])
            | false ↦ λ less g.
                let here : k ≡ p = some_is k p g in
                subst (λ (r : Key × Xid). is_gt (key_cmp r.0 q.0) ≡ false) here
                (elim among as (λ a. is_gt (key_cmp k.0 q.0) ≡ false) [
                  | inl same ↦ itself_low k q same
                  | inr later ↦ upto key_total k.0 l.0 q.0
                      (ap is_gt (key_total.antisymm k.0 l.0) ∙ not_lt (key_cmp l.0 k.0) less) (low q later)
                ])
          ] refl h
    ] refl e

tie : (o : Ordering) → is_gt o ≡ false → is_gt (ordering_reverse o) ≡ false → o ≡ Equal
tie Less e f = absurd (cc)
tie Equal e f = refl
tie Greater e f = absurd (cc)

-- no key stands in the list beside two holders
abbrev IsSingle : List (Key × Xid) → Type 0
IsSingle l = (p q : Key × Xid) → IsIn p l → IsIn q l → p.0 ≡ q.0 → p ≡ q

in_none : {C : Type 0} (p : Key × Xid) (l : List (Key × Xid)) → IsIn p l → least l ≡ None → C
in_none p l among e = absurd (subst (IsIn p) (least_none l e) among)

pub least_same : (a b : List (Key × Xid)) → ((p : Key × Xid) → IsIn p a → IsIn p b) → ((p : Key × Xid) → IsIn p b → IsIn p a) →
    IsSingle a → least a ≡ least b
least_same a b to back single =
    elim (least a) as (λ o. least a ≡ o → o ≡ least b) [
      | None ↦ λ none. elim (least b) as (λ o. least b ≡ o → None ≡ o) [
        | None ↦ λ e. refl
        | Some q ↦ λ e. in_none q a (back q (least_in b q e)) none
      ] refl
      | Some p ↦ λ some. elim (least b) as (λ o. least b ≡ o → Some p ≡ o) [
        | None ↦ λ e. in_none p b (to p (least_in a p some)) e
        | Some q ↦ λ e.
            let there = back q (least_in b q e) in
            let low = least_low a p some q there in
            let other = least_low b q e p (to p (least_in a p some)) in
            let same = key_exact p.0 q.0 (tie (key_cmp p.0 q.0) low (sym (ap is_gt (key_total.antisymm q.0 p.0)) ∙ other)) in
            ap (λ r. Some r) (single p q (least_in a p some) there same)
      ] refl
    ] refl

-- ---- what is in a list of keys

in_keys : (k : Key) (ks : List Key) → has_key k ks ≡ true → IsIn k ks
in_keys k [] e = absurd (cc)
in_keys k (l ∷ ls) e =
    elim (eq_by_cmp key_cmp k l) as (λ b. eq_by_cmp key_cmp k l ≡ b → (b || has_key k ls) ≡ true → (k ≡ l) ⊎ IsIn k ls) [
      | true ↦ λ is h. inl (key_is k l is)
      | false ↦ λ is h. inr (in_keys k ls h)
    ] refl e

or_left : (a b : Bool) → a ≡ true → (a || b) ≡ true
or_left true b e = refl
or_left false b e = absurd (cc)

or_right : (a b : Bool) → b ≡ true → (a || b) ≡ true
or_right true b e = refl
or_right false b e = e

keys_in : (k : Key) (ks : List Key) → IsIn k ks → has_key k ks ≡ true
keys_in k [] among = absurd among
keys_in k (l ∷ ls) among = elim among as (λ a. (eq_by_cmp key_cmp k l || has_key k ls) ≡ true) [
  | inl same ↦ or_left _ _ (ap (eq_by_cmp key_cmp k) (sym same) ∙ key_itself k)
  | inr later ↦ or_right _ _ (keys_in k ls later)
]

in_append : {A : Type 0} (a : A) (xs ys : List A) → IsIn a (xs ++ ys) → IsIn a xs ⊎ IsIn a ys
in_append a [] ys among = inr among
in_append a (x ∷ xs) ys among = elim among as (λ m. IsIn a (x ∷ xs) ⊎ IsIn a ys) [
  | inl same ↦ inl (inl same)
  | inr later ↦ elim (in_append a xs ys later) as (λ m. IsIn a (x ∷ xs) ⊎ IsIn a ys) [
    | inl front ↦ inl (inr front)
    | inr back ↦ inr back
  ]
]

append_front : {A : Type 0} (a : A) (xs ys : List A) → IsIn a xs → IsIn a (xs ++ ys)
append_front a [] ys among = absurd among
append_front a (x ∷ xs) ys among = elim among as (λ m. IsIn a (x ∷ (xs ++ ys))) [
  | inl same ↦ inl same
  | inr later ↦ inr (append_front a xs ys later)
]

append_back : {A : Type 0} (a : A) (xs ys : List A) → IsIn a ys → IsIn a (xs ++ ys)
append_back a [] ys among = among
append_back a (x ∷ xs) ys among = inr (append_back a xs ys among)

in_filter : {A : Type 0} (test : A → Bool) (a : A) (xs : List A) → IsIn a (filter test xs) → IsIn a xs × (test a ≡ true)
in_filter test a [] among = absurd among
in_filter test a (x ∷ xs) among =
    elim (test x) as (λ b. test x ≡ b → IsIn a (cond b (x ∷ filter test xs) (filter test xs)) → IsIn a (x ∷ xs) ×
    (test a ≡ true)) [
      | true ↦ λ is m. elim m as (λ n. IsIn a (x ∷ xs) × (test a ≡ true)) [
        | inl same ↦ (inl same, ap test same ∙ is)
        | inr later ↦ let rest = in_filter test a xs later in (inr rest.0, rest.1)
      ]
      | false ↦ λ is m. let rest = in_filter test a xs m in (inr rest.0, rest.1)
    ] refl among

both_ways : {C : Type 0} (b : Bool) → b ≡ true → b ≡ false → C
both_ways true t f = absurd (cc)
both_ways false t f = absurd (cc)

filter_in : {A : Type 0} (test : A → Bool) (a : A) (xs : List A) → IsIn a xs → test a ≡ true → IsIn a (filter test xs)
filter_in test a [] among e = absurd among
filter_in test a (x ∷ xs) among e =
    elim (test x) as (λ b. test x ≡ b → IsIn a (cond b (x ∷ filter test xs) (filter test xs))) [
      | true ↦ λ is. elim among as (λ n. IsIn a (x ∷ filter test xs)) [
        | inl same ↦ inl same
        | inr later ↦ inr (filter_in test a xs later e)
      ]
      | false ↦ λ is. elim among as (λ n. IsIn a (filter test xs)) [
        | inl same ↦ both_ways (test x) (ap test (sym same) ∙ e) is
        | inr later ↦ filter_in test a xs later e
      ]
    ] refl

-- ---- what is held

in_with : (x : Xid) (p : Key × Xid) (ks : List Key) → IsIn p (map (λ k. (k, x)) ks) → IsIn p.0 ks × (p.1 ≡ x)
in_with x p [] among = absurd among
in_with x p (k ∷ ks) among = elim among as (λ m. IsIn p.0 (k ∷ ks) × (p.1 ≡ x)) [
  | inl same ↦ (inl (ap (λ r. r.0) same), ap (λ r. r.1) same)
  | inr later ↦ let rest = in_with x p ks later in (inr rest.0, rest.1)
]

with_in : (x : Xid) (k : Key) (ks : List Key) → IsIn k ks → IsIn {A = Key × Xid} (k, x) (map (λ k. (k, x)) ks)
with_in x k [] among = absurd among
with_in x k (l ∷ ls) among = elim among as (λ m. IsIn {A = Key × Xid} (k, x) ((l, x) ∷ map (λ k. (k, x)) ls)) [
  | inl same ↦ inl (ap (λ j. (j, x)) same)
  | inr later ↦ inr (with_in x k ls later)
]

abbrev held_of : Xid → List (List Key) → List (Key × Xid)
held_of x kss = flat_map (λ keys. map (λ k. (k, x)) keys) kss

in_held_of : (x : Xid) (p : Key × Xid) (kss : List (List Key)) → IsIn p (held_of x kss) →
    (list_any (has_key p.0) kss ≡ true) × (p.1 ≡ x)
in_held_of x p [] among = absurd among
in_held_of x p (ks ∷ kss) among = elim (in_append p (map (λ k. (k, x)) ks) (held_of x kss) among)
    as (λ m. ((has_key p.0 ks || list_any (has_key p.0) kss) ≡ true) × (p.1 ≡ x)) [
      | inl front ↦ let here = in_with x p ks front in (or_left _ _ (keys_in p.0 ks here.0), here.1)
      | inr back ↦ let rest = in_held_of x p kss back in (or_right _ _ rest.0, rest.1)
    ]

held_of_in : (x : Xid) (k : Key) (kss : List (List Key)) → list_any (has_key k) kss ≡ true → IsIn (k, x) (held_of x kss)
held_of_in x k [] e = absurd (cc)
held_of_in x k (ks ∷ kss) e =
    elim (has_key k ks) as (λ b. has_key k ks ≡ b → (b || list_any (has_key k) kss) ≡ true →
    IsIn {A = Key × Xid} (k, x) (map (λ k. (k, x)) ks ++ held_of x kss)) [
      | true ↦ λ is h. append_front (k, x) (map (λ k. (k, x)) ks) (held_of x kss) (with_in x k ks (in_keys k ks is))
      | false ↦ λ is h. append_back (k, x) (map (λ k. (k, x)) ks) (held_of x kss) (held_of_in x k kss h)
    ] refl e

record IsHeld (p : Key × Xid) (ts : List OpenTxn) : Type 0 where
  txn : OpenTxn
  among : IsIn txn ts
  touched : list_any (has_key p.0) txn.keys ≡ true
  holder : p.1 ≡ txn.xid

in_held : (p : Key × Xid) (ts : List OpenTxn) → IsIn p (held_keys ts) → IsHeld p ts
in_held p [] among = absurd among
in_held p (t ∷ ts) among = elim (in_append p (held_of t.xid t.keys) (held_keys ts) among) as (λ m. IsHeld p (t ∷ ts)) [
  | inl front ↦ let here = in_held_of t.xid p t.keys front in
      record { txn = t; among = inl refl; touched = here.0; holder = here.1 }
  | inr back ↦ let rest = in_held p ts back in record {
    txn = rest.txn;
    among = inr rest.among;
    touched = rest.touched;
    holder = rest.holder;
  }
]

held_in : (k : Key) (t : OpenTxn) (ts : List OpenTxn) → IsIn t ts → list_any (has_key k) t.keys ≡ true →
    IsIn (k, t.xid) (held_keys ts)
held_in k t [] among e = absurd among
held_in k t (u ∷ us) among e = elim among as (λ m. IsIn (k, t.xid) (held_of u.xid u.keys ++ held_keys us)) [
  | inl same ↦ append_front (k, t.xid) (held_of u.xid u.keys) (held_keys us)
      (subst (λ (v : OpenTxn). IsIn (k, t.xid) (held_of v.xid v.keys)) same (held_of_in t.xid k t.keys e))
  | inr later ↦ append_back (k, t.xid) (held_of u.xid u.keys) (held_keys us) (held_in k t us later e)
]

-- ---- an open transaction by its id

open_in : (x : Xid) (ts : List OpenTxn) (t : OpenTxn) → open_of x ts ≡ Some t → IsIn t ts
open_in x [] t e = absurd (cc)
open_in x (u ∷ us) t e =
    elim (same_xid u.xid x) as (λ b. cond b (Some u) (open_of x us) ≡ Some t → IsIn t (u ∷ us)) [
      | true ↦ λ h. inl (sym (some_is u t h))
      | false ↦ λ h. inr (open_in x us t h)
    ] e

not_none : {A C : Type 0} (x : A) (o : Option A) → o ≡ Some x → o ≡ None → C
not_none x None e n = absurd (cc)
not_none x (Some y) e n = absurd (cc)

in_open : (ts : List OpenTxn) → Apart ts → (t : OpenTxn) → IsIn t ts → open_of t.xid ts ≡ Some t
in_open [] a t among = absurd among
in_open (u ∷ us) a t among = elim among as (λ m. cond (same_xid u.xid t.xid) (Some u) (open_of t.xid us) ≡ Some t) [
  | inl same ↦ subst (λ (v : OpenTxn). cond (same_xid u.xid v.xid) (Some u) (open_of v.xid us) ≡ Some v) (sym same)
      (ap (λ b. cond b (Some u) (open_of u.xid us)) (xid_itself u.xid))
  | inr later ↦
      let there = in_open us a.1 t later in
      elim (same_xid u.xid t.xid) as (λ b. same_xid u.xid t.xid ≡ b → cond b (Some u) (open_of t.xid us) ≡ Some t) [
        | true ↦ λ is. not_none t (open_of t.xid us) there (ap (λ i. open_of i us) (sym (xid_is u.xid t.xid is)) ∙ a.0)
        | false ↦ λ is. there
      ] refl
]

-- ---- what keeps a change out

record IsBlocked (holds : Key → Option Hold) (x : Xid) (ks : List Key) (p : Key × Xid) : Type 0 where
  hold : Hold
  held : holds p.0 ≡ Some hold
  holder : p.1 ≡ hold.holder
  other : same_xid hold.holder x ≡ false
  touched : IsIn p.0 ks

later_blocked : (holds : Key → Option Hold) (x : Xid) (k : Key) (ks : List Key) (p : Key × Xid) → IsBlocked holds x ks p →
    IsBlocked holds x (k ∷ ks) p
later_blocked holds x k ks p b = record {
  hold = b.hold;
  held = b.held;
  holder = b.holder;
  other = b.other;
  touched = inr b.touched;
}

in_blocked : (holds : Key → Option Hold) (x : Xid) (ks : List Key) (p : Key × Xid) → IsIn p (blocked_keys holds x ks) →
    IsBlocked holds x ks p
in_blocked holds x [] p among = absurd among
in_blocked holds x (k ∷ ks) p among =
    elim (holds k) as (λ o. holds k ≡ o → IsIn p (if_blocked x k o (blocked_keys holds x ks)) → IsBlocked holds x (k ∷ ks) p) [
      | None ↦ λ is m. later_blocked holds x k ks p (in_blocked holds x ks p m)
      | Some h ↦ λ is m.
          elim (same_xid h.holder x) as (λ b. same_xid h.holder x ≡ b →
          IsIn p (cond b (blocked_keys holds x ks) ((k, h.holder) ∷ blocked_keys holds x ks)) →
          IsBlocked holds x (k ∷ ks) p) [
            | true ↦ λ own n. later_blocked holds x k ks p (in_blocked holds x ks p n)
            | false ↦ λ own n. elim n as (λ a. IsBlocked holds x (k ∷ ks) p) [
              | inl same ↦ record {
                hold = h;
                held = ap (λ r. holds r.0) same ∙ is;
                holder = ap (λ r. r.1) same;
                other = own;
                touched = inl (ap (λ r. r.0) same);
              }
              | inr later ↦ later_blocked holds x k ks p (in_blocked holds x ks p later)
            ]
          ] refl m
    ] refl among

blocked_in : (holds : Key → Option Hold) (x : Xid) (ks : List Key) (k : Key) (h : Hold) → holds k ≡ Some h →
    same_xid h.holder x ≡ false → IsIn k ks → IsIn (k, h.holder) (blocked_keys holds x ks)
blocked_in holds x [] k h held other among = absurd among
blocked_in holds x (l ∷ ls) k h held other among = elim among
    as (λ m. IsIn (k, h.holder) (if_blocked x l (holds l) (blocked_keys holds x ls))) [
      | inl same ↦
          (subst (λ (j : Key). IsIn (k, h.holder) (if_blocked x j (holds j) (blocked_keys holds x ls))) same
          (subst (λ (o : Option Hold). IsIn (k, h.holder) (if_blocked x k o (blocked_keys holds x ls))) (sym held)
          (subst (λ (b : Bool). IsIn (k, h.holder) (cond b (blocked_keys holds x ls) ((k, h.holder) ∷ blocked_keys holds x ls)))
          (sym other) (inl refl))))
      | inr later ↦
          let rest = blocked_in holds x ls k h held other later in
          elim (holds l) as (λ o. IsIn (k, h.holder) (if_blocked x l o (blocked_keys holds x ls))) [
            | None ↦ rest
            | Some g ↦ elim (same_xid g.holder x) as (λ b. IsIn (k, h.holder)
                (cond b (blocked_keys holds x ls) ((l, g.holder) ∷ blocked_keys holds x ls))) [
                  | true ↦ rest
                  | false ↦ inr rest
                ]
          ]
    ]

-- the hold is the one of the transaction that is found
own_is : (x : Xid) (o : Option Hold) (i : ℕ) → own_change x o ≡ Some i → (h : Hold) × (o ≡ Some h) × (h.holder ≡ x)
own_is x None i e = absurd (cc)
own_is x (Some h) i e =
    elim (same_xid h.holder x) as (λ b. same_xid h.holder x ≡ b → cond b (Some h.change) None ≡ Some i → (g : Hold) ×
    (Some h ≡ Some g) × (g.holder ≡ x)) [
      | true ↦ λ is f. (h, refl, xid_is h.holder x is)
      | false ↦ λ is f. absurd (cc)
    ] refl e

-- a found change is a touching one of an open transaction
change_is : (k : Key) (o : Option OpenTxn) (i : ℕ) → change_in k o ≡ Some i → (t : OpenTxn) × (o ≡ Some t) ×
    (list_any (has_key k) t.keys ≡ true)
change_is k None i e = absurd (cc)
change_is k (Some t) i e =
    elim (list_any (has_key k) t.keys) as (λ b. list_any (has_key k) t.keys ≡ b → (u : OpenTxn) × (Some t ≡ Some u) ×
    (list_any (has_key k) u.keys ≡ true)) [
      | true ↦ λ is. (t, refl, is)
      | false ↦ λ is. not_none i (first_from k 0 t.keys) e (first_none k 0 t.keys is)
    ] refl

two : (a b : Bool) → a ≡ false → b ≡ true → (not a && b) ≡ true
two false b e f = f
two true b e f = absurd (cc)

not_true : (a : Bool) → not a ≡ true → a ≡ false
not_true true e = absurd (cc)
not_true false e = refl

abbrev keeps_out : Xid → List Key → Key × Xid → Bool
keeps_out x ks k = not (same_xid k.1 x) && list_any (eq_by_cmp key_cmp k.0) ks

out_from_blocked : (holds : Key → Option Hold) (x : Xid) (ks : List Key) (ts : List OpenTxn) → Holds holds ts → (p : Key × Xid) →
    IsBlocked holds x ks p → IsIn p (contended_keys x ks ts)
out_from_blocked holds x ks ts h p b =
    let first : change_in p.0 (open_of b.hold.holder ts) ≡ Some b.hold.change =
    h p.0 b.hold.holder ∙ ap (own_change b.hold.holder) b.held ∙
    ap (λ c. cond c (Some b.hold.change) None) (xid_itself b.hold.holder) in
    let t = change_is p.0 (open_of b.hold.holder ts) b.hold.change first in
    let id : p.1 ≡ t.0.xid = b.holder ∙ sym (found_id b.hold.holder ts t.0 t.1) in
    let pair : (p.0, t.0.xid) ≡ p = ap (λ i. (p.0, i)) (sym id) in
    filter_in (keeps_out x ks) p (held_keys ts)
    (subst (λ (q : Key × Xid). IsIn q (held_keys ts)) pair (held_in p.0 t.0 ts (open_in b.hold.holder ts t.0 t.1) t.2))
    (two (same_xid p.1 x) _ (ap (λ i. same_xid i x) b.holder ∙ b.other) (keys_in p.0 ks b.touched))

blocked_from_out : (holds : Key → Option Hold) (x : Xid) (ks : List Key) (ts : List OpenTxn) → Holds holds ts → Apart ts →
    (p : Key × Xid) → IsIn p (contended_keys x ks ts) → IsIn p (blocked_keys holds x ks)
blocked_from_out holds x ks ts h a p among =
    let parts = in_filter (keeps_out x ks) p (held_keys ts) among in
    let held = in_held p ts parts.0 in
    let tests = both (not (same_xid p.1 x)) (list_any (eq_by_cmp key_cmp p.0) ks) parts.1 in
    let found = in_open ts a held.txn held.among in
    let first = first_some p.0 0 held.txn.keys held.touched in
    let own = own_is held.txn.xid (holds p.0) first.0 (sym (h p.0 held.txn.xid) ∙ ap (change_in p.0) found ∙ first.1) in
    let id : own.0.holder ≡ p.1 = own.2 ∙ sym held.holder in
    let pair : (p.0, own.0.holder) ≡ p = ap (λ i. (p.0, i)) id in
    subst (λ (q : Key × Xid). IsIn q (blocked_keys holds x ks)) pair
    (blocked_in holds x ks p.0 own.0 own.1 (ap (λ i. same_xid i x) id ∙ not_true (same_xid p.1 x) tests.0)
    (in_keys p.0 ks tests.1))

single_blocked : (holds : Key → Option Hold) (x : Xid) (ks : List Key) → IsSingle (blocked_keys holds x ks)
single_blocked holds x ks p q p_in q_in same =
    let a = in_blocked holds x ks p p_in in
    let b = in_blocked holds x ks q q_in in
    let one : a.hold ≡ b.hold = some_is a.hold b.hold (sym a.held ∙ ap holds same ∙ b.held) in
    let id : p.1 ≡ q.1 = a.holder ∙ ap (λ h. h.holder) one ∙ sym b.holder in
    λ i. (same i, id i)

-- the least key that keeps a change out, found by the change's own keys
pub least_blocked : (holds : Key → Option Hold) (x : Xid) (ks : List Key) (ts : List OpenTxn) → Holds holds ts → Apart ts →
    least (blocked_keys holds x ks) ≡ least (contended_keys x ks ts)
least_blocked holds x ks ts h a =
    least_same (blocked_keys holds x ks) (contended_keys x ks ts)
    (λ p among. out_from_blocked holds x ks ts h p (in_blocked holds x ks p among)) (blocked_from_out holds x ks ts h a)
    (single_blocked holds x ks)

-- where nothing keeps a change out, its keys are free or the transaction's own
pub free_of_blocked : (holds : Key → Option Hold) (x : Xid) (ks : List Key) → least (blocked_keys holds x ks) ≡ None →
    (k : Key) (h : Hold) → has_key k ks ≡ true → holds k ≡ Some h → same_xid h.holder x ≡ true
free_of_blocked holds x ks e k h among held =
    elim (same_xid h.holder x) as (λ b. same_xid h.holder x ≡ b → b ≡ true) [
      | true ↦ λ is. refl
      | false ↦ λ is. in_none (k, h.holder) (blocked_keys holds x ks) (blocked_in holds x ks k h held is (in_keys k ks among)) e
    ] refl
