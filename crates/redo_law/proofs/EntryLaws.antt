-- The open transactions by the position of their START, as the list in that order.
use Rattle.std.proofs.Common.{◌≡◌, ◌+◌, List, [], ◌∷◌, ◌++◌, length, refl, sym, ap, ◌∙◌, subst, true, false, cond, not, Option, Some, None, Ordering, Less, Greater, arith}
use Rattle.std.proofs.lemmas.List.Sums.{sum_by-append}
use Rattle.std.proofs.lemmas.Map.Keys.{sorted_head, sorted_tail}
use Rattle.std.proofs.lemmas.Cmp.{tied_itself}
use Rattle.std.specs.List.{AllByRecursion}
use Rattle.std.specs.List.Sorted.{IsStrictlySortedBy}
use Rattle.std.specs.Map.{keys_of, lookup, set_value, remove_entry}
use Rattle.std.specs.BTreeMap.{is_at, insert_entry}
use Rattle.std.specs.Ordering.{is_eq, ordering_reverse, match_ordering}
use Rattle.std.specs.Option.{option_map, option_or}
use Rattle.rl_value.specs.declared.pos.Pos.{Pos}
use Rattle.rl_value.specs.declared.xid.Xid.{Xid}
use Rattle.rl_value.specs.Order.{pos_cmp, xid_cmp, pos_total}
use Rattle.redo_spec.specs.History.{same_xid}
use Rattle.redo_spec.specs.Standing.{OpenTxn, with_open, without_open}
use Rattle.redo_law.specs.declared.survivors.Open.{Open}
use Rattle.redo_law.specs.Calls.{open_of}
use Rattle.redo_law.specs.Held.{Apart}
use Rattle.redo_law.specs.OpenTransactions.{entry_txn, entry_txns, change_count, BeganBefore}
use Rattle.redo_law.proofs.Ids.{xid_is, xid_at}
use Rattle.redo_law.proofs.OpenList.{KeepsId, with_open_none, closed_none, open_after_push, open_changed, open_beside_changed, open_closed, open_beside_closed}

abbrev Sorted : List (Pos × Open) → Type 0
Sorted es = IsStrictlySortedBy pos_cmp (keys_of es)

some_is : {A : Type 0} (x y : A) → Some x ≡ Some y → x ≡ y
some_is x y e = cc

pos_itself : (p : Pos) → is_at (pos_cmp p) p ≡ true
pos_itself p = ap is_eq (tied_itself pos_total p)

less_back : (o : Ordering) → o ≡ Less → ordering_reverse o ≡ Greater
less_back o e = ap ordering_reverse e

-- a later position is behind an earlier one
later_greater : (p q : Pos) → pos_cmp p q ≡ Less → pos_cmp q p ≡ Greater
later_greater p q e = pos_total.antisymm q p ∙ less_back (pos_cmp p q) e

later_apart : (p q : Pos) → pos_cmp p q ≡ Less → is_at (pos_cmp q) p ≡ false
later_apart p q e = ap is_eq (later_greater p q e)

-- the START of a transaction that is found is behind what all are behind
found_later : (p : Pos) (x : Xid) (es : List (Pos × Open)) (t : OpenTxn) → AllByRecursion (λ q. pos_cmp p q ≡ Less) (keys_of es) →
    open_of x (entry_txns es) ≡ Some t → pos_cmp p t.start ≡ Less
found_later p x [] t all e = absurd (cc)
found_later p x (f ∷ es) t all e =
    elim (same_xid f.1.xid x) as (λ b. cond b (Some (entry_txn f)) (open_of x (entry_txns es)) ≡ Some t →
    pos_cmp p t.start ≡ Less) [
      | true ↦ λ h. ap (λ u. pos_cmp p u.start) (sym (some_is (entry_txn f) t h)) ∙ all.0
      | false ↦ λ h. found_later p x es t all.1 h
    ] e

-- what is kept at its START
pub kept_at : (x : Xid) (es : List (Pos × Open)) (t : OpenTxn) → Sorted es → open_of x (entry_txns es) ≡ Some t →
    lookup (is_at (pos_cmp t.start)) es ≡ Some (record { xid = t.xid; keys = t.keys })
kept_at x [] t sorted e = absurd (cc)
kept_at x (f ∷ es) t sorted e =
    elim (same_xid f.1.xid x) as (λ b. cond b (Some (entry_txn f)) (open_of x (entry_txns es)) ≡ Some t →
    cond (is_at (pos_cmp t.start) f.0) (Some f.1) (lookup (is_at (pos_cmp t.start)) es) ≡
    Some (record { xid = t.xid; keys = t.keys })) [
      | true ↦ λ h.
          subst (λ (u : OpenTxn). cond (is_at (pos_cmp u.start) f.0) (Some f.1) (lookup (is_at (pos_cmp u.start)) es) ≡
          Some (record { xid = u.xid; keys = u.keys })) (some_is (entry_txn f) t h)
          (ap (λ b. cond b (Some f.1) (lookup (is_at (pos_cmp f.0)) es)) (pos_itself f.0))
      | false ↦ λ h.
          ap (λ b. cond b (Some f.1) (lookup (is_at (pos_cmp t.start)) es))
          (later_apart f.0 t.start (found_later f.0 x es t (sorted_head pos_cmp f.0 (keys_of es) sorted) h))
          ∙ kept_at x es t (sorted_tail pos_cmp f.0 (keys_of es) sorted) h
    ] e

-- ---- the list after a change of the entries

pub set_changed : (f : OpenTxn → OpenTxn) (x : Xid) (es : List (Pos × Open)) (t : OpenTxn) (w : Open) → Sorted es →
    Apart (entry_txns es) → open_of x (entry_txns es) ≡ Some t → entry_txn (t.start, w) ≡ f t →
    entry_txns (set_value (is_at (pos_cmp t.start)) es w) ≡ with_open f x (entry_txns es)
set_changed f x [] t w sorted apart e is = refl
set_changed f x (g ∷ es) t w sorted apart e is =
    elim (same_xid g.1.xid x) as (λ b. same_xid g.1.xid x ≡ b → cond b (Some (entry_txn g)) (open_of x (entry_txns es)) ≡ Some t →
    entry_txns (cond (is_at (pos_cmp t.start) g.0) ((g.0, w) ∷ es) (g ∷ set_value (is_at (pos_cmp t.start)) es w)) ≡
    (cond b (f (entry_txn g)) (entry_txn g) ∷ with_open f x (entry_txns es))) [
      | true ↦ λ own h.
          let here : entry_txn g ≡ t = some_is (entry_txn g) t h in
          let start : g.0 ≡ t.start = ap (λ u. u.start) here in
          let none = ap (λ i. open_of i (entry_txns es)) (sym (xid_is g.1.xid x own)) ∙ apart.0 in
          ap (λ p. entry_txns (cond (is_at (pos_cmp p) g.0) ((g.0, w) ∷ es) (g ∷ set_value (is_at (pos_cmp p)) es w))) (sym start)
          ∙ ap (λ b. entry_txns (cond b ((g.0, w) ∷ es) (g ∷ set_value (is_at (pos_cmp g.0)) es w))) (pos_itself g.0)
          ∙ ap (λ p. entry_txn (p, w) ∷ entry_txns es) start
          ∙ ap (λ u. u ∷ entry_txns es) (is ∙ ap f (sym here))
          ∙ sym (ap (λ us. f (entry_txn g) ∷ us) (with_open_none f x (entry_txns es) none))
      | false ↦ λ own h.
          ap (λ b. entry_txns (cond b ((g.0, w) ∷ es) (g ∷ set_value (is_at (pos_cmp t.start)) es w)))
          (later_apart g.0 t.start (found_later g.0 x es t (sorted_head pos_cmp g.0 (keys_of es) sorted) h))
          ∙ ap (λ us. entry_txn g ∷ us) (set_changed f x es t w (sorted_tail pos_cmp g.0 (keys_of es) sorted) apart.1 h is)
    ] refl e

pub removed_closed : (x : Xid) (es : List (Pos × Open)) (t : OpenTxn) → Sorted es → Apart (entry_txns es) →
    open_of x (entry_txns es) ≡ Some t → entry_txns (remove_entry (is_at (pos_cmp t.start)) es) ≡ without_open x (entry_txns es)
removed_closed x [] t sorted apart e = refl
removed_closed x (g ∷ es) t sorted apart e =
    elim (same_xid g.1.xid x) as (λ b. same_xid g.1.xid x ≡ b → cond b (Some (entry_txn g)) (open_of x (entry_txns es)) ≡ Some t →
    entry_txns (cond (is_at (pos_cmp t.start) g.0) es (g ∷ remove_entry (is_at (pos_cmp t.start)) es)) ≡
    cond (not b) (entry_txn g ∷ without_open x (entry_txns es)) (without_open x (entry_txns es))) [
      | true ↦ λ own h.
          let start : g.0 ≡ t.start = ap (λ u. u.start) (some_is (entry_txn g) t h) in
          let none = ap (λ i. open_of i (entry_txns es)) (sym (xid_is g.1.xid x own)) ∙ apart.0 in
          ap (λ p. entry_txns (cond (is_at (pos_cmp p) g.0) es (g ∷ remove_entry (is_at (pos_cmp p)) es))) (sym start)
          ∙ ap (λ b. entry_txns (cond b es (g ∷ remove_entry (is_at (pos_cmp g.0)) es))) (pos_itself g.0)
          ∙ sym (closed_none x (entry_txns es) none)
      | false ↦ λ own h.
          ap (λ b. entry_txns (cond b es (g ∷ remove_entry (is_at (pos_cmp t.start)) es)))
          (later_apart g.0 t.start (found_later g.0 x es t (sorted_head pos_cmp g.0 (keys_of es) sorted) h))
          ∙ ap (λ us. entry_txn g ∷ us) (removed_closed x es t (sorted_tail pos_cmp g.0 (keys_of es) sorted) apart.1 h)
    ] refl e

pub inserted_last : (at : Pos) (o : Open) (es : List (Pos × Open)) → BeganBefore at (entry_txns es) →
    entry_txns (insert_entry pos_cmp es at o) ≡ entry_txns es ++ entry_txn (at, o) ∷ []
inserted_last at o [] before = refl
inserted_last at o (g ∷ es) before =
    ap (λ r. entry_txns (match_ordering r ((at, o) ∷ g ∷ es) ((g.0, o) ∷ es) (g ∷ insert_entry pos_cmp es at o)))
    (later_greater g.0 at before.0)
    ∙ ap (λ us. entry_txn g ∷ us) (inserted_last at o es before.1)

-- ---- how many surviving changes there are

pub count_cons : (t : OpenTxn) (ts : List OpenTxn) → change_count (t ∷ ts) ≡ length t.keys + change_count ts
count_cons t ts = sum_by-append (λ (u : OpenTxn). length u.keys) (t ∷ []) ts ∙
    (let e : 0 + length t.keys + change_count ts ≡ length t.keys + change_count ts = omega arith in e)

pub count_push : (ts : List OpenTxn) (t : OpenTxn) → change_count (ts ++ t ∷ []) ≡ change_count ts + length t.keys
count_push ts t = sum_by-append (λ (u : OpenTxn). length u.keys) ts (t ∷ []) ∙
    (let e : change_count ts + (0 + length t.keys) ≡ change_count ts + length t.keys = omega arith in e)

none_later : (x i : Xid) (ts : List OpenTxn) → same_xid i x ≡ true → open_of i ts ≡ None → open_of x ts ≡ None
none_later x i ts own e = ap (λ j. open_of j ts) (sym (xid_is i x own)) ∙ e

pub count_changed : (f : OpenTxn → OpenTxn) (x : Xid) (ts : List OpenTxn) (t : OpenTxn) → Apart ts → open_of x ts ≡ Some t →
    change_count (with_open f x ts) + length t.keys ≡ change_count ts + length (f t).keys
count_changed f x [] t apart e = absurd (cc)
count_changed f x (u ∷ us) t apart e =
    elim (same_xid u.xid x) as (λ b. same_xid u.xid x ≡ b → cond b (Some u) (open_of x us) ≡ Some t →
    change_count (cond b (f u) u ∷ with_open f x us) + length t.keys ≡ change_count (u ∷ us) + length (f t).keys) [
      | true ↦ λ own h.
          let here : u ≡ t = some_is u t h in
          let rest : with_open f x us ≡ us = with_open_none f x us (none_later x u.xid us own apart.0) in
          let a : change_count (f u ∷ with_open f x us) ≡ length (f t).keys + change_count us =
          ap (λ vs. change_count (f u ∷ vs)) rest ∙ ap (λ v. change_count (f v ∷ us)) here ∙ count_cons (f t) us in
          let b : change_count (u ∷ us) ≡ length t.keys + change_count us =
          ap (λ v. change_count (v ∷ us)) here ∙ count_cons t us in
          omega (arith, a, b)
      | false ↦ λ own h.
          let a = count_cons u (with_open f x us) in
          let b = count_cons u us in
          let rest = count_changed f x us t apart.1 h in
          omega (arith, a, b, rest)
    ] refl e

pub count_closed : (x : Xid) (ts : List OpenTxn) (t : OpenTxn) → Apart ts → open_of x ts ≡ Some t →
    change_count (without_open x ts) + length t.keys ≡ change_count ts
count_closed x [] t apart e = absurd (cc)
count_closed x (u ∷ us) t apart e =
    elim (same_xid u.xid x) as (λ b. same_xid u.xid x ≡ b → cond b (Some u) (open_of x us) ≡ Some t →
    change_count (cond (not b) (u ∷ without_open x us) (without_open x us)) + length t.keys ≡ change_count (u ∷ us)) [
      | true ↦ λ own h.
          let here : u ≡ t = some_is u t h in
          let a : change_count (without_open x us) ≡ change_count us =
          ap change_count (closed_none x us (none_later x u.xid us own apart.0)) in
          let b : change_count (u ∷ us) ≡ length t.keys + change_count us =
          ap (λ v. change_count (v ∷ us)) here ∙ count_cons t us in
          omega (arith, a, b)
      | false ↦ λ own h.
          let a = count_cons u (without_open x us) in
          let b = count_cons u us in
          let rest = count_closed x us t apart.1 h in
          omega (arith, a, b, rest)
    ] refl e

-- ---- where each id leads

abbrev pub starts : List OpenTxn → Xid → Option Pos
starts ts y = option_map (λ u. u.start) (open_of y ts)

or_nothing : {A : Type 0} (o : Option A) → option_or o None ≡ o
or_nothing None = refl
or_nothing (Some x) = refl

pub starts_push : (ts : List OpenTxn) (t : OpenTxn) → open_of t.xid ts ≡ None → (y : Xid) →
    cond (is_at (xid_cmp t.xid) y) (Some t.start) (starts ts y) ≡ starts (ts ++ t ∷ []) y
starts_push ts t fresh y =
    ap (λ b. cond b (Some t.start) (starts ts y)) (xid_at t.xid y) ∙
    elim (same_xid t.xid y) as (λ b. same_xid t.xid y ≡ b →
    cond b (Some t.start) (starts ts y) ≡ option_map (λ u. u.start) (option_or (open_of y ts) (cond b (Some t) None))) [
      | true ↦ λ own. sym (ap (λ o. option_map (λ u. u.start) (option_or o (Some t))) (none_later y t.xid ts own fresh))
      | false ↦ λ own. sym (ap (option_map (λ u. u.start)) (or_nothing (open_of y ts)))
    ] refl
    ∙ sym (ap (option_map (λ u. u.start)) (open_after_push y ts t))

pub starts_changed : (f : OpenTxn → OpenTxn) → KeepsId f → ((t : OpenTxn) → (f t).start ≡ t.start) →
    (x : Xid) (ts : List OpenTxn) (y : Xid) → starts ts y ≡ starts (with_open f x ts) y
starts_changed f keeps same x ts y =
    elim (same_xid x y) as (λ b. same_xid x y ≡ b → starts ts y ≡ starts (with_open f x ts) y) [
      | true ↦ λ own.
          elim (open_of y ts) as (λ o. option_map (λ u. u.start) o ≡ option_map (λ u. u.start) (option_map f o)) [
            | None ↦ refl
            | Some t ↦ ap (λ p. Some p) (sym (same t))
          ]
          ∙ sym (ap (option_map (λ u. u.start)) (open_changed f keeps y ts))
          ∙ ap (λ z. starts (with_open f z ts) y) (sym (xid_is x y own))
      | false ↦ λ own. sym (ap (option_map (λ u. u.start)) (open_beside_changed f keeps x y own ts))
    ] refl

pub starts_closed : (x : Xid) (ts : List OpenTxn) (y : Xid) →
    cond (is_at (xid_cmp x) y) None (starts ts y) ≡ starts (without_open x ts) y
starts_closed x ts y =
    ap (λ b. cond b None (starts ts y)) (xid_at x y) ∙
    elim (same_xid x y) as (λ b. same_xid x y ≡ b → cond b None (starts ts y) ≡ starts (without_open x ts) y) [
      | true ↦ λ own. sym (ap (option_map (λ u. u.start)) (open_closed y ts)) ∙
          ap (λ z. starts (without_open z ts) y) (sym (xid_is x y own))
      | false ↦ λ own. sym (ap (option_map (λ u. u.start)) (open_beside_closed x y own ts))
    ] refl
