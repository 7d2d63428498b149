-- Lists of open transactions, of which no two have one id: which one an id names, after each change of the list.
use Rattle.std.proofs.Common.{◌≡◌, List, [], ◌∷◌, ◌++◌, refl, sym, ap, ◌∙◌, Bool, true, false, cond, not, ◌&&◌, ◌||◌, Option, Some, None}
use Rattle.std.specs.List.{list_any}
use Rattle.std.specs.Option.{option_map, option_or, is_some}
use Rattle.rl_value.specs.declared.xid.Xid.{Xid}
use Rattle.rl_value.specs.Outcome.{is_empty}
use Rattle.redo_spec.specs.History.{same_xid}
use Rattle.redo_spec.specs.Standing.{OpenTxn, with_open, without_open}
use Rattle.redo_law.specs.Calls.{open_of}
use Rattle.redo_law.specs.Held.{Apart}
use Rattle.redo_law.proofs.Ids.{xid_is, xid_sym}

-- a change of a transaction that leaves its id
abbrev pub KeepsId : (OpenTxn → OpenTxn) → Type 0
KeepsId f = (t : OpenTxn) → (f t).xid ≡ t.xid

some_is : {A : Type 0} (x y : A) → Some x ≡ Some y → x ≡ y
some_is x y e = cc

not_some : {A C : Type 0} (x : A) (o : Option A) → o ≡ Some x → o ≡ None → C
not_some x None e n = absurd (cc)
not_some x (Some y) e n = absurd (cc)

both_ways : {C : Type 0} (b : Bool) → b ≡ true → b ≡ false → C
both_ways true t f = absurd (cc)
both_ways false t f = absurd (cc)

-- the head is no match where none is found, and the others have none
none_head : (b : Bool) (t : OpenTxn) (o : Option OpenTxn) → cond b (Some t) o ≡ None → (b ≡ false) × (o ≡ None)
none_head true t o e = absurd (cc)
none_head false t o e = (refl, e)

pub found_id : (x : Xid) (ts : List OpenTxn) (t : OpenTxn) → open_of x ts ≡ Some t → t.xid ≡ x
found_id x [] t e = absurd (cc)
found_id x (u ∷ us) t e =
    elim (same_xid u.xid x) as (λ b. same_xid u.xid x ≡ b → cond b (Some u) (open_of x us) ≡ Some t → t.xid ≡ x) [
      | true ↦ λ is h. sym (ap (λ v. v.xid) (some_is u t h)) ∙ xid_is u.xid x is
      | false ↦ λ is h. found_id x us t h
    ] refl e

-- a change of no open transaction changes nothing
pub with_open_none : (f : OpenTxn → OpenTxn) (x : Xid) (ts : List OpenTxn) → open_of x ts ≡ None → with_open f x ts ≡ ts
with_open_none f x [] e = refl
with_open_none f x (t ∷ ts) e =
    let h = none_head (same_xid t.xid x) t (open_of x ts) e in
    ap (λ b. cond b (f t) t ∷ with_open f x ts) h.0 ∙ ap (λ us. t ∷ us) (with_open_none f x ts h.1)

pub closed_none : (x : Xid) (ts : List OpenTxn) → open_of x ts ≡ None → without_open x ts ≡ ts
closed_none x [] e = refl
closed_none x (t ∷ ts) e =
    let h = none_head (same_xid t.xid x) t (open_of x ts) e in
    ap (λ b. cond (not b) (t ∷ without_open x ts) (without_open x ts)) h.0 ∙ ap (λ us. t ∷ us) (closed_none x ts h.1)

-- ---- which one an id names then

pub open_after_push : (y : Xid) (ts : List OpenTxn) (t : OpenTxn) →
    open_of y (ts ++ t ∷ []) ≡ option_or (open_of y ts) (cond (same_xid t.xid y) (Some t) None)
open_after_push y [] t = refl
open_after_push y (u ∷ us) t =
    elim (same_xid u.xid y) as (λ b. cond b (Some u) (open_of y (us ++ t ∷ [])) ≡
    option_or (cond b (Some u) (open_of y us)) (cond (same_xid t.xid y) (Some t) None)) [
      | true ↦ refl
      | false ↦ open_after_push y us t
    ]

-- at the transaction that is changed
pub open_changed : (f : OpenTxn → OpenTxn) → KeepsId f → (x : Xid) (ts : List OpenTxn) →
    open_of x (with_open f x ts) ≡ option_map f (open_of x ts)
open_changed f keeps x [] = refl
open_changed f keeps x (t ∷ ts) =
    elim (same_xid t.xid x) as (λ b. same_xid t.xid x ≡ b →
    cond (same_xid (cond b (f t) t).xid x) (Some (cond b (f t) t)) (open_of x (with_open f x ts)) ≡
    option_map f (cond b (Some t) (open_of x ts))) [
      | true ↦ λ is. ap (λ i. cond (same_xid i x) (Some (f t)) (open_of x (with_open f x ts))) (keeps t) ∙
          ap (λ b. cond b (Some (f t)) (open_of x (with_open f x ts))) is
      | false ↦ λ is. ap (λ b. cond b (Some t) (open_of x (with_open f x ts))) is ∙ open_changed f keeps x ts
    ] refl

-- two ids that are no match for one transaction
apart_ids : (i x y : Xid) → same_xid x y ≡ false → same_xid i x ≡ true → same_xid i y ≡ false
apart_ids i x y apart is = ap (λ j. same_xid j y) (xid_is i x is) ∙ apart

-- at another
pub open_beside_changed : (f : OpenTxn → OpenTxn) → KeepsId f → (x y : Xid) → same_xid x y ≡ false → (ts : List OpenTxn) →
    open_of y (with_open f x ts) ≡ open_of y ts
open_beside_changed f keeps x y apart [] = refl
open_beside_changed f keeps x y apart (t ∷ ts) =
    elim (same_xid t.xid x) as (λ b. same_xid t.xid x ≡ b →
    cond (same_xid (cond b (f t) t).xid y) (Some (cond b (f t) t)) (open_of y (with_open f x ts)) ≡
    cond (same_xid t.xid y) (Some t) (open_of y ts)) [
      | true ↦ λ is.
          let other = apart_ids t.xid x y apart is in
          ap (λ i. cond (same_xid i y) (Some (f t)) (open_of y (with_open f x ts))) (keeps t)
          ∙ ap (λ b. cond b (Some (f t)) (open_of y (with_open f x ts))) other
          ∙ open_beside_changed f keeps x y apart ts
          ∙ sym (ap (λ b. cond b (Some t) (open_of y ts)) other)
      | false ↦ λ is. ap (λ o. cond (same_xid t.xid y) (Some t) o) (open_beside_changed f keeps x y apart ts)
    ] refl

pub open_closed : (x : Xid) (ts : List OpenTxn) → open_of x (without_open x ts) ≡ None
open_closed x [] = refl
open_closed x (t ∷ ts) =
    elim (same_xid t.xid x) as (λ b. same_xid t.xid x ≡ b →
    open_of x (cond (not b) (t ∷ without_open x ts) (without_open x ts)) ≡ None) [
      | true ↦ λ is. open_closed x ts
      | false ↦ λ is. ap (λ b. cond b (Some t) (open_of x (without_open x ts))) is ∙ open_closed x ts
    ] refl

pub open_beside_closed : (x y : Xid) → same_xid x y ≡ false → (ts : List OpenTxn) → open_of y (without_open x ts) ≡ open_of y ts
open_beside_closed x y apart [] = refl
open_beside_closed x y apart (t ∷ ts) =
    elim (same_xid t.xid x) as (λ b. same_xid t.xid x ≡ b →
    open_of y (cond (not b) (t ∷ without_open x ts) (without_open x ts)) ≡ cond (same_xid t.xid y) (Some t) (open_of y ts)) [
      | true ↦ λ is. open_beside_closed x y apart ts ∙ sym
          (ap (λ b. cond b (Some t) (open_of y ts)) (apart_ids t.xid x y apart is))
      | false ↦ λ is. ap (λ o. cond (same_xid t.xid y) (Some t) o) (open_beside_closed x y apart ts)
    ] refl

-- ---- no two have one id, also then

pub apart_push : (ts : List OpenTxn) (t : OpenTxn) → Apart ts → open_of t.xid ts ≡ None → Apart (ts ++ t ∷ [])
apart_push [] t a e = (refl, tt)
apart_push (u ∷ us) t a e =
    let h = none_head (same_xid u.xid t.xid) u (open_of t.xid us) e in (
      open_after_push u.xid us t ∙ ap (λ o. option_or o (cond (same_xid t.xid u.xid) (Some t) None)) a.0 ∙
          ap (λ b. cond b (Some t) None) (xid_sym t.xid u.xid ∙ h.0),
      apart_push us t a.1 h.1,
    )

none_map : {A B : Type 0} (f : A → B) (o : Option A) → o ≡ None → option_map f o ≡ None
none_map f o e = ap (option_map f) e

-- an id that names none names none after a change
pub none_changed : (f : OpenTxn → OpenTxn) → KeepsId f → (x y : Xid) (ts : List OpenTxn) → open_of y ts ≡ None →
    open_of y (with_open f x ts) ≡ None
none_changed f keeps x y ts e =
    elim (same_xid x y) as (λ b. same_xid x y ≡ b → open_of y (with_open f x ts) ≡ None) [
      | true ↦ λ is. ap (λ z. open_of y (with_open f z ts)) (xid_is x y is) ∙ open_changed f keeps y ts ∙
          none_map f (open_of y ts) e
      | false ↦ λ is. open_beside_changed f keeps x y is ts ∙ e
    ] refl

pub none_closed : (x y : Xid) (ts : List OpenTxn) → open_of y ts ≡ None → open_of y (without_open x ts) ≡ None
none_closed x y ts e =
    elim (same_xid x y) as (λ b. same_xid x y ≡ b → open_of y (without_open x ts) ≡ None) [
      | true ↦ λ is. ap (λ z. open_of y (without_open z ts)) (xid_is x y is) ∙ open_closed y ts
      | false ↦ λ is. open_beside_closed x y is ts ∙ e
    ] refl

id_kept : (f : OpenTxn → OpenTxn) → KeepsId f → (b : Bool) (t : OpenTxn) → (cond b (f t) t).xid ≡ t.xid
id_kept f keeps true t = keeps t
id_kept f keeps false t = refl

pub apart_changed : (f : OpenTxn → OpenTxn) → KeepsId f → (x : Xid) (ts : List OpenTxn) → Apart ts → Apart (with_open f x ts)
apart_changed f keeps x [] a = tt
apart_changed f keeps x (t ∷ ts) a = (
  ap (λ i. open_of i (with_open f x ts)) (id_kept f keeps (same_xid t.xid x) t) ∙ none_changed f keeps x t.xid ts a.0,
  apart_changed f keeps x ts a.1,
)

pub apart_closed : (x : Xid) (ts : List OpenTxn) → Apart ts → Apart (without_open x ts)
apart_closed x [] a = tt
apart_closed x (t ∷ ts) a =
    elim (same_xid t.xid x) as (λ b. Apart (cond (not b) (t ∷ without_open x ts) (without_open x ts))) [
      | true ↦ apart_closed x ts a.1
      | false ↦ (none_closed x t.xid ts a.0, apart_closed x ts a.1)
    ]

-- ---- tests of the list

pub any_open : (x : Xid) (ts : List OpenTxn) → list_any (λ t. same_xid t.xid x) ts ≡ is_some (open_of x ts)
any_open x [] = refl
any_open x (t ∷ ts) =
    elim (same_xid t.xid x) as (λ b. (b || list_any (λ t. same_xid t.xid x) ts) ≡ is_some (cond b (Some t) (open_of x ts))) [
      | true ↦ refl
      | false ↦ any_open x ts
    ]

-- it is there and has no surviving change
abbrev pub is_bare : Option OpenTxn → Bool
is_bare None = false
is_bare (Some t) = is_empty t.keys

none_survives : (x : Xid) (ts : List OpenTxn) → open_of x ts ≡ None →
    list_any (λ t. same_xid t.xid x && is_empty t.keys) ts ≡ false
none_survives x [] e = refl
none_survives x (t ∷ ts) e =
    let h = none_head (same_xid t.xid x) t (open_of x ts) e in
    ap (λ b. (b && is_empty t.keys) || list_any (λ t. same_xid t.xid x && is_empty t.keys) ts) h.0 ∙ none_survives x ts h.1

or_false : (b c : Bool) → c ≡ false → (b || c) ≡ b
or_false true c e = refl
or_false false c e = e

pub nothing_is : (x : Xid) (ts : List OpenTxn) → Apart ts →
    list_any (λ t. same_xid t.xid x && is_empty t.keys) ts ≡ is_bare (open_of x ts)
nothing_is x [] a = refl
nothing_is x (t ∷ ts) a =
    elim (same_xid t.xid x) as (λ b. same_xid t.xid x ≡ b →
    ((b && is_empty t.keys) || list_any (λ t. same_xid t.xid x && is_empty t.keys) ts) ≡
    is_bare (cond b (Some t) (open_of x ts))) [
      | true ↦ λ is. or_false (is_empty t.keys) _ (none_survives x ts (ap (λ i. open_of i ts) (sym (xid_is t.xid x is)) ∙ a.0))
      | false ↦ λ is. nothing_is x ts a.1
    ] refl
