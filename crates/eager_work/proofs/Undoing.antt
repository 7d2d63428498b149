-- An UNDO of a list that is joined of several: it takes back the last of the last one that has any.
use Rattle.std.proofs.Common.{◌≡◌, ℕ, ◌+◌, ◌-◌, ◌<◌, ◌≤◌, List, [], ◌∷◌, ◌++◌, length, take, map, refl, sym, ap, ◌∙◌, arith, true, false, Option, Some, None, is_some}
use Rattle.std.specs.Prelude.{MatchOption}
use Rattle.std.specs.Option.{option_to_list}
use Rattle.std.proofs.lemmas.List.{append-nil, length-append, length-map, length-take-le, take-map, take-take, take_all}
use Rattle.std.proofs.Math.Seq.{take-append-add}
use Rattle.redo_spec.specs.Survivors.{after_undo}
use Rattle.eager_work.specs.declared.did.Did.{Did}
use Rattle.eager_work.specs.declared.waiting.Waiting.{Waiting}
use Rattle.eager_work.specs.declared.waiting.Conflict.{Conflict}
use Rattle.eager_work.specs.Attempts.{Attempt, attempts_undone}
use Rattle.eager_work.specs.Keeping.{done_attempt, conflict_attempts, waiting_attempt, joined, attempts_kept}

-- ---- lists

pub undone-behind : {A : Type 0} (xs ys : List A) → 0 < length ys → after_undo (xs ++ ys) ≡ xs ++ after_undo ys
undone-behind xs ys some =
    let count : length (xs ++ ys) - 1 ≡ length xs + (length ys - 1) = omega (arith, length-append xs ys, some) in
    ap (λ n. take n (xs ++ ys)) count ∙ take-append-add xs ys (length ys - 1)

-- of one
pub undone-one : {A : Type 0} (xs ys : List A) → length ys ≡ 1 → after_undo (xs ++ ys) ≡ xs
undone-one xs ys one =
    let some : 0 < length ys = omega (arith, one) in
    let none : after_undo ys ≡ [] = ap (λ n. take (n - 1) ys) one in
    undone-behind xs ys some ∙ ap (λ zs. xs ++ zs) none ∙ append-nil xs

pub undone-map : {A B : Type 0} (f : A → B) (xs : List A) → map f (after_undo xs) ≡ after_undo (map f xs)
undone-map f xs = sym (take-map f (length xs - 1) xs) ∙ ap (λ n. take (n - 1) (map f xs)) (sym (length-map xs f))

-- one fewer from the front
pub undone_front : {A : Type 0} (n : ℕ) (xs : List A) → n ≤ length xs → take (n - 1) xs ≡ after_undo (take n xs)
undone_front n xs few =
    let less : n - 1 ≤ n = omega arith in
    sym (take-take (n - 1) n xs less) ∙ ap (λ k. take (k - 1) (take n xs)) (sym (length-take-le n xs few))

pub all_taken : {A : Type 0} (n : ℕ) (xs : List A) → length xs ≤ n → take n xs ≡ xs
all_taken n xs few = take_all n xs few

-- ---- what a work keeps

-- the last that waits goes
waiting_gone : (D : List Attempt) (c : Option Conflict) (old new : List Waiting) (gone : Waiting) → old ≡ new ++ gone ∷ [] →
    D ++ (conflict_attempts c ++ map waiting_attempt new)
    ≡ attempts_undone (D ++ (conflict_attempts c ++ map waiting_attempt old))
waiting_gone D c old new gone is =
    let C = conflict_attempts c in
    let kept : map waiting_attempt new ≡ after_undo (map waiting_attempt old) =
    ap (map waiting_attempt) (sym (ap after_undo is ∙ undone-one new (gone ∷ []) refl)) ∙ undone-map waiting_attempt old in
    let count : length old ≡ length new + 1 = ap length is ∙ length-append new (gone ∷ []) in
    let waits : 0 < length (map waiting_attempt old) = omega (arith, length-map old waiting_attempt, count) in
    let more : 0 < length (C ++ map waiting_attempt old) = omega (arith, length-append C (map waiting_attempt old), waits) in
    ap (λ w. D ++ (C ++ w)) kept
    ∙ ap (λ r. D ++ r) (sym (undone-behind C (map waiting_attempt old) waits))
    ∙ sym (undone-behind D (C ++ map waiting_attempt old) more)

pub undone_waiting : (ps : List (List Did)) (n : ℕ) (c : Option Conflict) (old new : List Waiting) (gone : Option Waiting) →
    is_some gone ≡ true → old ≡ new ++ option_to_list gone →
    attempts_kept ps n c new ≡ attempts_undone (attempts_kept ps n c old)
undone_waiting ps n c old new None there is = absurd (cc)
undone_waiting ps n c old new (Some gone) there is = waiting_gone (map done_attempt (take n (joined ps))) c old new gone is

-- nothing waited, and nothing does
pub none_waits : (P : Type 0) (gone : Option Waiting) (old new : List Waiting) (k j : ℕ) →
    MatchOption gone ((k ≡ 0) × (j ≡ 0)) (λ _. P) → new ≡ take (k - 1) old → old ≡ new ++ option_to_list gone →
    is_some gone ≡ false → (old ≡ []) × (new ≡ [])
none_waits P None old new k j m front is none =
    let empty : new ≡ [] = front ∙ ap (λ n. take (n - 1) old) m.0 in
    (is ∙ append-nil new ∙ empty, empty)
none_waits P (Some gone) old new k j m front is none = absurd (cc)

-- the conflict goes, behind which nothing waits
pub undone_conflict : (ps : List (List Did)) (n : ℕ) (c : Option Conflict) (old new : List Waiting) → is_some c ≡ true →
    old ≡ [] → new ≡ [] → attempts_kept ps n None new ≡ attempts_undone (attempts_kept ps n c old)
undone_conflict ps n None old new there e f = absurd (cc)
undone_conflict ps n (Some c) old new there e f =
    let D = map done_attempt (take n (joined ps)) in
    ap (attempts_kept ps n None) f
    ∙ append-nil D
    ∙ sym (undone-one D (conflict_attempts (Some c)) refl)
    ∙ ap (λ ws. attempts_undone (attempts_kept ps n (Some c) ws)) (sym e)

-- a change that was done goes, behind which is no conflict
pub undone_done : (ps : List (List Did)) (n : ℕ) (c : Option Conflict) (old new : List Waiting) → n ≤ length (joined ps) →
    is_some c ≡ false → old ≡ [] → new ≡ [] → attempts_kept ps (n - 1) None new ≡ attempts_undone (attempts_kept ps n c old)
undone_done ps n (Some c) old new few there e f = absurd (cc)
undone_done ps n None old new few there e f =
    let ds = take n (joined ps) in
    ap (attempts_kept ps (n - 1) None) f
    ∙ append-nil (map done_attempt (take (n - 1) (joined ps)))
    ∙ ap (map done_attempt) (undone_front n (joined ps) few)
    ∙ undone-map done_attempt ds
    ∙ ap after_undo (sym (append-nil (map done_attempt ds)))
    ∙ ap (λ ws. attempts_undone (attempts_kept ps n None ws)) (sym e)
