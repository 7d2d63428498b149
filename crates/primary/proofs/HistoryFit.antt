-- The surviving changes beside the history: each open transaction has there the survivors that the map has, and there is
-- one at most of an id.
use Rattle.std.proofs.Common.{◌≡◌, ℕ, List, [], ◌∷◌, ◌++◌, map, filter, refl, sym, ap, ◌∙◌, Bool, true, false, cond, not, ◌||◌, Option, Some, None, is_some, unwrap_or}
use Rattle.std.specs.List.{list_any}
use Rattle.std.specs.Option.{option_map, option_to_list}
use Rattle.std.proofs.lemmas.List.{map-append, append-nil}
use Rattle.std.proofs.lemmas.List.Elements.{filter-append}
use Rattle.rl_value.specs.declared.xid.Xid.{Xid}
use Rattle.rl_value.specs.declared.pos.Pos.{Pos}
use Rattle.rl_value.specs.declared.cause.LawFault.TheVariants as faults
use Rattle.redo_vec.specs.declared.vector.Vector.{Vector}
use Rattle.redo_vec.specs.declared.vector.Vector.TheVariants.{Start, Change as OfChange, Undo, Commit, Rollback, Table, DictEnd}
use Rattle.redo_spec.specs.declared.header.Header.{Header}
use Rattle.redo_spec.specs.Survivors.{after_change, after_undo}
use Rattle.redo_spec.specs.History.{Placed, Txn, History, same_xid, of_xid, but_xid, with_xid, txn_after_change, txn_after_undo, txn_known_by_commit, txns_ended_by, with_started, after_vector}
use Rattle.redo_spec.specs.Standing.{Standing, is_open}
use Rattle.redo_spec.specs.Law.{dictionary_fault, vector_fault}
use Rattle.primary.specs.Progress.{OpenChanges, changes_of, live_after}
use Rattle.primary.proofs.LiveLaws.{same_are, opened_changes, closed_changes, rechanged_changes}
use Rattle.primary.proofs.FitLaws.{none_second, no_fault, same_sym}
use Rattle.primary.specs.Running.{Opens}

-- the survivors of each of these
abbrev pub survivors_of : List Txn → List (List Placed)
survivors_of ts = map (λ t. t.survivors) ts

pub record Lives (ts : List Txn) (live : OpenChanges) : Type 0 where
  pub of : (y : Xid) → survivors_of (of_xid y ts) ≡ option_to_list (changes_of y live)

of_with : (f : Txn → Txn) (g : List Placed → List Placed) (x y : Xid) → ((t : Txn) → (f t).xid ≡ t.xid) →
    ((t : Txn) → (f t).survivors ≡ g t.survivors) → (ts : List Txn) →
    survivors_of (of_xid y (with_xid f x ts)) ≡ cond (same_xid x y) (map g (survivors_of (of_xid y ts)))
    (survivors_of (of_xid y ts))
of_with f g x y keeps changes [] =
    let none : List (List Placed) = [] in
    elim (same_xid x y) as (λ b. none ≡ cond b [] []) [ true ↦ refl | false ↦ refl ]
of_with f g x y keeps changes (t ∷ ts) =
    let later = of_xid y (with_xid f x ts) in
    let rest = of_xid y ts in
    let ih = of_with f g x y keeps changes ts in
    elim (same_xid t.xid x) as (λ b. same_xid t.xid x ≡ b →
    survivors_of (cond (same_xid (cond b (f t) t).xid y) (cond b (f t) t ∷ later) later) ≡
    cond (same_xid x y) (map g (survivors_of (cond (same_xid t.xid y) (t ∷ rest) rest)))
    (survivors_of (cond (same_xid t.xid y) (t ∷ rest) rest))) [
      | true ↦ λ is.
          ap (λ z. survivors_of (cond (same_xid z y) (f t ∷ later) later)) (keeps t ∙ same_are t.xid x is)
          ∙ elim (same_xid x y) as (λ b. survivors_of later ≡ cond b (map g (survivors_of rest)) (survivors_of rest) →
          survivors_of (cond b (f t ∷ later) later) ≡ cond b (map g (survivors_of (cond b (t ∷ rest) rest)))
          (survivors_of (cond b (t ∷ rest) rest))) [
            | true ↦ λ same. λ i. changes t i ∷ same i
            | false ↦ λ same. same
          ] ih
          ∙ ap (λ z. cond (same_xid x y) (map g (survivors_of (cond (same_xid z y) (t ∷ rest) rest)))
          (survivors_of (cond (same_xid z y) (t ∷ rest) rest))) (sym (same_are t.xid x is))
      | false ↦ λ apart.
          elim (same_xid x y) as (λ b. same_xid x y ≡ b →
          survivors_of later ≡ cond b (map g (survivors_of rest)) (survivors_of rest) →
          survivors_of (cond (same_xid t.xid y) (t ∷ later) later) ≡
          cond b (map g (survivors_of (cond (same_xid t.xid y) (t ∷ rest) rest)))
          (survivors_of (cond (same_xid t.xid y) (t ∷ rest) rest))) [
            | true ↦ λ is same.
                let other : same_xid t.xid y ≡ false = ap (λ z. same_xid t.xid z) (sym (same_are x y is)) ∙ apart in
                ap (λ b. survivors_of (cond b (t ∷ later) later)) other ∙ same ∙
                ap (λ b. map g (survivors_of (cond b (t ∷ rest) rest))) (sym other)
            | false ↦ λ is same.
                elim (same_xid t.xid y) as (λ b. survivors_of (cond b (t ∷ later) later) ≡
                survivors_of (cond b (t ∷ rest) rest)) [
                  | true ↦ ap (λ ss. t.survivors ∷ ss) same
                  | false ↦ same
                ]
          ] refl ih
    ] refl

of_but : (x y : Xid) (ts : List Txn) → of_xid y (but_xid x ts) ≡ cond (same_xid x y) [] (of_xid y ts)
of_but x y [] =
    let none : List Txn = [] in
    elim (same_xid x y) as (λ b. none ≡ cond b [] []) [ true ↦ refl | false ↦ refl ]
of_but x y (t ∷ ts) =
    let left = but_xid x ts in
    let rest = of_xid y ts in
    elim (same_xid t.xid x) as (λ b. same_xid t.xid x ≡ b →
    of_xid y (cond (not b) (t ∷ left) left) ≡ cond (same_xid x y) [] (cond (same_xid t.xid y) (t ∷ rest) rest)) [
      | true ↦ λ is.
          of_but x y ts
          ∙ elim (same_xid x y) as (λ b. cond b [] rest ≡ cond b [] (cond b (t ∷ rest) rest)) [ true ↦ refl | false ↦ refl ]
          ∙ ap (λ z. cond (same_xid x y) [] (cond (same_xid z y) (t ∷ rest) rest)) (sym (same_are t.xid x is))
      | false ↦ λ apart.
          ap (λ us. cond (same_xid t.xid y) (t ∷ us) us) (of_but x y ts)
          ∙ elim (same_xid x y) as (λ b. same_xid x y ≡ b →
          cond (same_xid t.xid y) (t ∷ cond b [] rest) (cond b [] rest) ≡
          cond b [] (cond (same_xid t.xid y) (t ∷ rest) rest)) [
            | true ↦ λ is. ap (λ b. cond b (t ∷ []) []) (ap (λ z. same_xid t.xid z) (sym (same_are x y is)) ∙ apart)
            | false ↦ λ is. refl
          ] refl
    ] refl

listed_map : (f : List Placed → List Placed) (o : Option (List Placed)) →
    map f (option_to_list o) ≡ option_to_list (option_map f o)
listed_map f None = refl
listed_map f (Some ps) = refl

listed_cond : (b : Bool) (o p : Option (List Placed)) → cond b (option_to_list o) (option_to_list p) ≡ option_to_list (cond b o p)
listed_cond true o p = refl
listed_cond false o p = refl

absent : (o : Option (List Placed)) → is_some o ≡ false → o ≡ None
absent None e = refl
absent (Some ps) e = absurd (cc)

changed_lives : (f : Txn → Txn) (g : List Placed → List Placed) (x : Xid) (ts : List Txn) (live : OpenChanges) →
    ((t : Txn) → (f t).xid ≡ t.xid) → ((t : Txn) → (f t).survivors ≡ g t.survivors) →
    Lives ts live → (after : OpenChanges) → ((y : Xid) →
    changes_of y after ≡ cond (same_xid x y) (option_map g (changes_of x live)) (changes_of y live)) →
    Lives (with_xid f x ts) after
changed_lives f g x ts live keeps changes l after are = record {
  of = λ y.
      of_with f g x y keeps changes ts
      ∙ ap (λ ss. cond (same_xid x y) (map g ss) ss) (l.of y)
      ∙ ap (λ ss. cond (same_xid x y) ss (option_to_list (changes_of y live))) (listed_map g (changes_of y live))
      ∙ listed_cond (same_xid x y) (option_map g (changes_of y live)) (changes_of y live)
      ∙ elim (same_xid x y) as (λ b. same_xid x y ≡ b →
      option_to_list (cond b (option_map g (changes_of y live)) (changes_of y live)) ≡
      option_to_list (cond b (option_map g (changes_of x live)) (changes_of y live))) [
        | true ↦ λ is. ap (λ z. option_to_list (option_map g (changes_of z live))) (sym (same_are x y is))
        | false ↦ λ is. refl
      ] refl
      ∙ ap option_to_list (sym (are y));
}

ended_lives : (x : Xid) (ts : List Txn) (live after : OpenChanges) → Lives ts live →
    ((y : Xid) → changes_of y after ≡ cond (same_xid x y) None (changes_of y live)) → Lives (but_xid x ts) after
ended_lives x ts live after l are = record {
  of = λ y.
      ap survivors_of (of_but x y ts)
      ∙ elim (same_xid x y) as (λ b. survivors_of (cond b [] (of_xid y ts)) ≡ cond b [] (survivors_of (of_xid y ts))) [
        | true ↦
            refl
        | false ↦ refl
      ]
      ∙ ap (λ ss. cond (same_xid x y) [] ss) (l.of y)
      ∙ listed_cond (same_xid x y) None (changes_of y live)
      ∙ ap option_to_list (sym (are y));
}

started_lives : (at : Pos) (x : Xid) (s : Standing) (ts : List Txn) (live after : OpenChanges) → is_open s x ≡ false →
    Opens s live → Lives ts live →
    ((y : Xid) → changes_of y after ≡ cond (same_xid y x) (Some []) (changes_of y live)) → Lives (with_started at x ts) after
started_lives at x s ts live after closed o l are =
    let new : Txn = record { start = at; xid = x; survivors = [] } in
    record {
      of = λ y.
          ap survivors_of (filter-append (λ t. same_xid t.xid y) ts (new ∷ []))
          ∙ map-append (λ t. t.survivors) (of_xid y ts) (of_xid y (new ∷ []))
          ∙ ap (λ ss. ss ++ survivors_of (of_xid y (new ∷ []))) (l.of y)
          ∙ elim (same_xid x y) as (λ b. same_xid x y ≡ b →
          (option_to_list (changes_of y live) ++ survivors_of (cond b (new ∷ []) [])) ≡
          option_to_list (cond b (Some []) (changes_of y live))) [
            | true ↦ λ is.
                let none : changes_of y live ≡ None = absent (changes_of y live)
                (sym (o.alike y) ∙ ap (λ z. is_open s z) (sym (same_are x y is)) ∙ closed) in
                ap (λ p. option_to_list p ++ [] ∷ []) none
            | false ↦ λ is. append-nil (option_to_list (changes_of y live))
          ] refl
          ∙ ap (λ b. option_to_list (cond b (Some []) (changes_of y live))) (same_sym x y)
          ∙ ap option_to_list (sym (are y));
    }

pub lives_after : (h : Header) (scn : ℕ) (at : Pos) (v : Vector) (s : Standing) (hist : History) (live : OpenChanges) →
    Opens s live → vector_fault h s v ≡ None → Lives hist.active live →
    Lives (after_vector scn at v hist).active (live_after at v live)
lives_after h scn at (Start x) s hist live o fits l =
    started_lives at x s hist.active live _ (no_fault (is_open s x) faults.OpenTwice
    (none_second (dictionary_fault h s (Start x)) _ fits)) o l (λ y. opened_changes x y live)
lives_after h scn at (OfChange c) s hist live o fits l =
    changed_lives (txn_after_change (at, c)) (λ ps. after_change ps (at, c)) c.xid hist.active live (λ t. refl) (λ t. refl) l _
    (λ y. rechanged_changes c.xid y (λ ps. after_change ps (at, c)) live)
lives_after h scn at (Undo x) s hist live o fits l =
    changed_lives txn_after_undo after_undo x hist.active live (λ t. refl) (λ t. refl) l _
    (λ y. rechanged_changes x y after_undo live)
lives_after h scn at (Commit x) s hist live o fits l = ended_lives x hist.active live _ l (λ y. closed_changes x y live o.rising)
lives_after h scn at (Rollback x) s hist live o fits l =
    ended_lives x hist.active live _ l (λ y. closed_changes x y live o.rising)
lives_after h scn at (Table t) s hist live o fits l = record { of = l.of }
lives_after h scn at DictEnd s hist live o fits l = record { of = l.of }

-- ---- what a COMMIT ends

-- one transaction, with these survivors
pub record Ends (ts : List Txn) (ps : List Placed) : Type 0 where
  pub txn : Txn
  pub is : ts ≡ txn ∷ []
  pub survivors : txn.survivors ≡ ps

any_from_filter : (p : Txn → Bool) (ts : List Txn) → filter p ts ≡ [] → list_any p ts ≡ false
any_from_filter p [] e = refl
any_from_filter p (t ∷ ts) e =
    elim (p t) as (λ b. cond b (t ∷ filter p ts) (filter p ts) ≡ [] → (b || list_any p ts) ≡ false) [
      | true ↦ λ is. absurd (cc)
      | false ↦ λ is. any_from_filter p ts is
    ] e

any_from_found : (p : Txn → Bool) (ts us : List Txn) (u : Txn) → filter p ts ≡ u ∷ us → list_any p ts ≡ true
any_from_found p [] us u e = absurd (cc)
any_from_found p (t ∷ ts) us u e =
    elim (p t) as (λ b. cond b (t ∷ filter p ts) (filter p ts) ≡ u ∷ us → (b || list_any p ts) ≡ true) [
      | true ↦ λ is. refl
      | false ↦ λ is. any_from_found p ts us u is
    ] e

none_listed : (ts : List Txn) → survivors_of ts ≡ [] → ts ≡ []
none_listed [] e = refl
none_listed (t ∷ ts) e = absurd (cc)

one_listed : (ts : List Txn) (ps : List Placed) → survivors_of ts ≡ ps ∷ [] → Ends ts ps
one_listed [] ps e = absurd (cc)
one_listed (t ∷ []) ps e = record { txn = t; is = refl; survivors = cc }
one_listed (t ∷ u ∷ ts) ps e = absurd (cc)

pub commit_ends : (at : Pos) (x : Xid) (ts : List Txn) (live : OpenChanges) → Lives ts live →
    Ends (txns_ended_by at x ts) (unwrap_or (changes_of x live) [])
commit_ends at x ts live l = by (changes_of x live) (l.of x)
  where
    by : (o : Option (List Placed)) → survivors_of (of_xid x ts) ≡ option_to_list o →
        Ends (txns_ended_by at x ts) (unwrap_or o [])
    by None e =
        let none = any_from_filter (λ t. same_xid t.xid x) ts (none_listed (of_xid x ts) e) in
        record {
          txn = txn_known_by_commit at x;
          is = ap (λ b. cond b (of_xid x ts) (txn_known_by_commit at x ∷ [])) none;
          survivors = refl;
        }
    by (Some ps) e =
        let one = one_listed (of_xid x ts) ps e in
        let some = any_from_found (λ t. same_xid t.xid x) ts [] one.txn one.is in
        record {
          txn = one.txn;
          is = ap (λ b. cond b (of_xid x ts) (txn_known_by_commit at x ∷ [])) some ∙ one.is;
          survivors = one.survivors;
        }
