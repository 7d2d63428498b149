-- The surviving changes beside the standing: an admitted vector leaves both with the same open transactions, and with
-- changes that the dictionary accepts.
use Rattle.std.proofs.Common.{◌≡◌, ℕ, ◌==◌, nat_le, List, [], ◌∷◌, ◌++◌, take, length, ◌-◌, zero, suc, refl, sym, ap, ◌∙◌, subst, Bool, true, false, cond, not, ◌&&◌, ◌||◌, Option, Some, None, is_some, arith}
use Rattle.std.specs.List.{list_any}
use Rattle.std.specs.Option.{option_map, option_or}
use Rattle.std.proofs.lemmas.Bool.Decides.{nat_tests}
use Rattle.std.proofs.lemmas.List.Folds.{list_any-append}
use Rattle.rl_value.specs.declared.xid.Xid.{Xid}
use Rattle.rl_value.specs.declared.pos.Pos.{Pos}
use Rattle.rl_value.specs.declared.cause.LawFault.{LawFault}
use Rattle.rl_value.specs.Outcome.{first_fault}
use Rattle.redo_vec.specs.declared.table.TableRow.{TableRow}
use Rattle.redo_vec.specs.declared.change.Change.{Change}
use Rattle.redo_vec.specs.declared.vector.Vector.{Vector}
use Rattle.redo_vec.specs.declared.vector.Vector.TheVariants.{Start, Change as OfChange, Undo, Commit, Rollback, Table, DictEnd}
use Rattle.redo_spec.specs.declared.header.Header.{Header}
use Rattle.redo_spec.specs.ChangeForm.{change_fault}
use Rattle.redo_spec.specs.Survivors.{after_change, after_undo}
use Rattle.redo_spec.specs.History.{Placed, same_xid}
use Rattle.redo_spec.specs.Standing.{Standing, OpenTxn, is_open, with_open, without_open as closed_txns, standing_after}
use Rattle.redo_spec.specs.Law.{dictionary_fault, own_fault, vector_fault, is_passed_over, open_fault, made_fault, unless}
use Rattle.primary.specs.Progress.{OpenChanges, changes_of, with_changes, live_after}
use Rattle.primary.specs.Running.{AreAccepted, Opens, FitsStanding}
use Rattle.primary.proofs.LiveLaws.{same_are, opened_changes, closed_changes, rechanged_changes, opened_rises, closed_rises, rechanged_rises}

-- ---- tests

pub none_first : {A : Type 0} (o p : Option A) → option_or o p ≡ None → o ≡ None
none_first None p e = refl
none_first (Some x) p e = absurd (cc)

pub none_second : {A : Type 0} (o p : Option A) → option_or o p ≡ None → p ≡ None
none_second None p e = e
none_second (Some x) p e = absurd (cc)

pub no_fault : (test : Bool) (fault : LawFault) → first_fault ((test, fault) ∷ []) ≡ None → test ≡ false
no_fault false fault e = refl
no_fault true fault e = absurd (cc)

pub is_whole : (finished other : Bool) → ((finished && false) || (not finished && true) || (not finished && other)) ≡ false →
    finished ≡ true
is_whole true other e = refl
is_whole false other e = absurd (cc)

pub is_unfinished : (finished other : Bool) → ((finished && true) || (not finished && false) || (not finished && other)) ≡ false →
    finished ≡ false
is_unfinished false other e = refl
is_unfinished true other e = absurd (cc)

pub both : {A : Type 0} (b : Bool) → b ≡ true → b ≡ false → A
both true is not = absurd (cc)
both false is not = absurd (cc)

or_false : (a : Bool) → (a || false) ≡ a
or_false true = refl
or_false false = refl

same_flip : (a b : ℕ) → (a == b) ≡ (b == a)
same_flip a b = grind (arith, nat_tests)

pub same_sym : (x y : Xid) → same_xid x y ≡ same_xid y x
same_sym x y = λ i. (same_flip x.usn y.usn i && same_flip x.slot y.slot i) && same_flip x.sqn y.sqn i

-- ---- the open transactions of a standing

any_with : (f : OpenTxn → OpenTxn) (x y : Xid) → ((t : OpenTxn) → (f t).xid ≡ t.xid) → (ts : List OpenTxn) →
    list_any (λ t. same_xid t.xid y) (with_open f x ts) ≡ list_any (λ t. same_xid t.xid y) ts
any_with f x y keeps [] = refl
any_with f x y keeps (t ∷ ts) =
    elim (same_xid t.xid x) as (λ b. (same_xid (cond b (f t) t).xid y || list_any (λ t. same_xid t.xid y) (with_open f x ts)) ≡
    (same_xid t.xid y || list_any (λ t. same_xid t.xid y) ts)) [
      | true ↦ (λ i. same_xid (keeps t i) y || any_with f x y keeps ts i)
      | false ↦ ap (λ b. same_xid t.xid y || b) (any_with f x y keeps ts)
    ]

any_closed : (x y : Xid) (ts : List OpenTxn) → list_any (λ t. same_xid t.xid y) (closed_txns x ts) ≡
    cond (same_xid x y) false (list_any (λ t. same_xid t.xid y) ts)
any_closed x y [] = elim (same_xid x y) as (λ b. false ≡ cond b false false) [ true ↦ refl | false ↦ refl ]
any_closed x y (t ∷ ts) =
    let left = closed_txns x ts in
    let rest = list_any (λ t. same_xid t.xid y) ts in
    elim (same_xid t.xid x) as (λ b. same_xid t.xid x ≡ b →
    list_any (λ t. same_xid t.xid y) (cond (not b) (t ∷ left) left) ≡ cond (same_xid x y) false (same_xid t.xid y || rest)) [
      | true ↦ λ is.
          any_closed x y ts
          ∙ elim (same_xid x y) as (λ b. cond b false rest ≡ cond b false (b || rest)) [ true ↦ refl | false ↦ refl ]
          ∙ ap (λ z. cond (same_xid x y) false (same_xid z y || rest)) (sym (same_are t.xid x is))
      | false ↦ λ apart.
          ap (λ b. same_xid t.xid y || b) (any_closed x y ts)
          ∙ elim (same_xid x y) as (λ b. same_xid x y ≡ b →
          (same_xid t.xid y || cond b false rest) ≡ cond b false (same_xid t.xid y || rest)) [
            | true ↦ λ is. or_false (same_xid t.xid y) ∙ ap (λ z. same_xid t.xid z) (sym (same_are x y is)) ∙ apart
            | false ↦ λ is. refl
          ] refl
    ] refl

opened_some : (b : Bool) (o : Option (List Placed)) → is_some (cond b (Some []) o) ≡ (is_some o || b)
opened_some true None = refl
opened_some true (Some ps) = refl
opened_some false o = sym (or_false (is_some o))

closed_some : (b : Bool) (o : Option (List Placed)) → is_some (cond b None o) ≡ cond b false (is_some o)
closed_some true o = refl
closed_some false o = refl

mapped_some : (f : List Placed → List Placed) (o : Option (List Placed)) → is_some (option_map f o) ≡ is_some o
mapped_some f None = refl
mapped_some f (Some ps) = refl

pub rechanged_some : (x y : Xid) (f : List Placed → List Placed) (live : OpenChanges) →
    is_some (changes_of y (with_changes x f live (changes_of x live))) ≡ is_some (changes_of y live)
rechanged_some x y f live =
    ap is_some (rechanged_changes x y f live)
    ∙ elim (same_xid x y) as (λ b. same_xid x y ≡ b → is_some (cond b (option_map f (changes_of x live)) (changes_of y live)) ≡
    is_some (changes_of y live)) [
      | true ↦ λ is. mapped_some f (changes_of x live) ∙ ap (λ z. is_some (changes_of z live)) (same_are x y is)
      | false ↦ λ is. refl
    ] refl

pub opens_after : (vec : ℕ) (at : Pos) (v : Vector) (s : Standing) (live : OpenChanges) → Opens s live →
    Opens (standing_after vec v s) (live_after at v live)
opens_after vec at (Start x) s live o = record {
  rising = opened_rises x live o.rising;
  alike = λ y. list_any-append (λ t. same_xid t.xid y) s.active _
      ∙ (λ i. o.alike y i || or_false (same_xid x y) i)
      ∙ sym (ap is_some (opened_changes x y live) ∙ opened_some (same_xid y x) (changes_of y live) ∙
      ap (λ b. is_some (changes_of y live) || b) (same_sym y x));
}
opens_after vec at (OfChange c) s live o = record {
  rising = rechanged_rises c.xid _ live (changes_of c.xid live) o.rising;
  alike = λ y. any_with _ c.xid y (λ t. refl) s.active ∙ o.alike y ∙
      sym (rechanged_some c.xid y (λ ps. after_change ps (at, c)) live);
}
opens_after vec at (Undo x) s live o = record {
  rising = rechanged_rises x after_undo live (changes_of x live) o.rising;
  alike = λ y. any_with _ x y (λ t. refl) s.active ∙ o.alike y ∙ sym (rechanged_some x y after_undo live);
}
opens_after vec at (Commit x) s live o = record {
  rising = closed_rises x live o.rising;
  alike = λ y. any_closed x y s.active ∙ ap (λ b. cond (same_xid x y) false b) (o.alike y)
      ∙ sym (ap is_some (closed_changes x y live o.rising) ∙ closed_some (same_xid x y) (changes_of y live));
}
opens_after vec at (Rollback x) s live o = record {
  rising = closed_rises x live o.rising;
  alike = λ y. any_closed x y s.active ∙ ap (λ b. cond (same_xid x y) false b) (o.alike y)
      ∙ sym (ap is_some (closed_changes x y live o.rising) ∙ closed_some (same_xid x y) (changes_of y live));
}
opens_after vec at (Table t) s live o = record { rising = o.rising; alike = o.alike }
opens_after vec at DictEnd s live o = record { rising = o.rising; alike = o.alike }

-- ---- changes that the dictionary accepts

accepted_more : (tables : List TableRow) (ps : List Placed) (p : Placed) → AreAccepted tables ps →
    change_fault tables p.1 ≡ None → AreAccepted tables (ps ++ p ∷ [])
accepted_more tables [] p all one = (one, tt)
accepted_more tables (q ∷ qs) p all one = (all.0, accepted_more tables qs p all.1 one)

accepted_front : (tables : List TableRow) (n : ℕ) (ps : List Placed) → AreAccepted tables ps → AreAccepted tables (take n ps)
accepted_front tables zero [] all = tt
accepted_front tables zero (p ∷ ps) all = tt
accepted_front tables (suc n) [] all = tt
accepted_front tables (suc n) (p ∷ ps) all = (all.0, accepted_front tables n ps all.1)

-- of a fact for each transaction, after the map has changed at one
pub changed_at : (P : List Placed → Type 0) (b : Bool) (new old : Option (List Placed)) (ps : List Placed) →
    cond b new old ≡ Some ps →
    ((qs : List Placed) → new ≡ Some qs → P qs) → ((qs : List Placed) → old ≡ Some qs → P qs) → P ps
changed_at P true new old ps e here there = here ps e
changed_at P false new old ps e here there = there ps e

pub mapped_is : (P : List Placed → Type 0) (f : List Placed → List Placed) (o : Option (List Placed)) (qs : List Placed) →
    option_map f o ≡ Some qs →
    ((ps : List Placed) → o ≡ Some ps → P (f ps)) → P qs
mapped_is P f None qs e keeps = absurd (cc)
mapped_is P f (Some ps) qs e keeps = let is : f ps ≡ qs = cc in subst P is (keeps ps refl)

-- a change of an open transaction is accepted
change_is_accepted : (s : Standing) (c : Change) → own_fault s (OfChange c) ≡ None → is_open s c.xid ≡ true →
    change_fault s.dictionary.tables c ≡ None
change_is_accepted s c fits is =
    let passed : is_passed_over s c.xid ≡ false = ap (λ b. nat_le s.rec s.known && not b) is ∙ and_false (nat_le s.rec s.known) in
    let made : unless (is_passed_over s c.xid) (made_fault s c) ≡ None = none_second (open_fault s c.xid) _ fits in
    none_first (change_fault s.dictionary.tables c) _ (ap (λ b. unless b (made_fault s c)) (sym passed) ∙ made)
  where
    and_false : (b : Bool) → (b && false) ≡ false
    and_false true = refl
    and_false false = refl

nowhere : (y : Xid) (live : OpenChanges) (ps : List Placed) → live ≡ [] → changes_of y live ≡ Some ps → (P : Type 0) → P
nowhere y live ps none e P = let gone : None ≡ Some ps = sym (ap (changes_of y) none) ∙ e in absurd (cc)

pub fits_after : (h : Header) (vec : ℕ) (at : Pos) (v : Vector) (s : Standing) (live : OpenChanges) → FitsStanding s live →
    vector_fault h s v ≡ None → FitsStanding (standing_after vec v s) (live_after at v live)
fits_after h vec at (Start x) s live f fits =
    let whole = is_whole s.dictionary.finished _ (no_fault _ _ (none_first (dictionary_fault h s (Start x)) _ fits)) in
    record {
      opens = opens_after vec at (Start x) s live f.opens;
      accepted = λ y ps e. changed_at (AreAccepted s.dictionary.tables) (same_xid y x) (Some []) (changes_of y live) ps
          (sym (opened_changes x y live) ∙ e)
          (λ qs is. let empty : [] ≡ qs = cc in subst (AreAccepted s.dictionary.tables) empty tt) (λ qs is. f.accepted y qs is);
      none = λ e. both s.dictionary.finished whole e;
    }
fits_after h vec at (OfChange c) s live f fits =
    let whole = is_whole s.dictionary.finished _ (no_fault _ _ (none_first (dictionary_fault h s (OfChange c)) _ fits)) in
    record {
      opens = opens_after vec at (OfChange c) s live f.opens;
      accepted = λ y ps e. changed_at (AreAccepted s.dictionary.tables) (same_xid c.xid y)
          (option_map (λ qs. after_change qs (at, c)) (changes_of c.xid live)) (changes_of y live) ps
          (sym (rechanged_changes c.xid y (λ qs. after_change qs (at, c)) live) ∙ e)
          (λ qs is. mapped_is (AreAccepted s.dictionary.tables) (λ qs. after_change qs (at, c)) (changes_of c.xid live) qs is
          (λ rs was. accepted_more s.dictionary.tables rs (at, c) (f.accepted c.xid rs was)
          (change_is_accepted s c (none_second (dictionary_fault h s (OfChange c)) _ fits)
          (f.opens.alike c.xid ∙ ap is_some was))))
          (λ qs is. f.accepted y qs is);
      none = λ e. both s.dictionary.finished whole e;
    }
fits_after h vec at (Undo x) s live f fits =
    let whole = is_whole s.dictionary.finished _ (no_fault _ _ (none_first (dictionary_fault h s (Undo x)) _ fits)) in
    record {
      opens = opens_after vec at (Undo x) s live f.opens;
      accepted = λ y ps e. changed_at (AreAccepted s.dictionary.tables) (same_xid x y) (option_map after_undo (changes_of x live))
          (changes_of y live) ps (sym (rechanged_changes x y after_undo live) ∙ e)
          (λ qs is. mapped_is (AreAccepted s.dictionary.tables) after_undo (changes_of x live) qs is
          (λ rs was. accepted_front s.dictionary.tables (length rs - 1) rs (f.accepted x rs was)))
          (λ qs is. f.accepted y qs is);
      none = λ e. both s.dictionary.finished whole e;
    }
fits_after h vec at (Commit x) s live f fits =
    let whole = is_whole s.dictionary.finished _ (no_fault _ _ (none_first (dictionary_fault h s (Commit x)) _ fits)) in
    record {
      opens = opens_after vec at (Commit x) s live f.opens;
      accepted = λ y ps e. changed_at (AreAccepted s.dictionary.tables) (same_xid x y) None (changes_of y live) ps
          (sym (closed_changes x y live f.opens.rising) ∙ e) (λ qs is. absurd (cc)) (λ qs is. f.accepted y qs is);
      none = λ e. both s.dictionary.finished whole e;
    }
fits_after h vec at (Rollback x) s live f fits =
    let whole = is_whole s.dictionary.finished _ (no_fault _ _ (none_first (dictionary_fault h s (Rollback x)) _ fits)) in
    record {
      opens = opens_after vec at (Rollback x) s live f.opens;
      accepted = λ y ps e. changed_at (AreAccepted s.dictionary.tables) (same_xid x y) None (changes_of y live) ps
          (sym (closed_changes x y live f.opens.rising) ∙ e) (λ qs is. absurd (cc)) (λ qs is. f.accepted y qs is);
      none = λ e. both s.dictionary.finished whole e;
    }
fits_after h vec at (Table t) s live f fits =
    let none = f.none (is_unfinished s.dictionary.finished _ (no_fault _ _ (none_first (dictionary_fault h s (Table t)) _ fits)))
    in
    record {
      opens = opens_after vec at (Table t) s live f.opens;
      accepted = λ y ps e. nowhere y live ps none e _;
      none = f.none;
    }
fits_after h vec at DictEnd s live f fits =
    let none = f.none (is_unfinished s.dictionary.finished _ (no_fault _ _ (none_first (dictionary_fault h s DictEnd) _ fits))) in
    record {
      opens = opens_after vec at DictEnd s live f.opens;
      accepted = λ y ps e. nowhere y live ps none e _;
      none = λ e. none;
    }
