-- Laws of the publisher: a call of a run that makes a state which fits leaves a publisher that fits, however it ends.
use Rattle.std.proofs.Common.{◌≡◌, ℕ, ◌+◌, ◌-◌, ◌≤◌, ◌<◌, List, [], ◌∷◌, length, take, Bool, true, false, refl, sym, ap, ◌∙◌, subst, Option, Some, None, arith, inl, inr}
use Rattle.std.specs.Prelude.{◌&&◌, ◌==◌, nat_le, if◌then◌else◌, unwrap_or}
use Rattle.std.proofs.lemmas.Bool.Decides.{nat_tests}
use Rattle.std.specs.List.{find, list_all, AllByRecursion}
use Rattle.rl_ports.specs.declared.batch.Item.{Item}
use Rattle.rl_ports.specs.Store.{Store, after_batch}
use Rattle.rl_ports.specs.Faults.{Rose, Told}
use Rattle.redo_vec.specs.declared.table.TableRow.{TableRow}
use Rattle.redo_spec.specs.Dictionary.{ids_rise}
use Rattle.redo_spec.specs.History.{commits_after, no_history}
use Rattle.redo_spec.specs.Standing.{beginning}
use Rattle.redo_spec.specs.Skips.{Skip, is_maintained}
use Rattle.redo_spec.specs.Tables.{Table, Tables, definitions_of}
use Rattle.redo_spec.specs.Fold.{Base, tables_at, visible_tables}
use Rattle.standby_spec.specs.declared.mark.Mark.{Mark}
use Rattle.standby_spec.specs.KeptState.{KeptState, base_of}
use Rattle.standby_spec.specs.Layout.{pairs_of}
use Rattle.standby_spec.specs.StandbyRedo.{Archived, redo_entries, commits_of}
use Rattle.standby_spec.specs.Writings.{Writing, AddLog, AddSkip, SetLevel, PutRow, Publish, KeepMark, state_after, items_for, state_after_all, items_for_all}
use Rattle.standby_spec.specs.HasLayout.{HasLayout, MayBeDone, MayAllBeDone}
use Rattle.standby_spec.specs.Fits.{Fits}
use Rattle.standby_spec.specs.Lawful.{beginning_base, Belongs, IsLawful}
use Rattle.standby_spec.specs.Publishing.{Publishing, Ending, Done, Failed, Refused, StoreAfter, Leaves, Does, DoesAll, next_shown, shown_pairs, Keeps, is_of_run, group_limit, IsAhead, in_run, PublisherFits}
use Rattle.standby_spec.proofs.AgainLaws.{belonging-lawful}
use Rattle.standby_spec.proofs.FitsLaws.{itself-fits}
use Rattle.standby_spec.proofs.ItemLaws.{writing-leads}
use Rattle.standby_spec.proofs.LayoutLaws.{writings-lead}
use Rattle.standby_spec.proofs.OverLaws.{given, commits-same, admitted-before, same-scn}
use Rattle.standby_spec.proofs.StoreLaws.{and-left, and-right}

abbrev with_parts : Tables → ℕ → ℕ → Option Mark → KeptState → KeptState
with_parts tables n scn mark t = record t { tables = tables; n = n; scn = scn; mark = mark }

-- what a run may change is all that one of its writings changes
run-changes : (opening s : KeptState) (w : Writing) → is_of_run w ≡ true → s ≡ in_run opening s →
    state_after w s ≡ in_run opening (state_after w s)
run-changes opening s (AddLog e) run same = absurd (cc)
run-changes opening s (AddSkip rule) run same = absurd (cc)
run-changes opening s (SetLevel level) run same = absurd (cc)
run-changes opening s (PutRow table row) run same = absurd (cc)
run-changes opening s (Publish scn writes) run same = ap
    (with_parts (state_after (Publish scn writes) s).tables (s.n + 1) scn s.mark) same
run-changes opening s (KeepMark k) run same = ap (with_parts s.tables s.n s.scn (Some k)) same

ahead-one : (b : Base) (logs : Archived) (begun : ℕ) (s : KeptState) (w : Writing) → is_of_run w ≡ true →
    Fits b logs begun (state_after w s) → HasLayout (state_after w s) → IsAhead b logs begun s (state_after w s)
ahead-one b logs begun s w run fits layout = record {
  writings = w ∷ [];
  few = omega arith;
  run = ap (λ x. x && true) run;
  made = refl;
  fits = fits;
  layout = layout;
}

-- ---- the store

old-pairs : (s : KeptState) (state : Option KeptState) → state ≡ Some s → shown_pairs state ≡ pairs_of s
old-pairs s state e = ap shown_pairs e

pub done-keeps : (next : KeptState → Type 0) (items : List Item) (s later : KeptState) (state : Option KeptState)
    (old now : Option Store) →
    StoreAfter items Done old now → Told old (Keeps next false (Some s)) → after_batch items (pairs_of s) ≡ pairs_of later →
    Told now (Keeps next false (Some later))
done-keeps next items s later state None now left keeps leads = subst (λ o. Told o (Keeps next false (Some later))) (sym left) tt
done-keeps next items s later state (Some pairs) now left keeps leads =
    subst (λ o. Told o (Keeps next false (Some later))) (sym left) (ap (after_batch items) keeps ∙ leads)

pub refused-keeps : (next : KeptState → Type 0) (items : List Item) (s : KeptState) (old now : Option Store) →
    StoreAfter items Refused old now → Told old (Keeps next false (Some s)) → Told now (Keeps next false (Some s))
refused-keeps next items s None now left keeps = subst (λ o. Told o (Keeps next false (Some s))) (sym left) tt
refused-keeps next items s (Some pairs) now left keeps = subst (λ o. Told o (Keeps next false (Some s))) (sym left) keeps

pub failed-keeps : (next : KeptState → Type 0) (items : List Item) (s later : KeptState) (old now : Option Store) → next later →
    StoreAfter items Failed old now → Told old (Keeps next false (Some s)) → after_batch items (pairs_of s) ≡ pairs_of later →
    Told now (Keeps next true (Some s))
failed-keeps next items s later None now is left keeps leads = subst (λ o. Told o (Keeps next true (Some s))) (sym left) tt
failed-keeps next items s later (Some pairs) now is (inl same) keeps leads =
    subst (λ o. Told o (Keeps next true (Some s))) (sym same) (inl keeps)
failed-keeps next items s later (Some pairs) now is (inr changed) keeps leads =
    subst (λ o. Told o (Keeps next true (Some s))) (sym changed) (inr (later, (is, ap (after_batch items) keeps ∙ leads)))

-- a store that is not behind a failure holds what is shown, whatever may be ahead
pub done-free : (one other : KeptState → Type 0) (later : KeptState) (now : Option Store) → Told now (Keeps one false (Some later)) →
    Told now (Keeps other false (Some later))
done-free one other later None keeps = tt
done-free one other later (Some pairs) keeps = keeps

pub not-both : (b : Bool) → b ≡ false → b ≡ true → ⊥
not-both b e f = cc

-- ---- the call

pub rose-since : (start before now : ℕ) → start ≤ before → Rose before now → Rose start now
rose-since start before now le rose = omega (arith, le, rose)

-- a call that is refused, or whose commit the store refuses for want of memory, leaves what was there
pub refused-keeps-all : {K : Type 0} (holds : K → Option Store) (faults : K → ℕ) (alone : Bool) (start : ℕ) (b : Base)
    (logs : Archived) (opening s : KeptState) (old new : Publishing K) (items : List Item) (later : KeptState) →
    PublisherFits holds faults start b logs opening s old → old.stopped ≡ false →
    Leaves holds faults alone old new items later Refused → PublisherFits holds faults start b logs opening s new
refused-keeps-all holds faults alone start b logs opening s old new items later p free leaves =
    let kept : Told (holds old.keeper) (Keeps (IsAhead b logs opening.n s) false (Some s)) =
    subst (λ o. Told (holds old.keeper) (Keeps (IsAhead b logs opening.n s) false o)) p.there
    (subst (λ t. Told (holds old.keeper) (Keeps (IsAhead b logs opening.n s) t old.state)) free p.keeps) in
    let since = p.since in
    let behind = leaves.count.later in
    record {
      there = leaves.state ∙ p.there;
      same = p.same;
      fits = p.fits;
      layout = p.layout;
      keeps = subst (λ t. Told (holds new.keeper) (Keeps (IsAhead b logs opening.n s) t new.state)) (sym leaves.stopped)
          (subst (λ o. Told (holds new.keeper) (Keeps (IsAhead b logs opening.n s) false o)) (sym (leaves.state ∙ p.there))
          (refused-keeps (IsAhead b logs opening.n s) items s (holds old.keeper) (holds new.keeper) leaves.store kept));
      since = omega (arith, since, behind);
      risen = λ stopped. absurd (not-both new.stopped leaves.stopped stopped);
    }

-- a call that was to make a state which is ahead in the run, by items that lead to its pairs
pub leaves-keeps : {K : Type 0} (holds : K → Option Store) (faults : K → ℕ) (alone : Bool) (start : ℕ) (b : Base) (logs : Archived)
    (opening s later : KeptState) (old new : Publishing K) (items : List Item) (ending : Ending) →
    PublisherFits holds faults start b logs opening s old → old.stopped ≡ false → IsAhead b logs opening.n s later →
    later ≡ in_run opening later → after_batch items (pairs_of s) ≡ pairs_of later →
    Leaves holds faults alone old new items later ending →
    PublisherFits holds faults start b logs opening (next_shown later s ending) new
leaves-keeps holds faults alone start b logs opening s later old new items Done p free ahead run leads leaves =
    let kept : Told (holds old.keeper) (Keeps (IsAhead b logs opening.n s) false (Some s)) =
    subst (λ o. Told (holds old.keeper) (Keeps (IsAhead b logs opening.n s) false o)) p.there
    (subst (λ t. Told (holds old.keeper) (Keeps (IsAhead b logs opening.n s) t old.state)) free p.keeps) in
    let since = p.since in
    let behind = leaves.count.later in
    record {
      there = leaves.state;
      same = run;
      fits = ahead.fits;
      layout = ahead.layout;
      keeps = subst (λ t. Told (holds new.keeper) (Keeps (IsAhead b logs opening.n later) t new.state)) (sym leaves.stopped)
          (subst (λ o. Told (holds new.keeper) (Keeps (IsAhead b logs opening.n later) false o)) (sym leaves.state)
          (done-free (IsAhead b logs opening.n s) (IsAhead b logs opening.n later) later (holds new.keeper)
          (done-keeps (IsAhead b logs opening.n s) items s later old.state (holds old.keeper) (holds new.keeper) leaves.store kept
          leads)));
      since = omega (arith, since, behind);
      risen = λ stopped. absurd (not-both new.stopped leaves.stopped stopped);
    }
leaves-keeps holds faults alone start b logs opening s later old new items Failed p free ahead run leads leaves =
    let kept : Told (holds old.keeper) (Keeps (IsAhead b logs opening.n s) false (Some s)) =
    subst (λ o. Told (holds old.keeper) (Keeps (IsAhead b logs opening.n s) false o)) p.there
    (subst (λ t. Told (holds old.keeper) (Keeps (IsAhead b logs opening.n s) t old.state)) free p.keeps) in
    let since = p.since in
    let behind = leaves.count.later in
    record {
      there = leaves.state ∙ p.there;
      same = p.same;
      fits = p.fits;
      layout = p.layout;
      keeps = subst (λ t. Told (holds new.keeper) (Keeps (IsAhead b logs opening.n s) t new.state)) (sym leaves.stopped)
          (subst (λ o. Told (holds new.keeper) (Keeps (IsAhead b logs opening.n s) true o)) (sym (leaves.state ∙ p.there))
          (failed-keeps (IsAhead b logs opening.n s) items s later (holds old.keeper) (holds new.keeper) ahead leaves.store kept
          leads));
      since = omega (arith, since, behind);
      risen = λ stopped. rose-since start (faults old.keeper) (faults new.keeper) p.since leaves.count.rose;
    }
leaves-keeps holds faults alone start b logs opening s later old new items Refused p free ahead run leads leaves =
    refused-keeps-all holds faults alone start b logs opening s old new items later p free leaves

pub call-keeps : {K : Type 0} (holds : K → Option Store) (faults : K → ℕ) (alone : Bool) (start : ℕ) (b : Base) (logs : Archived)
    (opening s : KeptState)
    (old new : Publishing K) (w : Writing) (ending : Ending) → PublisherFits holds faults start b logs opening s old →
    old.stopped ≡ false →
    is_of_run w ≡ true → MayBeDone w s → Fits b logs opening.n (state_after w s) → HasLayout (state_after w s) →
    Does holds faults alone w s old new ending →
    PublisherFits holds faults start b logs opening (next_shown (state_after w s) s ending) new
call-keeps holds faults alone start b logs opening s old new w ending p free run may fits layout does =
    leaves-keeps holds faults alone start b logs opening s (state_after w s) old new (items_for w s) ending p free
    (ahead-one b logs opening.n s w run fits layout) (run-changes opening s w run p.same) (writing-leads s w p.layout may) does

-- ---- several writings that one commit of the store does

pub all-changes : (opening s : KeptState) (ws : List Writing) → list_all is_of_run ws ≡ true → s ≡ in_run opening s →
    state_after_all ws s ≡ in_run opening (state_after_all ws s)
all-changes opening s [] run same = same
all-changes opening s (w ∷ ws) run same =
    all-changes opening (state_after w s) ws (and-right (is_of_run w) (list_all is_of_run ws) run)
    (run-changes opening s w (and-left (is_of_run w) (list_all is_of_run ws) run) same)

pub group-keeps : {K : Type 0} (holds : K → Option Store) (faults : K → ℕ) (alone : Bool) (start : ℕ) (b : Base) (logs : Archived)
    (opening s : KeptState) (old new : Publishing K) (ws : List Writing) (ending : Ending) →
    PublisherFits holds faults start b logs opening s old → old.stopped ≡ false → length ws ≤ group_limit →
    list_all is_of_run ws ≡ true → MayAllBeDone ws s → Fits b logs opening.n (state_after_all ws s) →
    HasLayout (state_after_all ws s) → DoesAll holds faults alone ws s old new ending →
    PublisherFits holds faults start b logs opening (next_shown (state_after_all ws s) s ending) new
group-keeps holds faults alone start b logs opening s old new ws ending p free few run may fits layout does =
    leaves-keeps holds faults alone start b logs opening s (state_after_all ws s) old new (items_for_all ws s) ending p free
    (record { writings = ws; few = few; run = run; made = refl; fits = fits; layout = layout })
    (all-changes opening s ws run p.same) (writings-lead s ws p.layout may) does

-- ---- the store of a publisher that fits

-- a table that is shown by its id among tables of the same definitions has its own
own-behind : (t : Table) (all us : Tables) (least : ℕ) → t.row.id < least → ids_rise least (definitions_of us) ≡ true →
    AllByRecursion (λ u. (unwrap_or (find (λ x. x.row.id == u.row.id) all) u).row ≡ u.row) us →
    AllByRecursion (λ u. (unwrap_or (find (λ x. x.row.id == u.row.id) (t ∷ all)) u).row ≡ u.row) us
own-behind t all [] least lt rise is = tt
own-behind t all (u ∷ us) least lt rise is =
    let here : nat_le least u.row.id ≡ true = and-left (nat_le least u.row.id)
    (ids_rise (u.row.id + 1) (definitions_of us)) rise in
    let low : least ≤ u.row.id = grind (arith, nat_tests) in
    let apart : (t.row.id == u.row.id) ≡ false = grind (arith, nat_tests, low, lt) in (
      ap (λ b. (unwrap_or (if b then Some t else find (λ x. x.row.id == u.row.id) all) u).row) apart ∙ is.0,
      own-behind t all us (u.row.id + 1) (omega (arith, low, lt))
          (and-right (nat_le least u.row.id) (ids_rise (u.row.id + 1) (definitions_of us)) rise) is.1,
    )

own-shown : (least : ℕ) (all us : Tables) → definitions_of us ≡ definitions_of all → ids_rise least (definitions_of all) ≡ true →
    AllByRecursion (λ u. (unwrap_or (find (λ x. x.row.id == u.row.id) all) u).row ≡ u.row) us
own-shown least [] [] e rise = tt
own-shown least [] (u ∷ us) e rise = absurd (cc)
own-shown least (t ∷ all) [] e rise = tt
own-shown least (t ∷ all) (u ∷ us) e rise =
    let row : u.row ≡ t.row = cc in
    let rest : definitions_of us ≡ definitions_of all = cc in
    let id : t.row.id ≡ u.row.id = ap (λ (x : TableRow). x.id) (sym row) in
    let same : (t.row.id == u.row.id) ≡ true = grind (arith, nat_tests) in
    let later = and-right (nat_le least t.row.id) (ids_rise (t.row.id + 1) (definitions_of all)) rise in (
      ap (λ b. (unwrap_or (if b then Some t else find (λ x. x.row.id == u.row.id) all) u).row) same ∙ sym row,
      own-behind t all us (t.row.id + 1) (omega (arith, id)) (subst (λ ds. ids_rise (t.row.id + 1) ds ≡ true) (sym rest) later)
          (own-shown (t.row.id + 1) all us rest later),
    )

shown-row : (b : Bool) (u x : Table) → x.row ≡ u.row → (if b then u else x).row ≡ u.row
shown-row true u x e = refl
shown-row false u x e = e

shown-definitions : (skips : List Skip) (n : ℕ) (all us : Tables) →
    AllByRecursion (λ u. (unwrap_or (find (λ x. x.row.id == u.row.id) all) u).row ≡ u.row) us →
    definitions_of (visible_tables skips n all us) ≡ definitions_of us
shown-definitions skips n all [] is = refl
shown-definitions skips n all (u ∷ us) is =
    let here = shown-row (is_maintained skips n u.row) u (unwrap_or (find (λ x. x.row.id == u.row.id) all) u) is.0 in
    let rest = shown-definitions skips n all us is.1 in
    λ i. here i ∷ rest i

-- what a run makes of a state that belongs to archived logs belongs to them
pub run-belongs : (logs : Archived) (opening s : KeptState) → Belongs logs opening →
    Fits (base_of opening) logs opening.n (in_run opening s) →
    HasLayout (in_run opening s) → Belongs logs (in_run opening s)
run-belongs logs opening s is f h =
    let cs = commits_of logs opening in
    let t = given (visible_tables opening.skips s.n opening.tables) (tables_at (base_of opening) opening.skips cs s.n) s.tables
    f.shows.shown in
    let kept : definitions_of t.0 ≡ definitions_of opening.tables = commits-same opening.skips opening.n opening.tables t.0
    (take (s.n - opening.n) (commits_after cs opening.n)) t.1.0 in
    let same : definitions_of s.tables ≡ definitions_of opening.tables =
    ap definitions_of (sym t.1.1)
    ∙ shown-definitions opening.skips s.n opening.tables t.0 (own-shown 0 opening.tables t.0 kept is.layout.ids) ∙ kept in
    record {
      registered = is.registered;
      first = is.first;
      dictionary = same ∙ is.dictionary;
      scn = f.shows.scn ∙ same-scn (beginning_base opening) opening cs s.n
          (admitted-before (beginning opening.first opening.base) (no_history 0) (redo_entries logs opening)) (omega arith) f.run
          f.shows.made is.scn;
      fits = itself-fits (base_of opening) logs opening.n (in_run opening s) f h.ids;
      layout = h;
    }

lawful-of : (logs : Archived) (opening s : KeptState) → Belongs logs opening → s ≡ in_run opening s →
    Fits (base_of opening) logs opening.n s → HasLayout s →
    IsLawful logs (pairs_of s)
lawful-of logs opening s is same f h = belonging-lawful logs s (subst (Belongs logs) (sym same)
    (run-belongs logs opening s is (subst (Fits (base_of opening) logs opening.n) same f) (subst HasLayout same h)))

kept-lawful : (logs : Archived) (opening s : KeptState) → Belongs logs opening → s ≡ in_run opening s →
    Fits (base_of opening) logs opening.n s → HasLayout s →
    (stopped : Bool) (pairs : Store) → Keeps (IsAhead (base_of opening) logs opening.n s) stopped (Some s) pairs →
    IsLawful logs pairs
kept-lawful logs opening s is same f h false pairs keeps =
    subst (IsLawful logs) (sym keeps) (lawful-of logs opening s is same f h)
kept-lawful logs opening s is same f h true pairs (inl keeps) =
    subst (IsLawful logs) (sym keeps) (lawful-of logs opening s is same f h)
kept-lawful logs opening s is same f h true pairs (inr (later, (ahead, keeps))) =
    let run : later ≡ in_run opening later =
    subst (λ t. t ≡ in_run opening t) (sym ahead.made) (all-changes opening s ahead.writings ahead.run same) in
    subst (IsLawful logs) (sym keeps) (lawful-of logs opening later is run ahead.fits ahead.layout)

told-lawful : (logs : Archived) (opening s : KeptState) → Belongs logs opening → s ≡ in_run opening s →
    Fits (base_of opening) logs opening.n s → HasLayout s →
    (stopped : Bool) (held : Option Store) → Told held (Keeps (IsAhead (base_of opening) logs opening.n s) stopped (Some s)) →
    Told held (IsLawful logs)
told-lawful logs opening s is same f h stopped None keeps = tt
told-lawful logs opening s is same f h stopped (Some pairs) keeps = kept-lawful logs opening s is same f h stopped pairs keeps

pub fits-lawful : {K : Type 0} (holds : K → Option Store) (faults : K → ℕ) (start : ℕ) (logs : Archived) (opening s : KeptState)
    (p : Publishing K) →
    Belongs logs opening → PublisherFits holds faults start (base_of opening) logs opening s p →
    Told (holds p.keeper) (IsLawful logs)
fits-lawful holds faults start logs opening s p is f = told-lawful logs opening s is f.same f.fits f.layout p.stopped
    (holds p.keeper)
    (subst (λ o. Told (holds p.keeper) (Keeps (IsAhead (base_of opening) logs opening.n s) p.stopped o)) f.there f.keeps)
