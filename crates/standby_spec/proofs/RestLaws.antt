-- Laws of publishers at rest: what a call between runs leaves, and how a run begins and ends.
use Rattle.std.proofs.Common.{◌≡◌, ℕ, ◌≤◌, List, [], ◌∷◌, Bool, true, false, refl, sym, ap, ◌∙◌, subst, Option, Some, None, arith, inl, inr}
use Rattle.std.specs.Prelude.{IfSome, nat_lt}
use Rattle.std.proofs.lemmas.Bool.Decides.{nat_tests}
use Rattle.rl_value.specs.declared.value.Value.{Value}
use Rattle.rl_ports.specs.declared.batch.Item.{Item}
use Rattle.rl_ports.specs.Store.{Store, after_batch}
use Rattle.rl_ports.specs.Faults.{Told}
use Rattle.redo_vec.specs.declared.table.TableRow.{TableRow}
use Rattle.redo_spec.specs.Fold.{live_row_limit}
use Rattle.redo_spec.specs.Skips.{Rule}
use Rattle.redo_spec.specs.Tables.{row_count}
use Rattle.redo_spec.proofs.ListLaws.{all_append}
use Rattle.skip_guard.specs.declared.guard.Level.{Level}
use Rattle.log_registry.specs.declared.entry.LogEntry.{LogEntry}
use Rattle.standby_spec.specs.declared.mark.Mark.{Mark}
use Rattle.standby_spec.specs.KeptState.{KeptState, base_of}
use Rattle.standby_spec.specs.Layout.{pairs_of}
use Rattle.standby_spec.specs.StandbyRedo.{Archived}
use Rattle.standby_spec.specs.Checkpoint.{IsMarkOf}
use Rattle.standby_spec.specs.Writings.{Writing, AddLog, AddSkip, SetLevel, PutRow, Publish, KeepMark, skip_from, row_write, created_state, created_items, state_after, items_for}
use Rattle.standby_spec.specs.HasLayout.{HasLayout, MayBeDone, LeavesLayout}
use Rattle.standby_spec.specs.Fits.{Fits}
use Rattle.standby_spec.specs.Lawful.{Belongs, IsLawful}
use Rattle.standby_spec.specs.Publishing.{Publishing, Ending, Done, Failed, Refused, StoreAfter, Leaves, Does, next_shown, Keeps, IsAhead, in_run, PublisherFits, IsCreated, HasNoStandby}
use Rattle.standby_spec.specs.AtRest.{IsAtRest, leaves_redo, RestsAfter}
use Rattle.standby_spec.proofs.AgainLaws.{belonging-lawful}
use Rattle.standby_spec.proofs.FitsLaws.{own-fits}
use Rattle.standby_spec.proofs.ItemLaws.{same-definitions, writing-leads}
use Rattle.standby_spec.proofs.LayoutLaws.{leaves-layout}
use Rattle.standby_spec.proofs.PublisherLaws.{done-keeps, refused-keeps, failed-keeps, not-both, rose-since, all-changes, run-belongs}

-- ---- a state that belongs, changed

few-enough : (rows : ℕ) → rows ≤ live_row_limit → nat_lt live_row_limit rows ≡ false
few-enough rows le = grind (arith, nat_tests)

mark-with-rule : (logs : Archived) (s : KeptState) (rule : Rule) (m : Option Mark) → IfSome m (IsMarkOf logs s s.n) →
    IfSome m (IsMarkOf logs (state_after (AddSkip rule) s) s.n)
mark-with-rule logs s rule None is = tt
mark-with-rule logs s rule (Some k) is = record {
  fits = is.fits;
  before = is.before;
  place = is.place;
  q_scn = is.q_scn;
  m_scn = is.m_scn;
  commit_scn = is.commit_scn;
}

mark-with-level : (logs : Archived) (s : KeptState) (level : Level) (m : Option Mark) → IfSome m (IsMarkOf logs s s.n) →
    IfSome m (IsMarkOf logs (state_after (SetLevel level) s) s.n)
mark-with-level logs s level None is = tt
mark-with-level logs s level (Some k) is = record {
  fits = is.fits;
  before = is.before;
  place = is.place;
  q_scn = is.q_scn;
  m_scn = is.m_scn;
  commit_scn = is.commit_scn;
}

mark-with-row : (logs : Archived) (s : KeptState) (id : ℕ) (row : List Value) (m : Option Mark) →
    IfSome m (IsMarkOf logs s s.n) → IfSome m (IsMarkOf logs (state_after (PutRow id row) s) s.n)
mark-with-row logs s id row None is = tt
mark-with-row logs s id row (Some k) is = record {
  fits = is.fits;
  before = is.before;
  place = is.place;
  q_scn = is.q_scn;
  m_scn = is.m_scn;
  commit_scn = is.commit_scn;
}

-- it belongs to the logs behind a change that leaves the redo
pub changed-belongs : (logs : Archived) (w : Writing) (s : KeptState) → leaves_redo w ≡ true → Belongs logs s → LeavesLayout w s →
    Belongs logs (state_after w s)
changed-belongs logs (AddLog e) s leaves is may = absurd (cc)
changed-belongs logs (Publish scn writes) s leaves is may = absurd (cc)
changed-belongs logs (KeepMark k) s leaves is may = absurd (cc)
changed-belongs logs (AddSkip rule) s leaves is may =
    let h = leaves-layout s (AddSkip rule) is.layout may in
    record {
      registered = is.registered;
      first = is.first;
      dictionary = is.dictionary;
      scn = is.scn;
      fits = own-fits logs (state_after (AddSkip rule) s) is.fits.shows.made (few-enough (row_count s.tables) h.few_rows)
          (mark-with-rule logs s rule s.mark is.fits.mark)
          (all_append (λ k. k.from ≤ s.n) s.skips (skip_from s.n rule ∷ []) is.fits.skips (omega arith, tt)) h.ids;
      layout = h;
    }
changed-belongs logs (SetLevel level) s leaves is may =
    let h = leaves-layout s (SetLevel level) is.layout may in
    record {
      registered = is.registered;
      first = is.first;
      dictionary = is.dictionary;
      scn = is.scn;
      fits = own-fits logs (state_after (SetLevel level) s) is.fits.shows.made (few-enough (row_count s.tables) h.few_rows)
          (mark-with-level logs s level s.mark is.fits.mark) is.fits.skips h.ids;
      layout = h;
    }
changed-belongs logs (PutRow id row) s leaves is may =
    let h = leaves-layout s (PutRow id row) is.layout may in
    let later = state_after (PutRow id row) s in
    record {
      registered = is.registered;
      first = is.first;
      dictionary = same-definitions (row_write s.tables id row ∷ []) s.tables ∙ is.dictionary;
      scn = is.scn;
      fits = own-fits logs later is.fits.shows.made (few-enough (row_count later.tables) h.few_rows)
          (mark-with-row logs s id row s.mark is.fits.mark) is.fits.skips h.ids;
      layout = h;
    }

-- ---- a call between runs

pub rest-keeps : {K : Type 0} (holds : K → Option Store) (faults : K → ℕ) (alone : Bool) (start : ℕ) (logs : Archived)
    (s later : KeptState) (old new : Publishing K) (items : List Item) (ending : Ending) →
    IsAtRest holds faults start logs s old → old.stopped ≡ false → Belongs logs later →
    after_batch items (pairs_of s) ≡ pairs_of later → Leaves holds faults alone old new items later ending →
    IsAtRest holds faults start logs (next_shown later s ending) new
rest-keeps holds faults alone start logs s later old new items Done p free is leads leaves =
    let kept : Told (holds old.keeper) (Keeps (Belongs logs) false (Some s)) =
    subst (λ o. Told (holds old.keeper) (Keeps (Belongs logs) false o)) p.there
    (subst (λ t. Told (holds old.keeper) (Keeps (Belongs logs) t old.state)) free p.keeps) in
    let since = p.since in
    let behind = leaves.count.later in
    record {
      there = leaves.state;
      belongs = is;
      keeps = subst (λ t. Told (holds new.keeper) (Keeps (Belongs logs) t new.state)) (sym leaves.stopped)
          (subst (λ o. Told (holds new.keeper) (Keeps (Belongs logs) false o)) (sym leaves.state)
          (done-keeps (Belongs logs) items s later old.state (holds old.keeper) (holds new.keeper) leaves.store kept leads));
      since = omega (arith, since, behind);
      risen = λ stopped. absurd (not-both new.stopped leaves.stopped stopped);
    }
rest-keeps holds faults alone start logs s later old new items Failed p free is leads leaves =
    let kept : Told (holds old.keeper) (Keeps (Belongs logs) false (Some s)) =
    subst (λ o. Told (holds old.keeper) (Keeps (Belongs logs) false o)) p.there
    (subst (λ t. Told (holds old.keeper) (Keeps (Belongs logs) t old.state)) free p.keeps) in
    let since = p.since in
    let behind = leaves.count.later in
    record {
      there = leaves.state ∙ p.there;
      belongs = p.belongs;
      keeps = subst (λ t. Told (holds new.keeper) (Keeps (Belongs logs) t new.state)) (sym leaves.stopped)
          (subst (λ o. Told (holds new.keeper) (Keeps (Belongs logs) true o)) (sym (leaves.state ∙ p.there))
          (failed-keeps (Belongs logs) items s later (holds old.keeper) (holds new.keeper) is leaves.store kept leads));
      since = omega (arith, since, behind);
      risen = λ stopped. rose-since start (faults old.keeper) (faults new.keeper) p.since leaves.count.rose;
    }
rest-keeps holds faults alone start logs s later old new items Refused p free is leads leaves =
    let kept : Told (holds old.keeper) (Keeps (Belongs logs) false (Some s)) =
    subst (λ o. Told (holds old.keeper) (Keeps (Belongs logs) false o)) p.there
    (subst (λ t. Told (holds old.keeper) (Keeps (Belongs logs) t old.state)) free p.keeps) in
    let since = p.since in
    let behind = leaves.count.later in
    record {
      there = leaves.state ∙ p.there;
      belongs = p.belongs;
      keeps = subst (λ t. Told (holds new.keeper) (Keeps (Belongs logs) t new.state)) (sym leaves.stopped)
          (subst (λ o. Told (holds new.keeper) (Keeps (Belongs logs) false o)) (sym (leaves.state ∙ p.there))
          (refused-keeps (Belongs logs) items s (holds old.keeper) (holds new.keeper) leaves.store kept));
      since = omega (arith, since, behind);
      risen = λ stopped. absurd (not-both new.stopped leaves.stopped stopped);
    }

pub call-rests : {K : Type 0} (holds : K → Option Store) (faults : K → ℕ) (alone : Bool) (start : ℕ) (logs : Archived)
    (s : KeptState) (old new : Publishing K) (w : Writing) (ending : Ending) → IsAtRest holds faults start logs s old →
    old.stopped ≡ false → MayBeDone w s → Belongs logs (state_after w s) → Does holds faults alone w s old new ending →
    IsAtRest holds faults start logs (next_shown (state_after w s) s ending) new
call-rests holds faults alone start logs s old new w ending p free may is does =
    rest-keeps holds faults alone start logs s (state_after w s) old new (items_for w s) ending p free is
    (writing-leads s w p.belongs.layout may) does

-- ---- the call that creates a standby

created-pairs : (e : LogEntry) (rows : List TableRow) → after_batch (created_items e rows) [] ≡ pairs_of (created_state e rows)
unfolding pairs_of
created-pairs e rows = refl

created-done : (logs : Archived) (e : LogEntry) (rows : List TableRow) (old now : Option Store) →
    StoreAfter (created_items e rows) Done old now → Told old (Keeps IsCreated false None) →
    Told now (Keeps (Belongs logs) false (Some (created_state e rows)))
created-done logs e rows None now left keeps =
    subst (λ o. Told o (Keeps (Belongs logs) false (Some (created_state e rows)))) (sym left) tt
created-done logs e rows (Some pairs) now left keeps =
    subst (λ o. Told o (Keeps (Belongs logs) false (Some (created_state e rows)))) (sym left)
    (ap (after_batch (created_items e rows)) keeps ∙ created-pairs e rows)

created-failed : (e : LogEntry) (rows : List TableRow) (old now : Option Store) →
    StoreAfter (created_items e rows) Failed old now → Told old (Keeps IsCreated false None) → Told now (Keeps IsCreated true None)
created-failed e rows None now left keeps = subst (λ o. Told o (Keeps IsCreated true None)) (sym left) tt
created-failed e rows (Some pairs) now (inl same) keeps = subst (λ o. Told o (Keeps IsCreated true None)) (sym same) (inl keeps)
created-failed e rows (Some pairs) now (inr changed) keeps = subst (λ o. Told o (Keeps IsCreated true None)) (sym changed)
    (inr (created_state e rows, ((e, (rows, refl)), ap (after_batch (created_items e rows)) keeps ∙ created-pairs e rows)))

created-refused : (items : List Item) (old now : Option Store) → StoreAfter items Refused old now →
    Told old (Keeps IsCreated false None) → Told now (Keeps IsCreated false None)
created-refused items None now left keeps = subst (λ o. Told o (Keeps IsCreated false None)) (sym left) tt
created-refused items (Some pairs) now left keeps = subst (λ o. Told o (Keeps IsCreated false None)) (sym left) keeps

kept-none : {K : Type 0} (holds : K → Option Store) (p : Publishing K) → HasNoStandby holds p → p.stopped ≡ false →
    Told (holds p.keeper) (Keeps IsCreated false None)
kept-none holds p h free =
    subst (λ o. Told (holds p.keeper) (Keeps IsCreated false o)) h.none
    (subst (λ t. Told (holds p.keeper) (Keeps IsCreated t p.state)) free h.keeps)

pub created-rests : {K : Type 0} (holds : K → Option Store) (faults : K → ℕ) (alone : Bool) (start : ℕ) (logs : Archived)
    (e : LogEntry) (rows : List TableRow) (old new : Publishing K) (ending : Ending) → HasNoStandby holds old →
    old.stopped ≡ false → start ≤ faults old.keeper → Belongs logs (created_state e rows) →
    Leaves holds faults alone old new (created_items e rows) (created_state e rows) ending →
    RestsAfter holds faults start logs (created_state e rows) ending new
created-rests holds faults alone start logs e rows old new Done h free since is leaves =
    let later = leaves.count.later in
    record {
      there = leaves.state;
      belongs = is;
      keeps = subst (λ t. Told (holds new.keeper) (Keeps (Belongs logs) t new.state)) (sym leaves.stopped)
          (subst (λ o. Told (holds new.keeper) (Keeps (Belongs logs) false o)) (sym leaves.state)
          (created-done logs e rows (holds old.keeper) (holds new.keeper) leaves.store (kept-none holds old h free)));
      since = omega (arith, since, later);
      risen = λ stopped. absurd (not-both new.stopped leaves.stopped stopped);
    }
created-rests holds faults alone start logs e rows old new Failed h free since is leaves = record {
  none = leaves.state ∙ h.none;
  keeps = subst (λ t. Told (holds new.keeper) (Keeps IsCreated t new.state)) (sym leaves.stopped)
      (subst (λ o. Told (holds new.keeper) (Keeps IsCreated true o)) (sym (leaves.state ∙ h.none))
      (created-failed e rows (holds old.keeper) (holds new.keeper) leaves.store (kept-none holds old h free)));
}
created-rests holds faults alone start logs e rows old new Refused h free since is leaves = record {
  none = leaves.state ∙ h.none;
  keeps = subst (λ t. Told (holds new.keeper) (Keeps IsCreated t new.state)) (sym leaves.stopped)
      (subst (λ o. Told (holds new.keeper) (Keeps IsCreated false o)) (sym (leaves.state ∙ h.none))
      (created-refused (created_items e rows) (holds old.keeper) (holds new.keeper) leaves.store (kept-none holds old h free)));
}

-- ---- runs

free-keeps : (one other : KeptState → Type 0) (stopped : Bool) (state : Option KeptState) (held : Option Store) →
    stopped ≡ false → Told held (Keeps one stopped state) → Told held (Keeps other stopped state)
free-keeps one other stopped state None free keeps = tt
free-keeps one other true state (Some pairs) free keeps = absurd (cc)
free-keeps one other false state (Some pairs) free keeps = keeps

-- a run may begin with what is at rest
pub run-begins : {K : Type 0} (holds : K → Option Store) (faults : K → ℕ) (start : ℕ) (logs : Archived) (s : KeptState)
    (p : Publishing K) → IsAtRest holds faults start logs s p → p.stopped ≡ false →
    PublisherFits holds faults start (base_of s) logs s s p
run-begins holds faults start logs s p r free = record {
  there = r.there;
  same = refl;
  fits = r.belongs.fits;
  layout = r.belongs.layout;
  keeps = free-keeps (Belongs logs) (IsAhead (base_of s) logs s.n s) p.stopped p.state (holds p.keeper) free r.keeps;
  since = r.since;
  risen = r.risen;
}

belongs-of : (logs : Archived) (opening s : KeptState) → Belongs logs opening → s ≡ in_run opening s →
    Fits (base_of opening) logs opening.n s → HasLayout s → Belongs logs s
belongs-of logs opening s is same f h = subst (Belongs logs) (sym same)
    (run-belongs logs opening s is (subst (Fits (base_of opening) logs opening.n) same f) (subst HasLayout same h))

-- what is ahead in a run belongs to the logs
ahead-belongs : (logs : Archived) (opening s : KeptState) → Belongs logs opening → s ≡ in_run opening s →
    (stopped : Bool) (pairs : Store) → Keeps (IsAhead (base_of opening) logs opening.n s) stopped (Some s) pairs →
    Keeps (Belongs logs) stopped (Some s) pairs
ahead-belongs logs opening s is same false pairs keeps = keeps
ahead-belongs logs opening s is same true pairs (inl keeps) = inl keeps
ahead-belongs logs opening s is same true pairs (inr (later, (ahead, keeps))) =
    let run : later ≡ in_run opening later =
    subst (λ t. t ≡ in_run opening t) (sym ahead.made) (all-changes opening s ahead.writings ahead.run same) in
    inr (later, (belongs-of logs opening later is run ahead.fits ahead.layout, keeps))

told-belongs : (logs : Archived) (opening s : KeptState) → Belongs logs opening → s ≡ in_run opening s →
    (stopped : Bool) (held : Option Store) → Told held (Keeps (IsAhead (base_of opening) logs opening.n s) stopped (Some s)) →
    Told held (Keeps (Belongs logs) stopped (Some s))
told-belongs logs opening s is same stopped None keeps = tt
told-belongs logs opening s is same stopped (Some pairs) keeps = ahead-belongs logs opening s is same stopped pairs keeps

-- and what a run leaves is at rest
pub run-ends : {K : Type 0} (holds : K → Option Store) (faults : K → ℕ) (start : ℕ) (logs : Archived) (opening s : KeptState)
    (p : Publishing K) → Belongs logs opening → PublisherFits holds faults start (base_of opening) logs opening s p →
    IsAtRest holds faults start logs s p
run-ends holds faults start logs opening s p is f = record {
  there = f.there;
  belongs = belongs-of logs opening s is f.same f.fits f.layout;
  keeps = subst (λ o. Told (holds p.keeper) (Keeps (Belongs logs) p.stopped o)) (sym f.there)
      (told-belongs logs opening s is f.same p.stopped (holds p.keeper)
      (subst (λ o. Told (holds p.keeper) (Keeps (IsAhead (base_of opening) logs opening.n s) p.stopped o)) f.there f.keeps));
  since = f.since;
  risen = f.risen;
}

-- ---- the store

kept-lawful : (logs : Archived) (s : KeptState) → Belongs logs s → (stopped : Bool) (pairs : Store) →
    Keeps (Belongs logs) stopped (Some s) pairs → IsLawful logs pairs
kept-lawful logs s is false pairs keeps = subst (IsLawful logs) (sym keeps) (belonging-lawful logs s is)
kept-lawful logs s is true pairs (inl keeps) = subst (IsLawful logs) (sym keeps) (belonging-lawful logs s is)
kept-lawful logs s is true pairs (inr (later, (belongs, keeps))) =
    subst (IsLawful logs) (sym keeps) (belonging-lawful logs later belongs)

told-lawful : (logs : Archived) (s : KeptState) → Belongs logs s → (stopped : Bool) (held : Option Store) →
    Told held (Keeps (Belongs logs) stopped (Some s)) → Told held (IsLawful logs)
told-lawful logs s is stopped None keeps = tt
told-lawful logs s is stopped (Some pairs) keeps = kept-lawful logs s is stopped pairs keeps

pub rest-lawful : {K : Type 0} (holds : K → Option Store) (faults : K → ℕ) (start : ℕ) (logs : Archived) (s : KeptState)
    (p : Publishing K) → IsAtRest holds faults start logs s p → Told (holds p.keeper) (IsLawful logs)
rest-lawful holds faults start logs s p r = told-lawful logs s r.belongs p.stopped (holds p.keeper)
    (subst (λ o. Told (holds p.keeper) (Keeps (Belongs logs) p.stopped o)) r.there r.keeps)
