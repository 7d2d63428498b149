-- Behind a run that was broken off the store holds a state on the way.
use Rattle.std.proofs.Common.{◌≡◌, ℕ, ◌-◌, List, [], ◌∷◌, Bool, true, false, sym, ap, ◌∙◌, subst, Option, Some, None, inl, inr}
use Rattle.std.specs.Prelude.{◌&&◌}
use Rattle.std.specs.List.{list_all}
use Rattle.rl_ports.specs.declared.batch.Item.{Item}
use Rattle.rl_ports.specs.Faults.{Told}
use Rattle.rl_ports.specs.Store.{Store, after_batch}
use Rattle.redo_spec.specs.Fold.{Base}
use Rattle.standby_spec.specs.KeptState.{KeptState, base_of}
use Rattle.standby_spec.specs.Layout.{pairs_of}
use Rattle.standby_spec.specs.StandbyRedo.{Archived}
use Rattle.standby_spec.specs.HasLayout.{MayBeDone, MayAllBeDone}
use Rattle.standby_spec.specs.Fits.{Fits}
use Rattle.standby_spec.specs.Writings.{Writing, state_after, state_after_all, items_for, items_for_all}
use Rattle.standby_spec.specs.Publishing.{Publishing, Failed, StoreAfter, Leaves, Does, DoesAll, Keeps, is_of_run, IsAhead, in_run, PublisherFits}
use Rattle.standby_spec.proofs.ItemLaws.{writing-leads}
use Rattle.standby_spec.proofs.LayoutLaws.{writings-lead}
use Rattle.standby_spec.proofs.PublisherLaws.{all-changes}
use Rattle.run_spec.specs.Broken.{HoldsOnTheWay}
use Rattle.run_spec.specs.RunEnd.{IsFreeMark, IsOnTheWay}
use Rattle.run_spec.proofs.Way.{some-way}

-- ---- the store of a publisher that goes on

shown-held : {K : Type 0} (holds : K → Option Store) (faults : K → ℕ) (start : ℕ) (b : Base) (logs : Archived)
    (opening s : KeptState) (p : Publishing K) → PublisherFits holds faults start b logs opening s p → p.stopped ≡ false →
    Told (holds p.keeper) (Keeps (IsAhead b logs opening.n s) false (Some s))
shown-held holds faults start b logs opening s p fits free =
    subst (λ o. Told (holds p.keeper) (Keeps (IsAhead b logs opening.n s) false o)) fits.there
    (subst (λ t. Told (holds p.keeper) (Keeps (IsAhead b logs opening.n s) t p.state)) free fits.keeps)

held : (next : KeptState → Type 0) (logs : Archived) (distance : ℕ) (opening s : KeptState) (o : Option Store) →
    IsOnTheWay logs distance opening s → Told o (Keeps next false (Some s)) → Told o (HoldsOnTheWay logs distance opening)
held next logs distance opening s None way keeps = tt
held next logs distance opening s (Some pairs) way keeps = (s, (way, keeps))

pub going-held : {K : Type 0} (holds : K → Option Store) (faults : K → ℕ) (start distance : ℕ) (logs : Archived)
    (opening s : KeptState) (p : Publishing K) → PublisherFits holds faults start (base_of opening) logs opening s p →
    p.stopped ≡ false → IsFreeMark logs distance opening s.n (s.n - 1) s.mark →
    Told (holds p.keeper) (HoldsOnTheWay logs distance opening)
going-held holds faults start distance logs opening s p fits free mark =
    held (IsAhead (base_of opening) logs opening.n s) logs distance opening s (holds p.keeper)
    (some-way logs distance opening s fits.fits fits.same mark)
    (shown-held holds faults start (base_of opening) logs opening s p fits free)

-- ---- a call that fails

failed-held : (next : KeptState → Type 0) (logs : Archived) (distance : ℕ) (opening s later : KeptState) (items : List Item)
    (old now : Option Store) → IsOnTheWay logs distance opening s → IsOnTheWay logs distance opening later →
    StoreAfter items Failed old now → Told old (Keeps next false (Some s)) →
    after_batch items (pairs_of s) ≡ pairs_of later → Told now (HoldsOnTheWay logs distance opening)
failed-held next logs distance opening s later items None now one two left keeps leads =
    subst (λ o. Told o (HoldsOnTheWay logs distance opening)) (sym left) tt
failed-held next logs distance opening s later items (Some pairs) now one two (inl same) keeps leads =
    subst (λ o. Told o (HoldsOnTheWay logs distance opening)) (sym same) (s, (one, keeps))
failed-held next logs distance opening s later items (Some pairs) now one two (inr changed) keeps leads =
    subst (λ o. Told o (HoldsOnTheWay logs distance opening)) (sym changed) (later, (two, ap (after_batch items) keeps ∙ leads))

call-held : {K : Type 0} (holds : K → Option Store) (faults : K → ℕ) (alone : Bool) (start distance : ℕ) (logs : Archived)
    (opening s later : KeptState) (old new : Publishing K) (items : List Item) →
    PublisherFits holds faults start (base_of opening) logs opening s old → old.stopped ≡ false →
    later ≡ in_run opening later → Fits (base_of opening) logs opening.n later →
    IsFreeMark logs distance opening s.n (s.n - 1) s.mark →
    IsFreeMark logs distance opening later.n (later.n - 1) later.mark → after_batch items (pairs_of s) ≡ pairs_of later →
    Leaves holds faults alone old new items later Failed → Told (holds new.keeper) (HoldsOnTheWay logs distance opening)
call-held holds faults alone start distance logs opening s later old new items p free same fits mark after leads leaves =
    failed-held (IsAhead (base_of opening) logs opening.n s) logs distance opening s later items (holds old.keeper)
    (holds new.keeper) (some-way logs distance opening s p.fits p.same mark)
    (some-way logs distance opening later fits same after) leaves.store
    (shown-held holds faults start (base_of opening) logs opening s old p free) leads

-- several writings that one commit of the store was to do
pub group-held : {K : Type 0} (holds : K → Option Store) (faults : K → ℕ) (alone : Bool) (start distance : ℕ) (logs : Archived)
    (opening s : KeptState) (old new : Publishing K) (ws : List Writing) →
    PublisherFits holds faults start (base_of opening) logs opening s old → old.stopped ≡ false →
    list_all is_of_run ws ≡ true → MayAllBeDone ws s → Fits (base_of opening) logs opening.n (state_after_all ws s) →
    IsFreeMark logs distance opening s.n (s.n - 1) s.mark →
    IsFreeMark logs distance opening (state_after_all ws s).n ((state_after_all ws s).n - 1) (state_after_all ws s).mark →
    DoesAll holds faults alone ws s old new Failed → Told (holds new.keeper) (HoldsOnTheWay logs distance opening)
group-held holds faults alone start distance logs opening s old new ws p free run may fits mark after does =
    call-held holds faults alone start distance logs opening s (state_after_all ws s) old new (items_for_all ws s) p free
    (all-changes opening s ws run p.same) fits mark after (writings-lead s ws p.layout may) does

-- one writing
pub one-held : {K : Type 0} (holds : K → Option Store) (faults : K → ℕ) (alone : Bool) (start distance : ℕ) (logs : Archived)
    (opening s : KeptState) (old new : Publishing K) (w : Writing) →
    PublisherFits holds faults start (base_of opening) logs opening s old → old.stopped ≡ false → is_of_run w ≡ true →
    MayBeDone w s → Fits (base_of opening) logs opening.n (state_after w s) →
    IsFreeMark logs distance opening s.n (s.n - 1) s.mark →
    IsFreeMark logs distance opening (state_after w s).n ((state_after w s).n - 1) (state_after w s).mark →
    Does holds faults alone w s old new Failed → Told (holds new.keeper) (HoldsOnTheWay logs distance opening)
one-held holds faults alone start distance logs opening s old new w p free run may fits mark after does =
    call-held holds faults alone start distance logs opening s (state_after w s) old new (items_for w s) p free
    (all-changes opening s (w ∷ []) (ap (λ x. x && true) run) p.same) fits mark after (writing-leads s w p.layout may) does
