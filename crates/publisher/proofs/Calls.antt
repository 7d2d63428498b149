-- Laws of the calls: from what is made ready to what the call promises.
use Rattle.std.proofs.Common.{◌≡◌, ℕ, List, [], ◌∷◌, Bool, true, false, refl, sym, ap, ◌∙◌, subst, Option, Some, None, Result, Ok, Err}
use Rattle.std.specs.Prelude.{IfOk}
use Rattle.rl_ports.specs.declared.batch.Item.{Item}
use Rattle.rl_ports.specs.Store.{Store}
use Rattle.redo_spec.specs.Fold.{Base}
use Rattle.redo_spec.specs.History.{Commits}
use Rattle.redo_spec.specs.Skips.{Skip}
use Rattle.redo_spec.specs.Tables.{Tables}
use Rattle.standby_spec.specs.KeptState.{KeptState}
use Rattle.standby_spec.specs.Publishing.{Publishing, Ending, Done, Failed, Refused, Leaves, Does, PublisherFits, next_shown, shown_count, shown_scn, shown_tables}
use Rattle.standby_spec.specs.Fits.{Shows}
use Rattle.standby_spec.specs.HasLayout.{MayBeDone}
use Rattle.standby_spec.specs.StandbyRedo.{Archived}
use Rattle.standby_spec.specs.Lawful.{Belongs}
use Rattle.standby_spec.specs.AtRest.{IsAtRest}
use Rattle.standby_spec.specs.Refusals.{Refusal}
use Rattle.rl_value.specs.Outcome.{first_fault}
use Rattle.standby_spec.specs.Writings.{Writing, state_after, items_for}
use Rattle.publisher.specs.declared.fault.PubFault.{PubFault}
use Rattle.publisher.specs.declared.fault.PubFault.TheVariants as faults
use Rattle.publisher.specs.declared.prepared.Prepared.{Prepared}
use Rattle.publisher.specs.Endings.{ending_of, ending_of_fault, Tells, Refuses, OfState, Writes, Rests}
use Rattle.publisher.specs.Prepares.{IsReady, Makes, Declines, PreparesWriting}
use Rattle.publisher.proofs.Ends.{some-is}

pub of-state : (state : Option KeptState) (s : KeptState) (P : KeptState → Type 0) → state ≡ Some s → P s → OfState state P
of-state state s P there p t e = subst P (some-is s t (sym there ∙ e)) p

-- what is ready over the state that is shown
pub ready-over : (state : Option KeptState) (s : KeptState) (w : Writing) (reason : Option Refusal)
    (prepared : Result Prepared PubFault) → state ≡ Some s → PreparesWriting w s reason prepared → IfOk prepared (IsReady state)
ready-over state s w reason prepared there p = subst (λ o. IfOk prepared (IsReady o)) (sym there) p.ready

pub written : {K : Type 0} (holds : K → Option Store) (faults : K → ℕ) (alone : Bool) (w : Writing) (old new : Publishing K)
    (s : KeptState) (reason : Option Refusal) (prepared : Result Prepared PubFault) (ending : Ending) → old.state ≡ Some s →
    PreparesWriting w s reason prepared →
    ((items : List Item) (later : KeptState) → Makes items old.state later prepared →
    Leaves holds faults alone old new items later ending) → Writes holds faults alone w old new ending
written holds faults alone w old new s reason prepared ending there p leaves =
    of-state old.state s (λ t. Leaves holds faults alone old new (items_for w t) (state_after w t) ending) there
    (leaves (items_for w s) (state_after w s)
    (subst (λ o. Makes (items_for w s) o (state_after w s) prepared) (sym there) p.made))

pub refused : {T : Type 0} (state : Option KeptState) (s : KeptState) (w : Writing) (reason : KeptState → Option Refusal)
    (prepared : Result Prepared PubFault) (result : Result T PubFault) → state ≡ Some s →
    PreparesWriting w s (reason s) prepared → ((r : Option Refusal) → Declines r prepared → Refuses r result) →
    OfState state (λ t. Refuses (reason t) result)
refused state s w reason prepared result there p refuses =
    of-state state s (λ t. Refuses (reason t) result) there (refuses (reason s) p.declined)

-- a publisher at rest stays so, by the law of such calls
pub rests : {K : Type 0} (holds : K → Option Store) (faults : K → ℕ) (alone : Bool) (w : Writing) (old new : Publishing K)
    (ending : Ending) → old.stopped ≡ false → Writes holds faults alone w old new ending →
    ((any : Bool) (start : ℕ) (logs : Archived) (s : KeptState) (before after : Publishing K) (v : Writing) (end : Ending) →
    IsAtRest holds faults start logs s before → before.stopped ≡ false → MayBeDone v s → Belongs logs (state_after v s) →
    Does holds faults any v s before after end → IsAtRest holds faults start logs (next_shown (state_after v s) s end) after) →
    Rests holds faults w old new ending
rests holds faults alone w old new ending free does law start logs s r may is =
    law alone start logs s old new w ending r free may is (does s r.there)

-- ---- how a call ends by its fault

-- what holds where the store's commit failed, which comes only where there is no reason, and where the call is refused
pub by-fault : (P : Ending → Type 0) (reason : Option Refusal) (fault : PubFault) → Tells reason fault →
    (reason ≡ None → P Failed) → P Refused → P (ending_of_fault fault)
by-fault P reason faults.KeeperFault tells failed refused = failed tells
by-fault P reason (faults.NotNext n) tells failed refused = refused
by-fault P reason (faults.Early n) tells failed refused = refused
by-fault P reason faults.RowLimit tells failed refused = refused
by-fault P reason faults.Exists tells failed refused = refused
by-fault P reason faults.Taken tells failed refused = refused
by-fault P reason faults.Twice tells failed refused = refused
by-fault P reason faults.Limit tells failed refused = refused
by-fault P reason faults.Memory tells failed refused = refused

-- A publisher that fits does so again, however a call ends that was to make this state: where it is done or the commit of its
-- store failed, by what it was to make, and where it is refused, as before.
pub fits-by : {K T : Type 0} (holds : K → Option Store) (faults : K → ℕ) (alone : Bool) (start : ℕ) (b : Base) (logs : Archived)
    (opening s later : KeptState) (items : List Item) (old new : Publishing K) (reason : Option Refusal)
    (result : Result T PubFault) → Refuses reason result → Leaves holds faults alone old new items later (ending_of result) →
    ((ending : Ending) → reason ≡ None → Leaves holds faults alone old new items later ending →
    PublisherFits holds faults start b logs opening (next_shown later s ending) new) →
    (Leaves holds faults alone old new items later Refused → PublisherFits holds faults start b logs opening s new) →
    PublisherFits holds faults start b logs opening (next_shown later s (ending_of result)) new
fits-by holds faults alone start b logs opening s later items old new reason (Ok done) refuses leaves made unmade =
    made Done refuses leaves
fits-by holds faults alone start b logs opening s later items old new reason (Err fault) refuses leaves made unmade =
    by-fault (λ e. Leaves holds faults alone old new items later e →
    PublisherFits holds faults start b logs opening (next_shown later s e) new) reason fault refuses (made Failed) unmade leaves

-- where there is no reason, neither test holds
pub neither : (a b : Bool) (x y : Refusal) → first_fault ((a, x) ∷ (b, y) ∷ []) ≡ None → (a ≡ false) × (b ≡ false)
neither true b x y e = absurd (cc)
neither false true x y e = absurd (cc)
neither false false x y e = (refl, refl)

pub not-one : (a : Bool) (x : Refusal) → first_fault ((a, x) ∷ []) ≡ None → a ≡ false
not-one true x e = absurd (cc)
not-one false x e = refl

-- ---- what is read

-- a view of what is shown shows what the state does
pub look-shows : (b : Base) (skips : List Skip) (commits : Commits) (state : Option KeptState) (s : KeptState) (n at_scn : ℕ)
    (tables : Tables) → state ≡ Some s → n ≡ shown_count state → at_scn ≡ shown_scn state → tables ≡ shown_tables state →
    Shows b skips commits s.n s.scn s.tables → Shows b skips commits n at_scn tables
look-shows b skips commits state s n at_scn tables there count scn rows shows =
    subst (Shows b skips commits n at_scn) (sym (rows ∙ ap shown_tables there))
    (subst (λ a. Shows b skips commits n a s.tables) (sym (scn ∙ ap shown_scn there))
    (subst (λ m. Shows b skips commits m s.scn s.tables) (sym (count ∙ ap shown_count there)) shows))
