-- Laws of the one commit of the store that a call makes: what it leaves, by the store's answer and by what was made ready.
use Rattle.std.proofs.Common.{◌≡◌, ℕ, List, Bool, false, refl, sym, ◌∙◌, subst, Option, Some, None, is_some, Result, Ok, Err}
use Rattle.std.specs.Prelude.{◌⊎◌, IfSome, IsErrOf, IsTrue, OnOk}
use Rattle.std.specs.Option.{option_map}
use Rattle.rl_ports.specs.declared.batch.Item.{Item}
use Rattle.rl_ports.specs.declared.fault.PortFault.{PortFault}
use Rattle.rl_ports.specs.declared.fault.PortFault.TheVariants as ports
use Rattle.rl_ports.specs.Store.{Store, is_store, after_batch}
use Rattle.rl_ports.specs.Faults.{Told, UnlessFailed, NoneCounted, HasPortCause}
use Rattle.row_apply.specs.Soundness.{AreSound}
use Rattle.standby_spec.specs.KeptState.{KeptState}
use Rattle.standby_spec.specs.Publishing.{Publishing, Ending, Done, Failed, Refused, StoreAfter, CountsAfter, Leaves, is_failed}
use Rattle.standby_spec.specs.Refusals.{Refusal}
use Rattle.checkpoint.specs.declared.image.Image.{Image}
use Rattle.checkpoint.specs.Images.{image_state}
use Rattle.publisher.specs.declared.fault.PubFault.{PubFault}
use Rattle.publisher.specs.declared.fault.PubFault.TheVariants as faults
use Rattle.publisher.specs.declared.fault.GroupFault.{GroupFault}
use Rattle.publisher.specs.declared.next.Next.{Next}
use Rattle.publisher.specs.declared.prepared.Prepared.{Prepared}
use Rattle.publisher.specs.Endings.{ending_of, ending_of_fault, kept_of, Tells, Refuses}
use Rattle.publisher.specs.Groups.{grouped_of, ending_of_group_fault, GroupTells}
use Rattle.publisher.specs.Prepares.{Makes, Declines}
use Rattle.publisher.specs.PreparesGroup.{MakesAlike, DeclinesGroup, RefusesGroupOf, ending_of_group}
use Rattle.publisher.specs.Shown.{shown_next, shown_if_done}
use Rattle.publisher.proofs.Ends.{store-done, store-failed, store-refused, settled, stays, leaves-alike}

-- ---- the store's answer

-- what holds of a told store under a premise that holds
by-failure : (P : Type 0) (old : Option Store) (items : List Item) (now : Option Store) →
    Told old (λ s. P → (now ≡ Some s) ⊎ (now ≡ Some (after_batch items s))) → P →
    Told old (λ s. (now ≡ Some s) ⊎ (now ≡ Some (after_batch items s)))
by-failure P None items now told p = tt
by-failure P (Some s) items now told p = told p

pub kept-store : {T : Type 0} (done : Result T PortFault) (items : List Item) (old now : Option Store) →
    is_some now ≡ is_some old → Told old (λ s. OnOk done (now ≡ Some (after_batch items s))) →
    Told old (λ s. IsErrOf done ports.Failed → (now ≡ Some s) ⊎ (now ≡ Some (after_batch items s))) →
    (IsErrOf done ports.Memory → now ≡ old) → StoreAfter items (ending_of (kept_of done)) old now
kept-store (Ok x) items old now same did failed memory = store-done items old now same did
kept-store {T} (Err ports.Failed) items old now same did failed memory =
    store-failed items old now same
    (by-failure (IsErrOf {T = T} (Err ports.Failed) ports.Failed) old items now failed refl)
kept-store (Err ports.Memory) items old now same did failed memory = store-refused items old now (memory refl)

pub kept-count : {T : Type 0} (done : Result T PortFault) (alone : Bool) (before now : ℕ) →
    UnlessFailed done (NoneCounted alone before now) → HasPortCause before now done →
    CountsAfter alone (ending_of (kept_of done)) before now
kept-count (Ok x) alone before now none cause = record { later = cause.later; none = none }
kept-count (Err ports.Failed) alone before now none cause = record { later = cause.later; rose = cause.failed refl }
kept-count (Err ports.Memory) alone before now none cause = record { later = cause.later; none = none }

pub kept-refused : {T : Type 0} (done : Result T PortFault) → Refuses None (kept_of done)
kept-refused (Ok x) = refl
kept-refused (Err ports.Failed) = refl
kept-refused (Err ports.Memory) = tt

-- ---- what is shown

-- what a call leaves that makes its one commit of the store by these items
pub through : {K : Type 0} (holds : K → Option Store) (faults : K → ℕ) (alone : Bool) (old new : Publishing K) (items : List Item)
    (later : KeptState) (next : Next) (ending : Ending) → new.state ≡ shown_if_done ending next old.state →
    new.stopped ≡ is_failed ending → StoreAfter items ending (holds old.keeper) (holds new.keeper) →
    CountsAfter alone ending (faults old.keeper) (faults new.keeper) → shown_next next old.state ≡ Some later →
    Leaves holds faults alone old new items later ending
through holds faults alone old new items later next ending shown stopped store count is = record {
  state = shown ∙ settled ending next later old.state is;
  stopped = stopped;
  store = store;
  count = count;
}

-- the same, where the publisher from before is seen as its fields
pub through-view : {K : Type 0} (holds : K → Option Store) (faults : K → ℕ) (alone : Bool) (view old new : Publishing K)
    (items : List Item) (later : KeptState) (next : Next) (ending : Ending) → view ≡ old →
    new.state ≡ shown_if_done ending next view.state → new.stopped ≡ is_failed ending →
    StoreAfter items ending (holds view.keeper) (holds new.keeper) →
    CountsAfter alone ending (faults view.keeper) (faults new.keeper) → shown_next next old.state ≡ Some later →
    Leaves holds faults alone old new items later ending
through-view {K} holds faults alone view old new items later next ending seen shown stopped store count is =
    subst (λ (p : Publishing K). Leaves holds faults alone p new items later ending) seen
    (through holds faults alone view new items later next ending shown stopped store count
    (subst (λ (p : Publishing K). shown_next next p.state ≡ Some later) (sym seen) is))

of-image : (o : Option Image) → IfSome (option_map image_state o) (λ s. AreSound s.tables) → IfSome o (λ i. AreSound i.tables.tables)
of-image None sound = tt
of-image (Some i) sound = sound

to-image : (o : Option Image) → IfSome o (λ i. AreSound i.tables.tables) → IfSome (option_map image_state o) (λ s. AreSound s.tables)
to-image None sound = tt
to-image (Some i) sound = sound

-- what is shown has sound tables, whether the call is done or not
pub sound-shown : (ending : Ending) (next : Next) (old new : Option Image) →
    option_map image_state new ≡ shown_if_done ending next (option_map image_state old) →
    IfSome (shown_next next (option_map image_state old)) (λ s. AreSound s.tables) →
    IfSome old (λ i. AreSound i.tables.tables) → IfSome new (λ i. AreSound i.tables.tables)
sound-shown Done next old new shown ready sound = of-image new (subst (λ o. IfSome o (λ s. AreSound s.tables)) (sym shown) ready)
sound-shown Failed next old new shown ready sound =
    of-image new (subst (λ o. IfSome o (λ s. AreSound s.tables)) (sym shown) (to-image old sound))
sound-shown Refused next old new shown ready sound =
    of-image new (subst (λ o. IfSome o (λ s. AreSound s.tables)) (sym shown) (to-image old sound))

-- ---- what was made ready, or not

pub leaves-of-err : {K : Type 0} (holds : K → Option Store) (faults : K → ℕ) (alone : Bool) (p : Publishing K)
    (prepared : Result Prepared PubFault) (fault : PubFault) → prepared ≡ Err fault → p.stopped ≡ false → (items : List Item)
    (later : KeptState) → Makes items p.state later prepared → Leaves holds faults alone p p items later (ending_of_fault fault)
leaves-of-err holds faults alone p prepared fault is free items later makes =
    stays holds faults alone p items later (ending_of_fault fault) (subst (Makes items p.state later) is makes) free

pub refuses-of-err : (prepared : Result Prepared PubFault) (fault : PubFault) → prepared ≡ Err fault → (reason : Option Refusal) →
    Declines reason prepared → Tells reason fault
refuses-of-err prepared fault is reason declined = subst (Declines reason) is declined

pub leaves-of-ok : {K : Type 0} (holds : K → Option Store) (faults : K → ℕ) (alone : Bool) (old new : Publishing K)
    (prepared : Result Prepared PubFault) (p : Prepared) (ending : Ending) → prepared ≡ Ok p →
    ((later : KeptState) → shown_next p.next old.state ≡ Some later → Leaves holds faults alone old new p.batch later ending) →
    (items : List Item) (later : KeptState) → Makes items old.state later prepared →
    Leaves holds faults alone old new items later ending
leaves-of-ok holds faults alone old new prepared p ending is leaves items later makes =
    let made : Makes items old.state later (Ok p) = subst (Makes items old.state later) is makes in
    subst (λ batch. Leaves holds faults alone old new batch later ending) made.0 (leaves later made.1)

of-none : {T : Type 0} (reason : Option Refusal) (result : Result T PubFault) → reason ≡ None → Refuses None result →
    Refuses reason result
of-none reason result none refuses = subst (λ r. Refuses r result) (sym none) refuses

pub refuses-of-ok : {T : Type 0} (prepared : Result Prepared PubFault) (p : Prepared) (result : Result T PubFault) →
    prepared ≡ Ok p → Refuses None result → (reason : Option Refusal) → Declines reason prepared → Refuses reason result
refuses-of-ok prepared p result is refuses reason declined =
    let none : Declines reason (Ok p) = subst (Declines reason) is declined in
    of-none reason result none refuses

-- ---- the same of a group

pub grouped-ending : {T : Type 0} (kept : Result T PubFault) → ending_of_group (grouped_of kept) ≡ ending_of kept
grouped-ending (Ok done) = refl
grouped-ending (Err faults.KeeperFault) = refl
grouped-ending (Err (faults.NotNext n)) = refl
grouped-ending (Err (faults.Early n)) = refl
grouped-ending (Err faults.RowLimit) = refl
grouped-ending (Err faults.Exists) = refl
grouped-ending (Err faults.Taken) = refl
grouped-ending (Err faults.Twice) = refl
grouped-ending (Err faults.Limit) = refl
grouped-ending (Err faults.Memory) = refl

grouped-refuses : {T : Type 0} (kept : Result T PubFault) (reason : Option Refusal) → reason ≡ None →
    RefusesGroupOf reason (grouped_of kept)
grouped-refuses (Ok done) reason none = none
grouped-refuses (Err faults.KeeperFault) reason none = none
grouped-refuses (Err (faults.NotNext n)) reason none = tt
grouped-refuses (Err (faults.Early n)) reason none = tt
grouped-refuses (Err faults.RowLimit) reason none = tt
grouped-refuses (Err faults.Exists) reason none = tt
grouped-refuses (Err faults.Taken) reason none = tt
grouped-refuses (Err faults.Twice) reason none = tt
grouped-refuses (Err faults.Limit) reason none = tt
grouped-refuses (Err faults.Memory) reason none = tt

pub group-leaves-of-err : {K : Type 0} (holds : K → Option Store) (faults : K → ℕ) (alone : Bool) (p : Publishing K)
    (prepared : Result Prepared GroupFault) (fault : GroupFault) → prepared ≡ Err fault → p.stopped ≡ false →
    (items : List Item) (later : KeptState) → MakesAlike items p.state later prepared →
    Leaves holds faults alone p p items later (ending_of_group_fault fault)
group-leaves-of-err holds faults alone p prepared fault is free items later makes =
    stays holds faults alone p items later (ending_of_group_fault fault) (subst (MakesAlike items p.state later) is makes) free

pub group-refuses-of-err : (prepared : Result Prepared GroupFault) (fault : GroupFault) → prepared ≡ Err fault →
    (reason : Option Refusal) → DeclinesGroup reason prepared → GroupTells reason fault
group-refuses-of-err prepared fault is reason declined = subst (DeclinesGroup reason) is declined

pub group-leaves-of-ok : {K T : Type 0} (holds : K → Option Store) (faults : K → ℕ) (alone : Bool) (old new : Publishing K)
    (prepared : Result Prepared GroupFault) (p : Prepared) (kept : Result T PubFault) → prepared ≡ Ok p →
    Told (holds old.keeper) (λ s. IsTrue (is_store s)) →
    ((later : KeptState) → shown_next p.next old.state ≡ Some later →
    Leaves holds faults alone old new p.batch later (ending_of kept)) →
    (items : List Item) (later : KeptState) → MakesAlike items old.state later prepared →
    Leaves holds faults alone old new items later (ending_of_group (grouped_of kept))
group-leaves-of-ok holds faults alone old new prepared p kept is lawful leaves items later makes =
    let made : MakesAlike items old.state later (Ok p) = subst (MakesAlike items old.state later) is makes in
    subst (Leaves holds faults alone old new items later) (sym (grouped-ending kept))
    (leaves-alike holds faults alone old new p.batch items later (ending_of kept) lawful made.0 (leaves later made.1))

pub group-refuses-of-ok : {T : Type 0} (prepared : Result Prepared GroupFault) (p : Prepared) (kept : Result T PubFault) →
    prepared ≡ Ok p → (reason : Option Refusal) → DeclinesGroup reason prepared → RefusesGroupOf reason (grouped_of kept)
group-refuses-of-ok prepared p kept is reason declined =
    let none : DeclinesGroup reason (Ok p) = subst (DeclinesGroup reason) is declined in
    grouped-refuses kept reason none
