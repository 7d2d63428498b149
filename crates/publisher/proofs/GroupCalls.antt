-- Laws of a group's call: from what is made ready to what the call promises.
use Rattle.std.proofs.Common.{◌≡◌, ℕ, suc, ◌≤◌, List, [], ◌∷◌, length, Bool, true, false, refl, sym, subst, Option, Some, None, Result, Ok, Err, arith}
use Rattle.std.specs.Prelude.{IfOk, nat_lt, if◌then◌else◌}
use Rattle.std.specs.List.{list_all}
use Rattle.std.proofs.lemmas.Bool.Decides.{nat_tests}
use Rattle.rl_ports.specs.declared.batch.Item.{Item}
use Rattle.rl_ports.specs.Store.{Store}
use Rattle.redo_spec.specs.Fold.{Base}
use Rattle.row_apply.specs.declared.writes.Write.{Write}
use Rattle.standby_spec.specs.KeptState.{KeptState}
use Rattle.standby_spec.specs.Publishing.{Publishing, Ending, Done, Failed, Refused, Leaves, DoesAll, PublisherFits, is_of_run, next_shown}
use Rattle.standby_spec.specs.StandbyRedo.{Archived}
use Rattle.standby_spec.specs.Refusals.{Refusal, front_of, passes_limit}
use Rattle.standby_spec.specs.Writings.{Writing, Publish, writable, state_after, state_after_all, items_for_all}
use Rattle.eager_work.specs.declared.commit.Commit.{Commit}
use Rattle.publisher.specs.declared.fault.GroupFault.{GroupFault}
use Rattle.publisher.specs.declared.fault.GroupFault.TheVariants as faults
use Rattle.publisher.specs.declared.prepared.Prepared.{Prepared}
use Rattle.publisher.specs.Endings.{OfState}
use Rattle.publisher.specs.Groups.{GroupTells, ending_of_group_fault, parts_of, WritesAll}
use Rattle.publisher.specs.Prepares.{IsReady}
use Rattle.publisher.specs.PreparesGroup.{PreparesGroup, MakesGroup, MakesAlike, DeclinesGroup, RefusesGroupOf, ending_of_group}
use Rattle.publisher.proofs.Calls.{of-state}

pub group-ready-over : (state : Option KeptState) (s : KeptState) (cs : List Commit) (reason : Option Refusal)
    (prepared : Result Prepared GroupFault) → state ≡ Some s → PreparesGroup s cs reason prepared → IfOk prepared (IsReady state)
group-ready-over state s cs reason prepared there p = subst (λ o. IfOk prepared (IsReady o)) (sym there) p.ready

made-alike : (s : KeptState) (cs : List Commit) (prepared : Result Prepared GroupFault) → MakesGroup s cs prepared →
    MakesAlike (items_for_all (front_of s (parts_of cs)) s) (Some s) (state_after_all (front_of s (parts_of cs)) s) prepared
made-alike s cs (Ok p) made = (made.items, made.next)
made-alike s cs (Err fault) made = made

pub group-written : {K : Type 0} (holds : K → Option Store) (faults : K → ℕ) (alone : Bool) (cs : List Commit)
    (old new : Publishing K) (s : KeptState) (reason : Option Refusal) (prepared : Result Prepared GroupFault) (ending : Ending) →
    old.state ≡ Some s → PreparesGroup s cs reason prepared →
    ((items : List Item) (later : KeptState) → MakesAlike items old.state later prepared →
    Leaves holds faults alone old new items later ending) → WritesAll holds faults alone cs old new ending
group-written holds faults alone cs old new s reason prepared ending there p leaves =
    let items = items_for_all (front_of s (parts_of cs)) s in
    let later = state_after_all (front_of s (parts_of cs)) s in
    of-state old.state s (λ t. DoesAll holds faults alone (front_of t (parts_of cs)) t old new ending) there
    (leaves items later
    (subst (λ o. MakesAlike items o later prepared) (sym there) (made-alike s cs prepared p.made)))

pub group-refused : {T : Type 0} (state : Option KeptState) (s : KeptState) (cs : List Commit)
    (reason : KeptState → Option Refusal) (prepared : Result Prepared GroupFault) (result : Result T GroupFault) →
    state ≡ Some s → PreparesGroup s cs (reason s) prepared →
    ((r : Option Refusal) → DeclinesGroup r prepared → RefusesGroupOf r result) →
    OfState state (λ t. RefusesGroupOf (reason t) result)
group-refused state s cs reason prepared result there p refuses =
    of-state state s (λ t. RefusesGroupOf (reason t) result) there (refuses (reason s) p.declined)

-- ---- how it ends by its fault

by-group-fault : (P : Ending → Type 0) (reason : Option Refusal) (fault : GroupFault) → GroupTells reason fault →
    (reason ≡ None → P Failed) → P Refused → P (ending_of_group_fault fault)
by-group-fault P reason faults.KeeperFault tells failed refused = failed tells
by-group-fault P reason (faults.NotNext n) tells failed refused = refused
by-group-fault P reason (faults.RowLimitAfter n) tells failed refused = refused
by-group-fault P reason faults.Memory tells failed refused = refused

-- a publisher that fits does so again, however the call ends
pub group-fits-by : {K T : Type 0} (holds : K → Option Store) (faults : K → ℕ) (alone : Bool) (start : ℕ) (b : Base)
    (logs : Archived) (opening s later : KeptState) (items : List Item) (old new : Publishing K) (reason : Option Refusal)
    (result : Result T GroupFault) → RefusesGroupOf reason result →
    Leaves holds faults alone old new items later (ending_of_group result) →
    ((ending : Ending) → reason ≡ None → Leaves holds faults alone old new items later ending →
    PublisherFits holds faults start b logs opening (next_shown later s ending) new) →
    (Leaves holds faults alone old new items later Refused → PublisherFits holds faults start b logs opening s new) →
    PublisherFits holds faults start b logs opening (next_shown later s (ending_of_group result)) new
group-fits-by holds faults alone start b logs opening s later items old new reason (Ok done) refuses leaves made unmade =
    made Done refuses leaves
group-fits-by holds faults alone start b logs opening s later items old new reason (Err fault) refuses leaves made unmade =
    by-group-fault (λ e. Leaves holds faults alone old new items later e →
    PublisherFits holds faults start b logs opening (next_shown later s e) new) reason fault refuses (made Failed) unmade leaves

-- ---- the front of a group

few-at : (b : Bool) (w : Writing) (ws : List Writing) (n : ℕ) → length ws ≤ n → length (if b then [] else w ∷ ws) ≤ suc n
few-at true w ws n e = omega arith
few-at false w ws n e = omega (arith, e)

pub front-few : (s : KeptState) (parts : List (ℕ × List Write)) → length (front_of s parts) ≤ length parts
front-few s [] = omega arith
front-few s ((at_scn, ws) ∷ more) =
    few-at (passes_limit s.tables (writable s.tables ws)) (Publish at_scn ws)
    (front_of (state_after (Publish at_scn ws) s) more) (length more)
    (front-few (state_after (Publish at_scn ws) s) more)

run-at : (b : Bool) (at_scn : ℕ) (ws : List Write) (more : List Writing) → list_all is_of_run more ≡ true →
    list_all is_of_run (if b then [] else Publish at_scn ws ∷ more) ≡ true
run-at true at_scn ws more e = refl
run-at false at_scn ws more e = e

pub front-run : (s : KeptState) (parts : List (ℕ × List Write)) → list_all is_of_run (front_of s parts) ≡ true
front-run s [] = refl
front-run s ((at_scn, ws) ∷ more) =
    run-at (passes_limit s.tables (writable s.tables ws)) at_scn ws (front_of (state_after (Publish at_scn ws) s) more)
    (front-run (state_after (Publish at_scn ws) s) more)

-- a front that is not shorter than its group is as long
pub front-whole : (m n : ℕ) → m ≤ n → nat_lt m n ≡ false → m ≡ n
front-whole m n few e = grind (arith, nat_tests)
