-- Laws of the calls of a run: a publisher that fits does so again, however they end.
use Rattle.std.proofs.Common.{◌≡◌, ℕ, ◌+◌, ◌≤◌, ◌<◌, ◌^◌, List, [], ◌∷◌, length, Bool, false, not, refl, sym, ap, ◌∙◌, subst, Option, Result, arith}
use Rattle.std.specs.Prelude.{◌==◌, nat_lt, if◌then◌else◌, IsTrue}
use Rattle.std.specs.List.{AllByRecursion, list_all}
use Rattle.std.proofs.lemmas.Bool.Decides.{nat_tests}
use Rattle.rl_ports.specs.declared.batch.Item.{Item}
use Rattle.rl_ports.specs.Store.{Store}
use Rattle.redo_spec.specs.Fold.{Base}
use Rattle.redo_spec.specs.History.{commit_count}
use Rattle.row_apply.specs.declared.writes.Write.{Write}
use Rattle.standby_spec.specs.declared.mark.Mark.{Mark}
use Rattle.standby_spec.specs.KeptState.{KeptState}
use Rattle.standby_spec.specs.Checkpoint.{IsMarkOf}
use Rattle.standby_spec.specs.StandbyRedo.{Archived, commits_of}
use Rattle.standby_spec.specs.NextCommit.{IsNextCommit, AreNextCommits}
use Rattle.standby_spec.specs.HasLayout.{HasLayout, IsWholeWrite, IsWriteOfValues, MayBeDone, MayAllBeDone, LeavesLayout, AreWhole}
use Rattle.standby_spec.specs.Fits.{Fits}
use Rattle.standby_spec.specs.Refusals.{NotNext, RowLimit, RowLimitAfter, Early, passes_limit, publish_refusal, mark_refusal, group_refusal, front_of}
use Rattle.standby_spec.specs.Writings.{Writing, Publish, KeepMark, writable, state_after, items_for, state_after_all, items_for_all}
use Rattle.standby_spec.specs.Publishing.{Publishing, Ending, Refused, Leaves, Does, DoesAll, PublisherFits, is_of_run, group_limit, next_shown}
use Rattle.eager_work.specs.declared.commit.Commit.{Commit}
use Rattle.publisher.specs.declared.fault.PubFault.{PubFault}
use Rattle.publisher.specs.declared.fault.GroupFault.{GroupFault}
use Rattle.publisher.specs.Endings.{Refuses, ending_of}
use Rattle.publisher.specs.Groups.{IsGroup, first_number, parts_of}
use Rattle.publisher.specs.Handed.{IsHandedNext, AreHandedNext}
use Rattle.publisher.specs.PreparesGroup.{RefusesGroupOf, ending_of_group}
use Rattle.publisher.proofs.Calls.{fits-by, neither, not-one}
use Rattle.publisher.proofs.GroupCalls.{group-fits-by, front-few, front-run, front-whole}
use Rattle.publisher.proofs.GroupReady.{parts-length}

-- ---- the laws of lower crates that they take

abbrev pub LayoutLaw : Type 0
LayoutLaw = (s : KeptState) (w : Writing) → HasLayout s → LeavesLayout w s → HasLayout (state_after w s)

abbrev pub PublishedLaw : Type 0
PublishedLaw = (b : Base) (logs : Archived) (begun : ℕ) (s : KeptState) (at_scn : ℕ) (writes : List Write) → Fits b logs begun s →
    IsNextCommit b s.skips (commits_of logs s) s.n at_scn writes → s.n + 1 ≤ commit_count (commits_of logs s) →
    writable s.tables writes ≡ writes → passes_limit s.tables writes ≡ false →
    Fits b logs begun (state_after (Publish at_scn writes) s)

abbrev pub MarkLaw : Type 0
MarkLaw = (b : Base) (logs : Archived) (begun : ℕ) (s : KeptState) (mark : Mark) → Fits b logs begun s →
    IsMarkOf logs s mark.n mark → mark.n ≤ s.n → Fits b logs begun (state_after (KeepMark mark) s)

abbrev pub RunLaw : {K : Type 0} → (K → Option Store) → (K → ℕ) → Type 0
RunLaw {K} holds faults = (alone : Bool) (start : ℕ) (b : Base) (logs : Archived) (opening s : KeptState) (old new : Publishing K)
    (w : Writing) (ending : Ending) → PublisherFits holds faults start b logs opening s old → old.stopped ≡ false →
    IsTrue (is_of_run w) → MayBeDone w s → Fits b logs opening.n (state_after w s) → HasLayout (state_after w s) →
    Does holds faults alone w s old new ending →
    PublisherFits holds faults start b logs opening (next_shown (state_after w s) s ending) new

abbrev pub RefusedLaw : {K : Type 0} → (K → Option Store) → (K → ℕ) → Type 0
RefusedLaw {K} holds faults = (alone : Bool) (start : ℕ) (b : Base) (logs : Archived) (opening s : KeptState)
    (old new : Publishing K) (items : List Item) (later : KeptState) → PublisherFits holds faults start b logs opening s old →
    old.stopped ≡ false → Leaves holds faults alone old new items later Refused →
    PublisherFits holds faults start b logs opening s new

abbrev pub GroupFitsLaw : Type 0
GroupFitsLaw = (b : Base) (logs : Archived) (begun : ℕ) (s : KeptState) (commits : List (ℕ × List Write)) → Fits b logs begun s →
    AreNextCommits b s.skips (commits_of logs s) s.n commits → s.n + length commits ≤ commit_count (commits_of logs s) →
    AreWhole commits s → length (front_of s commits) ≡ length commits →
    Fits b logs begun (state_after_all (front_of s commits) s)

abbrev pub GroupMayLaw : Type 0
GroupMayLaw = (s : KeptState) (commits : List (ℕ × List Write)) → AreWhole commits s → s.n + length commits < 2 ^ 62 →
    MayAllBeDone (front_of s commits) s

abbrev pub GroupLayoutLaw : Type 0
GroupLayoutLaw = (s : KeptState) (ws : List Writing) → HasLayout s → MayAllBeDone ws s → HasLayout (state_after_all ws s)

abbrev pub GroupRunLaw : {K : Type 0} → (K → Option Store) → (K → ℕ) → Type 0
GroupRunLaw {K} holds faults = (alone : Bool) (start : ℕ) (b : Base) (logs : Archived) (opening s : KeptState)
    (old new : Publishing K) (ws : List Writing) (ending : Ending) → PublisherFits holds faults start b logs opening s old →
    old.stopped ≡ false → length ws ≤ group_limit → IsTrue (list_all is_of_run ws) → MayAllBeDone ws s →
    Fits b logs opening.n (state_after_all ws s) → HasLayout (state_after_all ws s) →
    DoesAll holds faults alone ws s old new ending →
    PublisherFits holds faults start b logs opening (next_shown (state_after_all ws s) s ending) new

-- ---- a commit

keys-of : (ws : List Write) → AllByRecursion IsWholeWrite ws → AllByRecursion IsWriteOfValues ws
keys-of [] all = tt
keys-of (w ∷ ws) all = (all.0.key, keys-of ws all.1)

pub publish-fits : {K T : Type 0} (holds : K → Option Store) (faults : K → ℕ) (alone : Bool) (start : ℕ) (b : Base)
    (logs : Archived) (opening s : KeptState) (k : Commit) (old new : Publishing K) (result : Result T PubFault) →
    PublishedLaw → LayoutLaw → RunLaw holds faults → RefusedLaw holds faults → old.stopped ≡ false →
    Refuses (publish_refusal s k.number k.writes) result →
    Does holds faults alone (Publish k.scn k.writes) s old new (ending_of result) →
    PublisherFits holds faults start b logs opening s old → IsHandedNext b logs s k →
    PublisherFits holds faults start b logs opening (next_shown (state_after (Publish k.scn k.writes) s) s (ending_of result)) new
publish-fits holds faults alone start b logs opening s k old new result published layout run unmade free refuses does fits
    handed =
    let w = Publish k.scn k.writes in
    let whole : writable s.tables k.writes ≡ k.writes = ap (λ x. if x then k.writes else []) handed.placed in
    fits-by holds faults alone start b logs opening s (state_after w s) (items_for w s) old new
    (publish_refusal s k.number k.writes) result refuses does
    (λ ending none leaves.
    let few : passes_limit s.tables (writable s.tables k.writes) ≡ false =
    (neither (not (k.number == s.n + 1)) (passes_limit s.tables (writable s.tables k.writes)) (NotNext s.n) RowLimit none).1 in
    run alone start b logs opening s old new w ending fits free refl (keys-of k.writes handed.whole)
    (published b logs opening.n s k.scn k.writes fits.fits handed.next handed.there whole
    (sym (ap (passes_limit s.tables) whole) ∙ few))
    (layout s w fits.layout (handed.whole, (few, (handed.count, handed.scn)))) leaves)
    (λ leaves. unmade alone start b logs opening s old new (items_for w s) (state_after w s) fits free leaves)

-- ---- a mark

not-later : (m n : ℕ) → nat_lt m n ≡ false → n ≤ m
not-later m n e = grind (arith, nat_tests)

pub mark-fits : {K T : Type 0} (holds : K → Option Store) (faults : K → ℕ) (alone : Bool) (start : ℕ) (b : Base)
    (logs : Archived) (opening s : KeptState) (k : Mark) (old new : Publishing K) (result : Result T PubFault) →
    MarkLaw → LayoutLaw → RunLaw holds faults → RefusedLaw holds faults → old.stopped ≡ false →
    Refuses (mark_refusal s k) result → Does holds faults alone (KeepMark k) s old new (ending_of result) →
    PublisherFits holds faults start b logs opening s old → IsMarkOf logs s k.n k → LeavesLayout (KeepMark k) s →
    PublisherFits holds faults start b logs opening (next_shown (state_after (KeepMark k) s) s (ending_of result)) new
mark-fits holds faults alone start b logs opening s k old new result marked layout run unmade free refuses does fits is
    leaves-it =
    let w = KeepMark k in
    fits-by holds faults alone start b logs opening s (state_after w s) (items_for w s) old new (mark_refusal s k) result
    refuses does
    (λ ending none leaves.
    run alone start b logs opening s old new w ending fits free refl tt
    (marked b logs opening.n s k fits.fits is (not-later s.n k.n (not-one (nat_lt s.n k.n) (Early s.n) none)))
    (layout s w fits.layout leaves-it) leaves)
    (λ leaves. unmade alone start b logs opening s old new (items_for w s) (state_after w s) fits free leaves)

-- ---- a group

pub group-fits : {K T : Type 0} (holds : K → Option Store) (faults : K → ℕ) (alone : Bool) (start : ℕ) (b : Base)
    (logs : Archived) (opening s : KeptState) (cs : List Commit) (old new : Publishing K) (result : Result T GroupFault) →
    GroupFitsLaw → GroupMayLaw → GroupLayoutLaw → GroupRunLaw holds faults → RefusedLaw holds faults → old.stopped ≡ false →
    IsGroup cs → RefusesGroupOf (group_refusal s (first_number cs) (parts_of cs)) result →
    DoesAll holds faults alone (front_of s (parts_of cs)) s old new (ending_of_group result) →
    PublisherFits holds faults start b logs opening s old → AreHandedNext b logs s cs →
    PublisherFits holds faults start b logs opening
    (next_shown (state_after_all (front_of s (parts_of cs)) s) s (ending_of_group result)) new
group-fits holds faults alone start b logs opening s cs old new result grouped mays layout run unmade free group refuses does fits
    handed =
    let parts = parts_of cs in
    let ws = front_of s parts in
    let may : MayAllBeDone ws s =
    mays s parts handed.whole (subst (λ n. s.n + n < 2 ^ 62) (sym (parts-length cs)) handed.count) in
    group-fits-by holds faults alone start b logs opening s (state_after_all ws s) (items_for_all ws s) old new
    (group_refusal s (first_number cs) parts) result refuses does
    (λ ending none leaves.
    let all : nat_lt (length ws) (length parts) ≡ false =
    (neither (not (first_number cs == s.n + 1)) (nat_lt (length ws) (length parts)) (NotNext s.n) (RowLimitAfter (length ws))
    none).1 in
    run alone start b logs opening s old new ws ending fits free
    (omega (arith, front-few s parts, parts-length cs, group.few)) (front-run s parts) may
    (grouped b logs opening.n s parts fits.fits handed.next
    (subst (λ n. s.n + n ≤ commit_count (commits_of logs s)) (sym (parts-length cs)) handed.there) handed.whole
    (front-whole (length ws) (length parts) (front-few s parts) all))
    (layout s ws fits.layout may) leaves)
    (λ leaves. unmade alone start b logs opening s old new (items_for_all ws s) (state_after_all ws s) fits free leaves)
