use Rattle.std.proofs.Common.{◌≡◌, ◌∙◌, ◌∷◌, sym, ap, subst, Err, Bool, false, Option, refl, List}
use Rattle.std.specs.Vec.Iter.{into_iter_items}
use Rattle.rl_value.specs.declared.verdict.Verdict.{Verdict}
use Rattle.redo_vec.specs.declared.vector.Vector.{Vector}
use Rattle.redo_spec.specs.Standing.{Standing, record_after}
use Rattle.primary.specs.Progress.{Going, tables_shown, waiting_until, progress_with_commit, live_after}
use Rattle.redo_spec.specs.Dictionary.{Dictionary}
use Rattle.redo_spec.specs.Tables.{Tables, assembled}
use Rattle.row_apply.specs.Soundness.{AreSound}
use Rattle.plain_store.specs.Kept.{AreKept}
use Rattle.primary.specs.Running.{fold_state_of, progress_of}
use Rattle.primary.specs.declared.fault.TakeFault.TheVariants.{Unsound}
use Rattle.primary.specs.declared.running.Running.{Running}
use Rattle.primary.proofs.StepLaws.{Steps, bad_ends, bad_sound, fault_told, left_told, still_whole, steps_begin, steps_more, may_commit}
use Rattle.primary.proofs.ApplyLaws.{shown_whole}
use Rattle.primary.proofs.running.Running.step.Goals as goal

pub returns-in-Err-Law-clause-taken : goal.returns-in-Err-Law-clause-taken
returns-in-Err-Law-clause-taken c =
    let old = c.args.self.now in
    bad_ends c.args.skips.now c.args.head.now c.args.rec old (record old { law = c.admit.new.self }) c.in-Err-Law.fault
    c.requires.running
    (fault_told _ c.in-Err-Law.field-0 c.in-Err-Law.fault c.in-Err-Law.field-0-is c.in-Err-Law.ensures.exact)
    (left_told _ _ c.in-Err-Law.field-0 c.in-Err-Law.fault c.in-Err-Law.field-0-is c.in-Err-Law.ensures.left)
    refl refl refl refl

pub returns-in-Err-Law-clause-sound : goal.returns-in-Err-Law-clause-sound
returns-in-Err-Law-clause-sound c =
    let old = c.args.self.now in
    bad_sound c.args.head.now c.args.rec old (record old { law = c.admit.new.self }) c.requires.running
    (left_told _ _ c.in-Err-Law.field-0 c.in-Err-Law.fault c.in-Err-Law.field-0-is c.in-Err-Law.ensures.left)
    refl refl

pub enter-requires-clause-still : goal.enter-requires-clause-still
enter-requires-clause-still c = λ whole.
    let old = c.args.self.now in
    let same : c.admit.new.self.dictionary ≡ old.law.dictionary =
    ap (λ t. t.dictionary) (c.in-Ok.ensures).admitted ∙
    still_whole c.args.head.now c.args.rec old c.requires.running (c.in-Ok.ensures).exact whole in
    ap (λ d. d.finished) same ∙ sym c.requires.running.whole ∙ whole

pub enter-requires-clause-sound : goal.enter-requires-clause-sound
enter-requires-clause-sound c = λ whole.
    let old = c.args.self.now in
    let same : c.admit.new.self.dictionary ≡ old.law.dictionary =
    ap (λ t. t.dictionary) (c.in-Ok.ensures).admitted ∙
    still_whole c.args.head.now c.args.rec old c.requires.running (c.in-Ok.ensures).exact whole in
    subst (λ (d : Dictionary). AreSound (assembled d.tables old.tables)) (sym same)
    (subst (λ (ts : Tables). AreSound ts) (shown_whole old.whole old.law.dictionary.tables old.tables whole)
    c.requires.running.sound)

pub enter-requires-clause-kept : goal.enter-requires-clause-kept
enter-requires-clause-kept c = λ whole.
    let old = c.args.self.now in
    let same : c.admit.new.self.dictionary ≡ old.law.dictionary =
    ap (λ t. t.dictionary) (c.in-Ok.ensures).admitted ∙
    still_whole c.args.head.now c.args.rec old c.requires.running (c.in-Ok.ensures).exact whole in
    subst (λ (d : Dictionary). AreKept d.tables old.tables old.index old.count) (sym same) (c.requires.running.kept whole)

pub returns-in-Err-clause-unsound : goal.returns-in-Err-clause-unsound
returns-in-Err-clause-unsound c = λ is rows.
    let fault : c.in-Err.fault ≡ Unsound = cc in
    let told = ap Err fault in
    let old = c.args.self.now in
    let next = record_after (c.args.head.now, c.args.rec) old.law in
    let part : old.whole ≡ false = c.in-Err.ensures.waited told in
    c.in-Err.ensures.unsound told
    (subst (λ (s : Standing). AreSound (tables_shown s.dictionary.finished s.dictionary.tables old.tables))
    (sym (c.in-Ok.ensures).admitted)
    (subst (λ (b : Bool). AreSound (tables_shown next.dictionary.finished next.dictionary.tables (waiting_until b old.tables)))
    part
    (rows (c.in-Ok.ensures).exact (sym c.requires.running.whole ∙ part))))

pub loop-vector-init : goal.loop-vector-init
loop-vector-init c =
    let old = c.args.self.now in
    let now = c.enter.new.self in
    let done = c.in-Ok-enter.ensures in
    let law : now.law ≡ c.admit.new.self = ap (λ (r : Running). r.law) done.only in
    let gives : into_iter_items c.into_iter-vector-iterator.result ≡ c.into_items-vector-items.result.items =
    c.into_iter-vector-iterator.ensures.into_iter_gives.0 in
    let all : into_iter_items c.into_iter-vector-iterator.result ≡ c.args.rec.vectors =
    gives ∙ c.into_items-vector-items.ensures.same in
    let P : List Vector → Type 0 = λ vs. Steps c.args.skips.now c.args.head.now c.args.rec old now 1 vs in
    subst P (sym all)
    (steps_begin c.args.skips.now c.args.head.now c.args.rec old now c.requires.running (c.in-Ok.ensures).exact
    (law ∙ (c.in-Ok.ensures).admitted)
    (ap (λ (r : Running). r.tables) done.only) (ap (λ (r : Running). r.live) done.only) (ap (λ (r : Running). r.made) done.only)
    (ap (λ (r : Running). r.n) done.only) (ap (λ (r : Running). r.scn) done.only)
    (ap (λ (r : Running). r.rec) done.only) (ap (λ (r : Running). r.whole) done.only ∙ ap (λ d. d.dictionary.finished) (sym law))
    done.sound done.kept c.into_items-vector-items.ensures.most)

pub apply_commit-requires-clause-may : goal.apply_commit-requires-clause-may
apply_commit-requires-clause-may c =
    let old = c.args.self.now in
    let rest = into_iter_items c.next.new.self in
    let next : into_iter_items c.loop-vector.vector-iterator ≡ c.in-Some.vector ∷ rest = c.in-Some.ensures.steps.0 in
    let P : List Vector → Type 0 = λ vs. Steps c.args.skips.now c.args.head.now c.args.rec old c.loop-vector.self
    c.loop-vector.vec vs in
    may_commit c.args.skips.now c.args.head.now c.args.rec old c.loop-vector.self c.take.new.self c.loop-vector.vec
    c.in-Some.vector rest c.in_ok-commit.commit (subst P next c.loop-vector.invariant) c.in_ok-commit.ensures.commit

pub loop-vector-preserved : goal.loop-vector-preserved
loop-vector-preserved c =
    let old = c.args.self.now in
    let now = c.loop-vector.self in
    let rest = into_iter_items c.next.new.self in
    let next : into_iter_items c.loop-vector.vector-iterator ≡ c.in-Some.vector ∷ rest = c.in-Some.ensures.steps.0 in
    let P : List Vector → Type 0 = λ vs. Steps c.args.skips.now c.args.head.now c.args.rec old now c.loop-vector.vec vs in
    let done = c.in_ok-verdict.ensures in
    let goes : Going (fold_state_of c.apply_commit.new.self) ≡
    progress_with_commit c.args.skips.now c.args.rec.scn c.in_ok-commit.commit
    (fold_state_of (record now { live = c.take.new.self })) =
    ap (λ (o : Option Verdict). progress_of o c.apply_commit.new.self) (sym c.in_default.is) ∙ done.taken in
    let live : c.take.new.self ≡ live_after (record { rec = now.rec; vec = c.loop-vector.vec }) c.in-Some.vector now.live =
    c.in_ok-commit.ensures.live in
    steps_more c.args.skips.now c.args.head.now c.args.rec old now c.apply_commit.new.self c.loop-vector.vec c.in-Some.vector rest
    (subst P next c.loop-vector.invariant)
    done.law done.rec done.whole (done.live ∙ live) done.sound done.kept
    (goes ∙ (λ i. progress_with_commit c.args.skips.now c.args.rec.scn (c.in_ok-commit.ensures.commit i)
    (record (fold_state_of now) { live = live i })))
