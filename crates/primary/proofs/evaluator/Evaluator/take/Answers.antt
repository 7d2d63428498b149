use Rattle.std.proofs.Common.{◌≡◌, ◌∙◌, ◌+◌, ◌≤◌, sym, ap, subst, Option, None}
use Rattle.rl_value.specs.declared.verdict.Verdict.{Verdict}
use Rattle.primary.specs.Progress.{Progress, Going, progress_after_record, recs_of}
use Rattle.primary.specs.Running.{fold_state_of, progress_of}
use Rattle.primary.proofs.StepLaws.{absent, recs_after}
use Rattle.primary.proofs.evaluator.Evaluator.take.Goals as goal

pub returns-clause-records : goal.returns-clause-records
returns-clause-records c =
    let run = c.self.inside.run in
    let end = c.self.inside.end in
    let none : end ≡ None = absent end (sym c.is_some.ensures ∙ c.if-is_some.false) in
    let old : Going (fold_state_of run) ≡ c.args.self =
    ap (λ (o : Option Verdict). progress_of o run) (sym none) ∙ c.self.view_is in
    let whole : progress_of c.in_ok-end.end c.step.new.self ≡
    progress_after_record c.args.skips.now (c.args.head.now, c.args.rec) c.args.self =
    c.in_ok-end.ensures.taken ∙ ap (λ p. progress_after_record c.args.skips.now (c.args.head.now, c.args.rec) p) old in
    let P : Progress → Type 0 = λ p. recs_of p ≤ recs_of c.args.self + 1 in
    subst P (sym whole) (recs_after c.args.skips.now c.args.head.now c.args.rec c.args.self)
