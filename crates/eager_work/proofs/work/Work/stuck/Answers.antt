use Rattle.std.proofs.Common.{sym, ap, ◌∙◌}
use Rattle.eager_work.specs.Attempts.{stuck}
use Rattle.eager_work.specs.Keeping.{attempts_kept}
use Rattle.eager_work.proofs.Gathered.{stuck_nowhere, stuck_there}
use Rattle.eager_work.proofs.work.Work.stuck.Goals as goal

pub returns-in-None-clause-none : goal.returns-in-None-clause-none
returns-in-None-clause-none c e =
    let w = c.self.inside in
    ap stuck (sym c.self.view_is)
    ∙ ap (λ o. stuck (attempts_kept w.parts.items w.standing o w.waiting.items)) c.in-None.is
    ∙ stuck_nowhere w.parts.items w.standing w.waiting.items

pub returns-in-Some-clause-some : goal.returns-in-Some-clause-some
returns-in-Some-clause-some c =
    let w = c.self.inside in
    ap stuck (sym c.self.view_is)
    ∙ ap (λ o. stuck (attempts_kept w.parts.items w.standing o w.waiting.items)) c.in-Some.is
    ∙ stuck_there w.parts.items w.standing c.in-Some.conflict w.waiting.items
