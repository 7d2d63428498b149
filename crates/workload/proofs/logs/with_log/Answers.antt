use Rattle.std.proofs.Common.{ℕ, ◌+◌, ap}
use Rattle.std.proofs.lemmas.Result.{IfOk-weaker}
use Rattle.workload.proofs.StepLaws.{log_put}
use Rattle.workload.proofs.logs.with_log.Goals as goal

pub returns : goal.returns
returns c =
    IfOk-weaker c.after_log.result _ _
    (λ r h. log_put c.args.txns c.args.seq c.args.logs c.first_pair-first.result (c.last_pair-last.result + 1) c.in_ok-put.put r
    c.first_pair-first.ensures.value (ap (λ (n : ℕ). n + 1) c.last_pair-last.ensures.value) c.in_ok-put.ensures h)
    c.after_log.ensures
