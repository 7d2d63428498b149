use Rattle.std.proofs.lemmas.Result.{IfOk-weaker}
use Rattle.workload.proofs.StepLaws.{all_put}
use Rattle.workload.proofs.logs.logs_of.Goals as goal

pub returns : goal.returns
returns c =
    IfOk-weaker c.put_logs.result _ _
    (λ r h. all_put c.args.txns c.log_count.result c.args.seed c.in_ok-begun.begun r c.log_count.ensures.value
    c.in_ok-begun.ensures h)
    c.put_logs.ensures
