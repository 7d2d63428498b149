use Rattle.std.proofs.lemmas.Result.{IfOk-weaker}
use Rattle.workload.proofs.StepLaws.{pair_put}
use Rattle.workload.proofs.written.put_pair.Goals as goal

pub returns : goal.returns
returns c =
    IfOk-weaker c.put_ends.result _ _
    (λ r h. pair_put c.args.txns c.args.p c.change_records-count.result c.args.put.text c.args.put.left c.in_ok-pair.pair
    c.in_ok-text.text c.in_ok-changed.changed r c.change_records-count.ensures c.in_ok-pair.ensures c.in_ok-text.ensures
    c.in_ok-changed.ensures h)
    c.put_ends.ensures
