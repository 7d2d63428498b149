use Rattle.std.proofs.Common.{◌-◌}
use Rattle.workload.specs.Texts.{logs_put}
use Rattle.workload.proofs.StepLaws.{logs_go_on, logs_done}
use Rattle.workload.proofs.logs.put_logs.Goals as goal

pub loop-seq-preserved : goal.loop-seq-preserved
loop-seq-preserved c =
    logs_go_on c.args.txns c.args.end c.loop-seq.seq c.loop-seq.after c.in_ok-next.next
    (logs_put c.args.txns (c.args.end - 1) 1 c.args.logs) c.loop-seq-test.true c.in_ok-next.ensures c.loop-seq.invariant

pub returns : goal.returns
returns c =
    logs_done c.args.txns c.args.end c.loop-seq.seq c.loop-seq.after (logs_put c.args.txns (c.args.end - 1) 1 c.args.logs)
    c.loop-seq-test.false c.loop-seq.invariant
