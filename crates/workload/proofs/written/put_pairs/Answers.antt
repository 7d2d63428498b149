use Rattle.std.proofs.Common.{◌-◌}
use Rattle.workload.specs.Workload.{pairs_made}
use Rattle.workload.specs.Texts.{put_made}
use Rattle.workload.proofs.StepLaws.{pairs_go_on, pairs_done}
use Rattle.workload.proofs.written.put_pairs.Goals as goal

pub loop-p-preserved : goal.loop-p-preserved
loop-p-preserved c =
    pairs_go_on c.args.txns c.args.end c.loop-p.p c.loop-p.after c.in_ok-next.next
    (put_made (pairs_made c.args.txns (c.args.end - c.args.first) c.args.first c.args.put.left) c.args.put.text)
    c.loop-p-test.true c.in_ok-next.ensures c.loop-p.invariant

pub returns : goal.returns
returns c =
    pairs_done c.args.txns c.args.end c.loop-p.p c.loop-p.after
    (put_made (pairs_made c.args.txns (c.args.end - c.args.first) c.args.first c.args.put.left) c.args.put.text)
    c.loop-p-test.false c.loop-p.invariant
