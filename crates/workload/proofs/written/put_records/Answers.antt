use Rattle.workload.specs.Pairs.{records_drawn}
use Rattle.workload.specs.Texts.{put_all}
use Rattle.workload.proofs.StepLaws.{records_go_on, records_done}
use Rattle.workload.proofs.written.put_records.Goals as goal

pub loop-preserved : goal.loop-preserved
loop-preserved c =
    records_go_on c.args.count c.loop.counter c.loop.after c.in_ok-next.next
    (put_all (records_drawn c.args.count c.args.written.x c.args.written.pair) c.args.written.text)
    c.loop-test.true c.in_ok-next.ensures c.loop.invariant

pub returns : goal.returns
returns c =
    records_done c.args.count c.loop.counter c.loop.after
    (put_all (records_drawn c.args.count c.args.written.x c.args.written.pair) c.args.written.text)
    c.loop-test.false c.loop.invariant
