use Rattle.std.proofs.Common.{◌<◌, length, arith}
use Rattle.log_miner.specs.Live.{if_of, one_more}
use Rattle.log_miner.proofs.Mapped.{changed_next}
use Rattle.log_miner.proofs.lives.change.Goals as goal

pub loop-live-preserved : goal.loop-live-preserved
loop-live-preserved c =
    let change = c.args.change.now in
    let all = c.deref_mut-live-items.result.now in
    let inside : c.loop-live.live-index < length all = omega (arith, c.loop-live-test.true, c.loop-live.auto.live-index-end) in
    changed_next (if_of change.xid (one_more c.args.committed c.args.scn c.args.at change)) all c.loop-live.live-items
    c.loop-live.live-index c.live-item.result c.change_one.new.live inside c.loop-live.invariant
    c.in_ok-change_one.ensures
