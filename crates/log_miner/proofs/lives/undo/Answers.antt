use Rattle.std.proofs.Common.{◌<◌, length, arith}
use Rattle.log_miner.specs.Live.{if_of, one_fewer}
use Rattle.log_miner.proofs.Mapped.{changed_next}
use Rattle.log_miner.proofs.lives.undo.Goals as goal

pub loop-live-preserved : goal.loop-live-preserved
loop-live-preserved c =
    let all = c.deref_mut-live-items.result.now in
    let inside : c.loop-live.live-index < length all = omega (arith, c.loop-live-test.true, c.loop-live.auto.live-index-end) in
    changed_next (if_of c.args.xid (one_fewer c.args.committed)) all c.loop-live.live-items
    c.loop-live.live-index c.live-item.result c.undo_one.new.live inside c.loop-live.invariant
    c.undo_one.ensures
