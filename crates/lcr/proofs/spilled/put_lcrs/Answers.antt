use Rattle.lcr.proofs.Counting.{put_more}
use Rattle.lcr.proofs.spilled.put_lcrs.Goals as goal

pub loop-lcr-preserved : goal.loop-lcr-preserved
loop-lcr-preserved c =
    put_more c.loop-lcr.out.items c.put_lcr.new.out.items c.args.out.now.items c.args.items.now c.loop-lcr.lcr-index
    c.lcr-item.result c.loop-lcr-test.true c.lcr-item.is c.in_ok-put_lcr.ensures c.loop-lcr.invariant
