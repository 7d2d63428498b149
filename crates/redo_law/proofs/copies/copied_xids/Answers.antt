use Rattle.rl_value.specs.Order.{xid_cmp, xid_total}
use Rattle.redo_law.proofs.CopyLaws.{copied_step}
use Rattle.redo_law.proofs.copies.copied_xids.Goals as goal

pub loop-xid-preserved : goal.loop-xid-preserved
loop-xid-preserved c =
    copied_step xid_cmp xid_total c.loop-xid.copies.entries c.loop-xid.xid-iterator c.next.new.self c.args.xids.now.entries
    c.put.new.map.entries c.in-Some.xid.now c.in-Some.start.now
    c.into_iter-xid-iterator.ensures.into_iter_gives.5 c.loop-xid.invariant c.in-Some.ensures.steps c.in_ok-put.ensures
