use Rattle.row_apply.proofs.Writing.{copied_step}
use Rattle.row_apply.proofs.copies.copied_rows.Goals as goal

pub loop-key-preserved : goal.loop-key-preserved
loop-key-preserved c =
    copied_step c.loop-key.copies.entries c.loop-key.key-iterator c.next.new.self c.args.rows.now.entries
    c.copy_into.new.rows.entries c.in-Some.key.now c.in-Some.slot.now
    c.into_iter-key-iterator.ensures.into_iter_gives.5 c.loop-key.invariant c.in-Some.ensures.steps c.in_ok-copy_into.ensures
