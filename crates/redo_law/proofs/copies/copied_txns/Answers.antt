use Rattle.std.proofs.Common.{◌∙◌, ap}
use Rattle.std.specs.BTreeMap.{insert_entry}
use Rattle.rl_value.specs.Order.{pos_cmp, pos_total}
use Rattle.redo_law.proofs.CopyLaws.{copied_step}
use Rattle.redo_law.proofs.copies.copied_txns.Goals as goal

pub loop-start-preserved : goal.loop-start-preserved
loop-start-preserved c =
    copied_step pos_cmp pos_total c.loop-start.copies.entries c.loop-start.start-iterator c.next.new.self c.args.txns.now.entries
    c.put.new.map.entries c.in-Some.start.now c.in-Some.txn.now
    c.into_iter-start-iterator.ensures.into_iter_gives.5 c.loop-start.invariant c.in-Some.ensures.steps
    (c.in_ok-put.ensures ∙ ap (insert_entry pos_cmp c.loop-start.copies.entries c.in-Some.start.now) c.in_ok-txn.ensures)
