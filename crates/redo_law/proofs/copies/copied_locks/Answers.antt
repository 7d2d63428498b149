use Rattle.std.proofs.Common.{◌∙◌, ap}
use Rattle.std.specs.BTreeMap.{insert_entry}
use Rattle.rl_value.specs.declared.key.Key.{Key}
use Rattle.rl_value.specs.Order.{key_cmp, key_total}
use Rattle.redo_law.proofs.CopyLaws.{copied_step}
use Rattle.redo_law.proofs.copies.copied_locks.Goals as goal

pub loop-key-preserved : goal.loop-key-preserved
loop-key-preserved c =
    copied_step key_cmp key_total c.loop-key.copies.entries c.loop-key.key-iterator c.next.new.self c.args.locks.now.entries
    c.put.new.map.entries c.in-Some.key.now c.in-Some.hold.now
    c.into_iter-key-iterator.ensures.into_iter_gives.5 c.loop-key.invariant c.in-Some.ensures.steps
    (c.in_ok-put.ensures ∙ ap (λ (k : Key). insert_entry key_cmp c.loop-key.copies.entries k c.in-Some.hold.now)
    c.in_ok-key.ensures.equal)
