use Rattle.std.proofs.Common.{sym, ◌∙◌, ap}
use Rattle.std.specs.BTreeMap as tree
use Rattle.rl_value.specs.Order.{key_cmp}
use Rattle.redo_law.specs.Held.{is_hold}
use Rattle.redo_law.proofs.LockSteps.{freed_at_other, freed_at_own}
use Rattle.redo_law.proofs.locks.free_key_of.Goals as goal

pub returns-then-is_from : goal.returns-then-is_from
returns-then-is_from c = λ q.
    c.remove.ensures.updates.0 q
    ∙ freed_at_own (tree.get key_cmp c.args.locks.now) c.args.key.now c.args.from.holder c.args.from.change
    (sym (c.is_from.ensures ∙ ap (is_hold c.args.from.holder c.args.from.change) c.get.ensures.value) ∙ c.if-is_from.true) q

pub returns-else-is_from : goal.returns-else-is_from
returns-else-is_from c =
    freed_at_other (tree.get key_cmp c.args.locks.now) c.args.key.now c.args.from.holder c.args.from.change
    (sym (c.is_from.ensures ∙ ap (is_hold c.args.from.holder c.args.from.change) c.get.ensures.value) ∙ c.if-is_from.false)
