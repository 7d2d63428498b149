use Rattle.std.proofs.Common.{◌≡◌, length}
use Rattle.std.specs.BTreeMap as tree
use Rattle.rl_value.specs.declared.key.Key.{Key}
use Rattle.rl_value.specs.Order.{key_cmp}
use Rattle.redo_law.specs.Held.{hold_after_undo}
use Rattle.redo_law.proofs.locks.free_keys_of.Given as goal

-- with the keys that are left, the locks are what they are with all
abbrev pub invariant-loop-rest : goal.invariant-loop-rest
invariant-loop-rest l = (q : Key) → hold_after_undo (tree.get key_cmp l.locks) l.rest l.from.holder l.from.change q ≡
    hold_after_undo (tree.get key_cmp l.initial.locks) l.keys l.from.holder l.from.change q

abbrev pub decreases-loop-rest : goal.decreases-loop-rest
decreases-loop-rest l = length l.rest
