use Rattle.std.proofs.Common.{◌≡◌, length}
use Rattle.std.specs.BTreeMap as tree
use Rattle.rl_value.specs.declared.key.Key.{Key}
use Rattle.rl_value.specs.Order.{key_cmp}
use Rattle.redo_law.specs.Held.{hold_after_end}
use Rattle.redo_law.proofs.locks.free_changes.Given as goal

-- with the changes that are left, the locks are what they are with all
abbrev pub invariant-loop-rest : goal.invariant-loop-rest
invariant-loop-rest l = (q : Key) → hold_after_end (tree.get key_cmp l.locks) l.rest q ≡
    hold_after_end (tree.get key_cmp l.initial.locks) l.changes q

abbrev pub decreases-loop-rest : goal.decreases-loop-rest
decreases-loop-rest l = length l.rest
