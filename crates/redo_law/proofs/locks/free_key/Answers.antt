use Rattle.std.proofs.Common.{◌∙◌}
use Rattle.std.specs.BTreeMap as tree
use Rattle.rl_value.specs.Order.{key_cmp}
use Rattle.redo_law.proofs.LockSteps.{freed_one}
use Rattle.redo_law.proofs.locks.free_key.Goals as goal

pub returns : goal.returns
returns c = λ q. c.remove.ensures.updates.0 q ∙ freed_one (tree.get key_cmp c.args.locks.now) c.args.key.now q
