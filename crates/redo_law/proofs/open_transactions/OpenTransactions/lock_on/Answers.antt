use Rattle.std.proofs.Common.{◌∙◌, ap}
use Rattle.std.specs.BTreeMap as tree
use Rattle.rl_value.specs.Order.{key_cmp}
use Rattle.redo_spec.specs.Locks.{least}
use Rattle.redo_law.specs.Held.{contended_keys}
use Rattle.redo_law.specs.Consistency.{txns_by_start}
use Rattle.redo_law.proofs.LeastLaws.{least_blocked}
use Rattle.redo_law.proofs.open_transactions.OpenTransactions.lock_on.Goals as goal

pub returns : goal.returns
returns c =
    c.least_blocked.ensures
    ∙ least_blocked (tree.get key_cmp c.self.inside.locks) c.args.xid c.args.keys.now (txns_by_start c.self.inside)
    c.self.invariant.holds c.self.invariant.apart
    ∙ ap (λ ts. least (contended_keys c.args.xid c.args.keys.now ts)) c.self.view_is
