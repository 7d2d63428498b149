use Rattle.std.proofs.Common.{◌∙◌, ap}
use Rattle.std.specs.List.{list_any}
use Rattle.redo_spec.specs.History.{same_xid}
use Rattle.redo_law.proofs.TransactionLaws.{is_there}
use Rattle.redo_law.proofs.open_transactions.OpenTransactions.is_open.Goals as goal

pub returns : goal.returns
returns c = c.contains_key.ensures ∙ is_there c.self.inside c.args.xid c.self.invariant ∙
    ap (list_any (λ t. same_xid t.xid c.args.xid)) c.self.view_is
