use Rattle.std.proofs.Common.{sym, ◌∙◌}
use Rattle.redo_law.proofs.TransactionLaws.{not_there}
use Rattle.redo_law.proofs.state.State.start.Goals as goal

pub start-requires-clause-fresh : goal.start-requires-clause-fresh
start-requires-clause-fresh c = not_there c.args.xid c.args.self.now.transactions (sym c.is_open.ensures ∙ c.if-is_open.false)
