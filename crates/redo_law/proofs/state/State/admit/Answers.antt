use Rattle.redo_law.proofs.BeganLaws.{began_from}
use Rattle.redo_law.proofs.state.State.admit.Goals as goal

pub take_all-requires-clause-before : goal.take_all-requires-clause-before
take_all-requires-clause-before c = began_from c.args.self.now.rec 1 c.args.self.now.transactions c.requires.ready
