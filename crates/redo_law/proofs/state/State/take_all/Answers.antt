use Rattle.redo_law.proofs.BeganLaws.{began_by}
use Rattle.redo_law.proofs.state.State.take_all.Goals as goal

pub returns-clause-ready : goal.returns-clause-ready
returns-clause-ready c = began_by c.loop-rest.self.rec c.loop-rest.vec c.loop-rest.self.transactions c.loop-rest.invariant.before
