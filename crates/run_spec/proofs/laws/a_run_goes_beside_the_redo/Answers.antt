use Rattle.run_spec.proofs.Prefix.{run-well, run-standing}
use Rattle.run_spec.proofs.OneMore.{run-open}
use Rattle.run_spec.proofs.laws.a_run_goes_beside_the_redo.Goals as goal

pub returns-clause-well : goal.returns-clause-well
returns-clause-well c logs s k b order there =
    run-well logs s k b (c.the_reader_gives_the_redo.ensures.redo logs s.logs s.first 0 b.registered) order there

pub returns-clause-standing : goal.returns-clause-standing
returns-clause-standing c logs s k b order there =
    run-standing logs s k b (c.the_reader_gives_the_redo.ensures.redo logs s.logs s.first 0 b.registered) order there

pub returns-clause-active : goal.returns-clause-active
returns-clause-active c logs s k b order there well =
    run-open logs s k b (c.the_reader_gives_the_redo.ensures.redo logs s.logs s.first 0 b.registered) order there well
