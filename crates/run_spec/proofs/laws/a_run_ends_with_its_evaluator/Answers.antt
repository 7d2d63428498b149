use Rattle.run_spec.proofs.OneMore.{run-ended, run-stopped}
use Rattle.run_spec.proofs.laws.a_run_ends_with_its_evaluator.Goals as goal

pub returns-clause-ended : goal.returns-clause-ended
returns-clause-ended c logs s k b order none =
    run-ended logs s k b (c.the_reader_gives_the_redo.ensures.redo logs s.logs s.first 0 b.registered) order none

pub returns-clause-stopped : goal.returns-clause-stopped
returns-clause-stopped c logs s k e more f b order next ends =
    run-stopped logs s k e more f b (c.the_reader_gives_the_redo.ensures.redo logs s.logs s.first 0 b.registered) order next ends
