use Rattle.run_spec.proofs.MarksOn.{run-mark-right, run-past}
use Rattle.run_spec.proofs.laws.a_run_may_keep_this_mark.Goals as goal

pub returns-clause-right : goal.returns-clause-right
returns-clause-right c logs s k m p n b order there well_k known later there_m well_m before all count more =
    run-mark-right logs s k m p n b
    (c.the_reader_gives_the_redo.ensures.redo logs s.logs s.first 0 b.registered) order there well_k known
    later there_m well_m before all count more

pub returns-clause-past : goal.returns-clause-past
returns-clause-past c logs s distance k n mark there well few far = run-past logs s distance k n mark there well few far
