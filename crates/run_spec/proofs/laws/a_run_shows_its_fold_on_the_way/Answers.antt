use Rattle.run_spec.proofs.Prefix.{run-count, run-tables, run-scn}
use Rattle.run_spec.proofs.laws.a_run_shows_its_fold_on_the_way.Goals as goal

pub returns-clause-count : goal.returns-clause-count
returns-clause-count c logs s k a b order there well goes =
    run-count logs s k a b (c.the_reader_gives_the_redo.ensures.redo logs s.logs s.first 0 b.registered) order there goes well

pub returns-clause-tables : goal.returns-clause-tables
returns-clause-tables c logs s k a b order there well goes whole =
    run-tables logs s k a b
    (c.the_reader_gives_the_redo.ensures.redo logs s.logs s.first 0 b.registered) order there goes well whole

pub returns-clause-scn : goal.returns-clause-scn
returns-clause-scn c logs s k a b order there well goes =
    run-scn logs s k a b (c.the_reader_gives_the_redo.ensures.redo logs s.logs s.first 0 b.registered) order there goes well
