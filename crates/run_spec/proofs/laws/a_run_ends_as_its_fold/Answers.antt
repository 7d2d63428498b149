use Rattle.run_spec.proofs.Ending.{run-ends}
use Rattle.run_spec.proofs.laws.a_run_ends_as_its_fold.Goals as goal

pub returns : goal.returns
returns c = record {
  ends = λ logs s b. run-ends logs s b (c.the_reader_gives_the_redo.ensures.redo logs s.logs s.first 0 b.registered);
}
