use Rattle.run_spec.proofs.Longer.{further-belongs}
use Rattle.run_spec.proofs.between.a_further_log_leaves_a_state_that_belongs.Goals as goal

pub returns : goal.returns
returns c = record {
  belongs = λ logs s e b told may.
      further-belongs logs s e b told may
      (c.what_was_ahead_stays.ensures.redo logs s.logs s.first 0 e b.layout.rising may.1.0)
      (λ mark. c.a_mark_stays_right_in_a_longer_redo.ensures.mark logs s s.n mark e b.registered b.layout.rising may.1.0);
}
