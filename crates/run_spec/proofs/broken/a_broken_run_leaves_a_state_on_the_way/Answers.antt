use Rattle.run_spec.proofs.OnTheWay.{going-held, one-held, group-held}
use Rattle.run_spec.proofs.broken.a_broken_run_leaves_a_state_on_the_way.Goals as goal

pub returns : goal.returns
returns k c = record { shown = going-held _ _; failed = one-held _ _; group = group-held _ _ }
