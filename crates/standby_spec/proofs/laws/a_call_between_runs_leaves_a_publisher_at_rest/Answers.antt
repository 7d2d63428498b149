use Rattle.standby_spec.proofs.RestLaws.{call-rests, created-rests}
use Rattle.standby_spec.proofs.laws.a_call_between_runs_leaves_a_publisher_at_rest.Goals as goal

pub returns : goal.returns
returns c s = record { rests = call-rests _ _; created = created-rests _ _ }
