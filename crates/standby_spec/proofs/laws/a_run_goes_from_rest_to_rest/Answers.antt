use Rattle.standby_spec.proofs.RestLaws.{run-begins, run-ends, rest-lawful}
use Rattle.standby_spec.proofs.laws.a_run_goes_from_rest_to_rest.Goals as goal

pub returns : goal.returns
returns c s = record { begins = run-begins _ _; ends = run-ends _ _; lawful = rest-lawful _ _ }
