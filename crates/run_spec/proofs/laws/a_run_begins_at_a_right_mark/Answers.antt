use Rattle.run_spec.proofs.Marks.{run-right}
use Rattle.run_spec.proofs.laws.a_run_begins_at_a_right_mark.Goals as goal

pub returns : goal.returns
returns c = record { right = run-right }
