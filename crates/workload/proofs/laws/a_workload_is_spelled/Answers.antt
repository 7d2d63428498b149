use Rattle.workload.proofs.SpelledLaws.{all_spelled}
use Rattle.workload.proofs.laws.a_workload_is_spelled.Goals as goal

pub returns : goal.returns
returns c = record { spelled = all_spelled }
