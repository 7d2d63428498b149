use Rattle.workload.proofs.LogLaws.{all_counted, all_chained}
use Rattle.workload.proofs.laws.a_workload_has_no_gap.Goals as goal

pub returns : goal.returns
returns c = record { counted = all_counted; chained = all_chained }
