use Rattle.workload.proofs.EndLaws.{all_ended}
use Rattle.workload.proofs.laws.a_workload_ends_each_transaction.Goals as goal

pub returns : goal.returns
returns c = record { ended = all_ended }
