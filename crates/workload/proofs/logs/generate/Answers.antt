use Rattle.std.proofs.Common.{ap, ◌∙◌}
use Rattle.workload.specs.declared.logs.Logs.{Logs}
use Rattle.workload.proofs.LogLaws.{all_logs}
use Rattle.workload.proofs.logs.generate.Goals as goal

pub returns : goal.returns
returns c = record { logs = ap (λ (l : Logs). l.archive) c.in_ok-logs.ensures ∙ all_logs c.args.seed c.args.txns }
