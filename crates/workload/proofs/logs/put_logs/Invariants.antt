use Rattle.std.proofs.Common.{◌≡◌, ◌-◌}
use Rattle.workload.specs.Texts.{logs_put}
use Rattle.workload.proofs.logs.put_logs.Given as goal

-- with the logs that are left all are written
abbrev pub invariant-loop-seq : goal.invariant-loop-seq
invariant-loop-seq l = logs_put l.txns (l.end - l.seq) l.seq l.after ≡ logs_put l.txns (l.end - 1) 1 l.fn.logs
