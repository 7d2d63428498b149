use Rattle.std.proofs.Common.{◌≡◌, ◌-◌}
use Rattle.workload.specs.Workload.{pairs_made}
use Rattle.workload.specs.Texts.{put_made}
use Rattle.workload.proofs.written.put_pairs.Given as goal

-- with the pairs that are left all are written
abbrev pub invariant-loop-p : goal.invariant-loop-p
invariant-loop-p l =
    put_made (pairs_made l.txns (l.end - l.p) l.p l.after.left) l.after.text
    ≡ put_made (pairs_made l.txns (l.end - l.first) l.first l.fn.put.left) l.fn.put.text
