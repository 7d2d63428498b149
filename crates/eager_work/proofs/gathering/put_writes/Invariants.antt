use Rattle.std.proofs.Common.{◌≡◌, length}
use Rattle.row_apply.specs.Written.{put_writes}
use Rattle.eager_work.proofs.gathering.put_writes.Given as goal

-- with what is left the rows are all
abbrev pub invariant-loop-rest : goal.invariant-loop-rest
invariant-loop-rest l = put_writes l.rows.entries l.rest ≡ put_writes l.initial.rows.entries l.writes

abbrev pub decreases-loop-rest : goal.decreases-loop-rest
decreases-loop-rest l = length l.rest
