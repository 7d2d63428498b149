use Rattle.std.proofs.Common.{◌≡◌, length}
use Rattle.eager_work.specs.Keeping.{put_dids}
use Rattle.eager_work.proofs.gathering.put_dids.Given as goal

-- with what is left the rows are all
abbrev pub invariant-loop-rest : goal.invariant-loop-rest
invariant-loop-rest l = put_dids l.rows.entries l.rest ≡ put_dids l.initial.rows.entries l.dids

abbrev pub decreases-loop-rest : goal.decreases-loop-rest
decreases-loop-rest l = length l.rest
