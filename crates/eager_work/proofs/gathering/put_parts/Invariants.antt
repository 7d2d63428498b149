use Rattle.std.proofs.Common.{◌≡◌, length}
use Rattle.eager_work.specs.Keeping.{put_parts}
use Rattle.eager_work.proofs.gathering.put_parts.Given as goal

-- with what is left the rows are all
abbrev pub invariant-loop-rest : goal.invariant-loop-rest
invariant-loop-rest l = put_parts l.rows.entries l.rest l.left ≡ put_parts l.initial.rows.entries l.parts l.standing

abbrev pub decreases-loop-rest : goal.decreases-loop-rest
decreases-loop-rest l = length l.rest
