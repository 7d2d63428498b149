use Rattle.std.proofs.Common.{◌≡◌, length, map}
use Rattle.lcr.specs.Chunks.{placed}
use Rattle.eager_work.specs.Jobs.{no_pos, last_from}
use Rattle.eager_work.proofs.job.last_of.Given as goal

-- behind the last position so far comes what is left
abbrev pub invariant-loop-rest : goal.invariant-loop-rest
invariant-loop-rest l = last_from l.last (map placed l.rest) ≡ last_from no_pos (map placed l.items)

abbrev pub decreases-loop-rest : goal.decreases-loop-rest
decreases-loop-rest l = length l.rest
