use Rattle.std.proofs.Common.{◌≡◌, length}
use Rattle.log_miner.specs.Stages.{commit_scn_after_all}
use Rattle.log_miner.proofs.going.scn_after_all.Given as goal

-- with what is left the SCN is the last one's
abbrev pub invariant-loop-rest : goal.invariant-loop-rest
invariant-loop-rest l = commit_scn_after_all l.last l.scn l.rest ≡ commit_scn_after_all l.fn.last l.scn l.vectors

abbrev pub decreases-loop-rest : goal.decreases-loop-rest
decreases-loop-rest l = length l.rest
