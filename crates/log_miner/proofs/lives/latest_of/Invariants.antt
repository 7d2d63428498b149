use Rattle.std.proofs.Common.{◌≡◌, length}
use Rattle.log_miner.specs.Live.{live_of}
use Rattle.log_miner.proofs.lives.latest_of.Given as goal

-- none so far is of the id
abbrev pub invariant-loop-rest : goal.invariant-loop-rest
invariant-loop-rest l = live_of l.xid l.rest ≡ live_of l.xid l.lives

abbrev pub decreases-loop-rest : goal.decreases-loop-rest
decreases-loop-rest l = length l.rest
