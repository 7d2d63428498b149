use Rattle.std.proofs.Common.{◌≡◌, ◌++◌, length}
use Rattle.std.specs.List.{flat_map}
use Rattle.log_miner.specs.Live.{live_of}
use Rattle.log_miner.specs.Mining.{ended_lines}
use Rattle.log_miner.proofs.ended.push_committed.Given as goal

-- with what is left all lines are there
abbrev pub invariant-loop-rest : goal.invariant-loop-rest
invariant-loop-rest l =
    l.out ++ flat_map (ended_lines l.dict.tables l.scn l.at) (live_of l.xid l.rest)
    ≡ l.fn.out ++ flat_map (ended_lines l.dict.tables l.scn l.at) (live_of l.xid l.lives)

abbrev pub decreases-loop-rest : goal.decreases-loop-rest
decreases-loop-rest l = length l.rest
