use Rattle.std.proofs.Common.{◌≡◌, ◌++◌, take, drop}
use Rattle.log_miner.specs.Live.{with_live, one_fewer}
use Rattle.log_miner.proofs.lives.undo.Given as goal

-- those so far are changed
abbrev pub invariant-loop-live : goal.invariant-loop-live
invariant-loop-live l = l.live-items
    ≡ with_live (one_fewer l.committed) l.xid (take l.live-index l.initial.live-items) ++ drop l.live-index l.initial.live-items
