use Rattle.std.proofs.Common.{◌≡◌, length}
use Rattle.rl_base.specs.Replay.{drains_last}
use Rattle.script.proofs.events.drains_last.Given as goal

-- none that goes on to the end so far
abbrev pub invariant-loop-rest : goal.invariant-loop-rest
invariant-loop-rest l = drains_last l.items ≡ drains_last l.rest

abbrev pub decreases-loop-rest : goal.decreases-loop-rest
decreases-loop-rest l = length l.rest
