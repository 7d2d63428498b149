use Rattle.std.proofs.Common.{◌≡◌, ◌+◌, ◌≤◌, ◌^◌, length}
use Rattle.rl_base.specs.Replay.{event_count}
use Rattle.script.proofs.events.event_count_fits.Given as goal

-- so many are done, and few enough so far
abbrev pub invariant-loop-rest : goal.invariant-loop-rest
invariant-loop-rest l = (event_count l.items ≡ l.done + event_count l.rest) × (l.done ≤ 2 ^ 20)

abbrev pub decreases-loop-rest : goal.decreases-loop-rest
decreases-loop-rest l = length l.rest
