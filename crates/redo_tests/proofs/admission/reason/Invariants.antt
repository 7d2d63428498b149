use Rattle.std.proofs.Common.{◌<◌, ◌+◌, ◌^◌, length}
use Rattle.redo_tests.proofs.admission.reason.Given as goal

-- as many records counted as steps taken
abbrev pub invariant-loop-rest : goal.invariant-loop-rest
invariant-loop-rest l = l.law.rec + length l.rest < 2 ^ 64

abbrev pub decreases-loop-rest : goal.decreases-loop-rest
decreases-loop-rest l = length l.rest
