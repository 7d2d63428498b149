use Rattle.std.proofs.Common.{◌+◌, ◌*◌}
use Rattle.ground_tests.proofs.locks.+crew_of_two+fn-crew_of_two-join+arg3.Given as goal

abbrev pub decreases-crew_of_two : goal.decreases-crew_of_two
decreases-crew_of_two g l = 2 * l.count + 1

abbrev pub decreases-join+arg3 : goal.decreases-join+arg3
decreases-join+arg3 g l = 2 * l.count
