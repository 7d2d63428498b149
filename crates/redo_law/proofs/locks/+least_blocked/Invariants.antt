use Rattle.std.proofs.Common.{length}
use Rattle.redo_law.proofs.locks.+least_blocked.Given as goal

abbrev pub decreases-least_blocked : goal.decreases-least_blocked
decreases-least_blocked l = length l.keys.now
