use Rattle.std.proofs.Common.{◌≡◌}
use Rattle.ground_tests.proofs.locks.add_all.Given as goal

abbrev pub invariant-loop : goal.invariant-loop
invariant-loop g l = l.seat ≡ record l.initial.seat { seen = l.seat.seen }
