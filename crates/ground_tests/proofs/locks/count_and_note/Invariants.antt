use Rattle.std.proofs.Common.{◌≡◌}
use Rattle.ground_tests.proofs.locks.count_and_note.Given as goal

abbrev pub invariant-loop : goal.invariant-loop
invariant-loop g l =
    (l.seats.counter ≡ record l.initial.seats.counter { seen = l.seats.counter.seen }) ×
    (l.seats.numbers ≡ record l.initial.seats.numbers { seen = l.seats.numbers.seen })
