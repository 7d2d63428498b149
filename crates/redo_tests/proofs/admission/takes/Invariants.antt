use Rattle.std.proofs.Common.{◌≡◌, ◌+◌}
use Rattle.redo_tests.proofs.admission.takes.Given as goal

abbrev pub invariant-loop : goal.invariant-loop
invariant-loop l = l.law.rec ≡ l.initial.law.rec + l.counter
