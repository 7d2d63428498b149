use Rattle.std.proofs.Common.{◌≡◌, ◌≤◌, length, nat_le}
use Rattle.standby_spec.specs.Writings.{log_limit}
use Rattle.publisher.proofs.registering.has_all_logs.Given as goal

-- there are enough where so many are left as are wanted
abbrev pub invariant-loop-entry : goal.invariant-loop-entry
invariant-loop-entry l = record {
  some : 1 ≤ l.wanted;
  rest : nat_le l.wanted (length l.entry-iterator) ≡ nat_le log_limit (length l.logs);
}
