use Rattle.std.proofs.Common.{◌≤◌, ◌*◌, ◌^◌}
use Rattle.log_registry.specs.Registered.{count_of}
use Rattle.mining_tests.proofs.reading.registry_of.Given as goal

abbrev pub invariant-loop-seq : goal.invariant-loop-seq
invariant-loop-seq l = count_of l.registry ≤ l.seq-index * 2 ^ 32
