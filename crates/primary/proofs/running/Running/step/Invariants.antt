use Rattle.std.specs.Vec.Iter.{into_iter_items}
use Rattle.primary.proofs.StepLaws.{Steps}
use Rattle.primary.proofs.running.Running.step.Given as goal

abbrev pub invariant-loop-vector : goal.invariant-loop-vector
invariant-loop-vector l = Steps l.skips l.head l.fn.rec l.fn.self l.self l.vec (into_iter_items l.vector-iterator)
