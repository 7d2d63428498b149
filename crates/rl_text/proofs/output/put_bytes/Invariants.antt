use Rattle.std.proofs.Common.{◌≤◌, length}
use Rattle.rl_ports.specs.Faults.{NoneCounted}
use Rattle.rl_text.proofs.Moves.{Moved}
use Rattle.rl_text.proofs.output.put_bytes.Given as goal

-- what is not left was written, and the count has not fallen
abbrev pub invariant-loop-rest : goal.invariant-loop-rest
invariant-loop-rest g l = record {
  moved : Moved (g.O.Sink.written l.fn.out) (g.O.Sink.written l.out) l.bytes l.rest;
  none : NoneCounted g.O.Sink.counts_failures_alone (g.O.Sink.faults l.fn.out) (g.O.Sink.faults l.out);
  later : g.O.Sink.faults l.fn.out ≤ g.O.Sink.faults l.out;
}

abbrev pub decreases-loop-rest : goal.decreases-loop-rest
decreases-loop-rest g l = length l.rest
