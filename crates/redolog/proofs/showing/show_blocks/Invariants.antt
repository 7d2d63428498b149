use Rattle.std.proofs.Common.{◌≤◌}
use Rattle.rl_ports.specs.Faults.{NoneCounted, Told}
use Rattle.redolog.specs.Showing.{Going}
use Rattle.redolog.proofs.showing.show_blocks.Given as goal

abbrev pub invariant-loop : goal.invariant-loop
invariant-loop g l = record {
  going : Told (g.I.Source.left l.fn.input)
      (λ all. Going (g.I.Source.left l.input) (g.O.Sink.written l.fn.out) (g.O.Sink.written l.out) l.fn.begun l.log all);
  input_none : NoneCounted g.I.Source.counts_failures_alone (g.I.Source.faults l.fn.input) (g.I.Source.faults l.input);
  input_later : g.I.Source.faults l.fn.input ≤ g.I.Source.faults l.input;
  output_none : NoneCounted g.O.Sink.counts_failures_alone (g.O.Sink.faults l.fn.out) (g.O.Sink.faults l.out);
  output_later : g.O.Sink.faults l.fn.out ≤ g.O.Sink.faults l.out;
}
