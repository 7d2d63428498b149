use Rattle.std.proofs.Common.{◌≤◌, ◌+◌, ◌-◌, length}
use Rattle.std.specs.Io.KnownBytes.{Consumes}
use Rattle.rl_ports.specs.Faults.{NoneCounted}
use Rattle.rl_text.proofs.input.read_all.Given as goal

-- what was read was taken from the source, and is not more than is allowed
abbrev pub invariant-loop-bytes : goal.invariant-loop-bytes
invariant-loop-bytes g l = record {
  taken : Consumes (g.I.Source.left l.fn.input) (g.I.Source.left l.input) l.bytes.items;
  size : length l.bytes.items ≤ l.most + 1;
  none : NoneCounted g.I.Source.counts_failures_alone (g.I.Source.faults l.fn.input) (g.I.Source.faults l.input);
  later : g.I.Source.faults l.fn.input ≤ g.I.Source.faults l.input;
}

abbrev pub decreases-loop-bytes : goal.decreases-loop-bytes
decreases-loop-bytes g l = l.most + 1 - length l.bytes.items
