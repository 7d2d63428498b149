use Rattle.std.proofs.Common.{◌≤◌, ◌-◌, length, take}
use Rattle.std.specs.Io.KnownBytes.{Appends}
use Rattle.rl_ports.specs.Faults.{NoneCounted}
use Rattle.redolog.proofs.output.say.Given as goal

-- so many bytes of the text are written
abbrev pub invariant-loop-done : goal.invariant-loop-done
invariant-loop-done g l =
    let written = g.O.Sink.written in
    let faults = g.O.Sink.faults in
    record {
      within : l.done ≤ length l.text;
      front : Appends (written l.fn.out) (written l.out) (take l.done l.text);
      none : NoneCounted g.O.Sink.counts_failures_alone (faults l.fn.out) (faults l.out);
      later : faults l.fn.out ≤ faults l.out;
    }

abbrev pub decreases-loop-done : goal.decreases-loop-done
decreases-loop-done g l = length l.text - l.done
