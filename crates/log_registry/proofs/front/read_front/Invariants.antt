use Rattle.std.proofs.Common.{◌≡◌, ◌≤◌, ◌-◌, length}
use Rattle.rl_ports.specs.Faults.{NoneCounted, Told}
use Rattle.redo_wire.specs.declared.header.TheConstants.{HEADER_LENGTH}
use Rattle.log_registry.specs.Front.{IsReadTo}
use Rattle.log_registry.proofs.front.read_front.Given as goal

abbrev pub invariant-loop-count : goal.invariant-loop-count
invariant-loop-count g l =
    let logs = g.A.Archive.logs in
    let faults = g.A.Archive.faults in
    record {
      size : length l.front ≡ HEADER_LENGTH;
      within : l.count ≤ HEADER_LENGTH;
      read : Told (logs l.fn.archive) (λ known. IsReadTo (known l.seq) l.front l.count);
      same : logs l.archive ≡ logs l.fn.archive;
      none : NoneCounted g.A.Archive.counts_failures_alone (faults l.fn.archive) (faults l.archive);
      later : faults l.fn.archive ≤ faults l.archive;
    }

abbrev pub decreases-loop-count : goal.decreases-loop-count
decreases-loop-count g l = HEADER_LENGTH - l.count
