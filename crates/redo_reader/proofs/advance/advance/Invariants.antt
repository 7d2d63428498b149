use Rattle.std.proofs.Common.{◌≡◌, ◌<◌, ◌≤◌, length}
use Rattle.std.specs.Vec.Iter.{into_iter_items}
use Rattle.rl_ports.specs.Faults.{NoneCounted}
use Rattle.redo_reader.specs.Steps.{IsReading, WaitsOn, distance}
use Rattle.redo_reader.proofs.advance.advance.Given as goal

abbrev pub invariant-loop-raw : goal.invariant-loop-raw
invariant-loop-raw g l =
    let logs = g.A.Archive.logs in
    let faults = g.A.Archive.faults in
    record {
      block : 0 < length l.reading.block.items;
      reading : IsReading (logs l.archive) l.registry l.reading.place l.reading.front
          (into_iter_items l.reading.waiting) l.reading.log;
      waits : WaitsOn (into_iter_items l.fn.reading.waiting) (into_iter_items l.reading.waiting) (l.archive ≡ l.fn.archive);
      place : l.reading.place ≡ l.fn.reading.place;
      same : logs l.archive ≡ logs l.fn.archive;
      none : NoneCounted g.A.Archive.counts_failures_alone (faults l.fn.archive) (faults l.archive);
      later : faults l.fn.archive ≤ faults l.archive;
    }

abbrev pub decreases-loop-raw : goal.decreases-loop-raw
decreases-loop-raw g l = distance l.reading.front l.reading.log
