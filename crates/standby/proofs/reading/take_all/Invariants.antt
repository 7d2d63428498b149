use Rattle.std.proofs.Common.{◌≡◌, ◌≤◌, ◌<◌, ◌-◌, ◌^◌}
use Rattle.rl_ports.specs.Faults.{NoneCounted, Told}
use Rattle.log_registry.specs.Registered.{AreToldBy}
use Rattle.redo_reader.specs.Ahead.{redo_ahead}
use Rattle.primary.specs.Progress.{recs_of, NoneWait}
use Rattle.standby.specs.Folding.{StepsOn}
use Rattle.standby.proofs.reading.take_all.Given as goal

-- what is still ahead leads to where all of it did
abbrev pub invariant-loop-next : goal.invariant-loop-next
invariant-loop-next g l =
    let logs = g.A.Archive.logs in
    let faults = g.A.Archive.faults in
    record {
      steps : Told (logs l.fn.reader.archive) (λ known. AreToldBy known l.fn.reader.registry →
          StepsOn (redo_ahead known l.fn.reader.registry l.fn.reader.place) (redo_ahead known l.reader.registry l.reader.place)
          l.fn.evaluator l.fold);
      registry : l.reader.registry ≡ l.fn.reader.registry;
      same : logs l.reader.archive ≡ logs l.fn.reader.archive;
      none_counted : NoneCounted g.A.Archive.counts_failures_alone (faults l.fn.reader.archive) (faults l.reader.archive);
      later : faults l.fn.reader.archive ≤ faults l.reader.archive;
      none : NoneWait l.fold;
      numbered : recs_of l.fold ≤ l.reader.place.rec;
      room : l.reader.place.rec < 2 ^ 63;
    }

abbrev pub decreases-loop-next : goal.decreases-loop-next
decreases-loop-next g l = 2 ^ 63 - l.reader.place.rec
