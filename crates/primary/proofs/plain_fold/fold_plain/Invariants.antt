use Rattle.std.proofs.Common.{◌≡◌, ◌+◌, ◌≤◌, drop}
use Rattle.primary.specs.Progress.{progress_after_records, recs_of}
use Rattle.primary.specs.Starts.{first_progress}
use Rattle.primary.proofs.SoundLaws.{SoundAhead}
use Rattle.primary.proofs.plain_fold.fold_plain.Given as goal

-- what is left comes to the same, over rows that are sound as each of it comes, and not too many records were taken
abbrev pub invariant-loop-head : goal.invariant-loop-head
invariant-loop-head l = record {
  same : progress_after_records l.skips (drop l.head-index l.recs) l.fold ≡
      progress_after_records l.skips l.recs (first_progress l.fn.start);
  rows : SoundAhead l.skips (drop l.head-index l.recs) l.fold;
  few : recs_of l.fold ≤ l.fn.start.law.rec + l.head-index;
}
