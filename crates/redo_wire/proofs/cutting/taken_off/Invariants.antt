use Rattle.std.proofs.Common.{◌≡◌, ◌+◌, ◌-◌, ◌*◌, ◌^◌, ◌≤◌, ◌<◌, length, drop}
use Rattle.redo_wire.specs.Stream.{cut_off, with_raws}
use Rattle.redo_wire.proofs.cutting.taken_off.Given as goal

abbrev pub invariant-loop-place : goal.invariant-loop-place
invariant-loop-place l = record {
  so_far : with_raws l.raws.items (cut_off l.head (l.head.count - l.place.done) l.place (drop l.used l.bytes)) ≡
      with_raws l.fn.before.items (cut_off l.head (l.head.count - l.fn.start.done) l.fn.start l.bytes);
  done : l.place.done ≤ l.head.count;
  rec : l.place.rec + (l.head.count - l.place.done) < 2 ^ 64;
  at : l.place.at + 65536 * (l.head.count - l.place.done) < 2 ^ 64;
  used : l.used ≤ length l.bytes;
}

abbrev pub decreases-loop-place : goal.decreases-loop-place
decreases-loop-place l = l.head.count - l.place.done
