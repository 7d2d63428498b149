use Rattle.std.proofs.Common.{arith}
use Rattle.redo_wire.proofs.CutLaws.{goes_on_by, stops, all_cut, took, tail, offsets_fit, still_within}
use Rattle.redo_wire.proofs.cutting.taken_off.Goals as goal

pub loop-place-preserved : goal.loop-place-preserved
loop-place-preserved c =
    let pushed = rw c.if-is_err.ensures.negation at c.push.ensures.items in
    rw c.place_behind-place.ensures (record {
      so_far = goes_on_by c.args.head c.loop-place.place c.args.bytes.now _ c.loop-place.used c.in-Ok.size c.loop-place.raws.items
          c.push.new.self.items c.in_ok-raw-in-Ok.raw _ c.loop-place-test.true (tail c.loop-place.used c.args.bytes.now)
          c.in-Ok.ensures.first c.in-Ok.ensures.whole c.in_ok-raw-in-Ok.ensures pushed c.loop-place.invariant.so_far;
      done = omega arith;
      rec = omega arith;
      at = offsets_fit c.loop-place.place.at c.in-Ok.size c.args.head.count c.loop-place.place.done c.loop-place-test.true
          c.in-Ok.ensures.short c.loop-place.invariant.at;
      used = still_within c.loop-place.used c.in-Ok.size c.args.bytes.now c.loop-place.invariant.used c.in-Ok.ensures.whole;
    })

pub returns-in-Err-clause-cut : goal.returns-in-Err-clause-cut
returns-in-Err-clause-cut c =
    took c.stop.result _ _
    (stops c.args.head c.loop-place.place _ _ c.in-Err.fault c.told.result c.loop-place.raws.items _ c.loop-place-test.true
    (tail c.loop-place.used c.args.bytes.now) c.in-Err.ensures.first c.told.ensures c.loop-place.invariant.so_far) c.stop.ensures

pub returns-clause-cut : goal.returns-clause-cut
returns-clause-cut c =
    took c.stop-2.result _ _
    (all_cut c.args.head c.args.head.count c.loop-place.place.done c.loop-place.used c.loop-place.place c.args.bytes.now _
    c.trailing.result c.loop-place.raws.items _ c.loop-place-test.false (tail c.loop-place.used c.args.bytes.now)
    c.trailing.ensures c.loop-place.invariant.so_far) c.stop-2.ensures
