use Rattle.std.proofs.Common.{◌≡◌, ◌-◌, suc, arith}
use Rattle.preparers.proofs.Raws.{none-behind}
use Rattle.preparers.proofs.ring.greatest_at.Goals as goal

-- no cut record stands from here on
pub loop-end-preserved : goal.loop-end-preserved
loop-end-preserved c =
    let e : c.loop-end.end ≡ suc (c.loop-end.end - 1) = omega (arith, c.loop-end-test.true) in (
      omega (arith, c.loop-end.invariant.0),
      none-behind c.args.slots.now.items (c.loop-end.end - 1)
          (rw e at c.loop-end.invariant.1) cc,
    )
