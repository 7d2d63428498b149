use Rattle.std.proofs.Common.{◌≡◌, ◌+◌, suc, arith}
use Rattle.preparers.proofs.Raws.{none-so-far}
use Rattle.preparers.proofs.ring.least_at.Goals as goal

-- no cut record stands up to here
pub loop-at-preserved : goal.loop-at-preserved
loop-at-preserved c =
    let e : c.loop-at.at + 1 ≡ suc c.loop-at.at = omega arith in
    rw e (none-so-far c.args.slots.now.items c.loop-at.at c.loop-at.invariant cc)
