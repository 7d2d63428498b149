use Rattle.std.proofs.lemmas.Result.{err_from_is_err_and}
use Rattle.lcr.specs.Spilled.{placed_from}
use Rattle.lcr.proofs.ChunkLaws.{goes_on, ends}
use Rattle.lcr.proofs.spilled.lcr_list.Goals as goal

pub returns-in_err-lcr : goal.returns-in_err-lcr
returns-in_err-lcr c =
    let p = err_from_is_err_and c.from_residual-in_err-lcr.result c.from_residual-in_err-lcr.ensures.1 in
    rw (p.1, p.2) (ends c.in_err-lcr.field-0.0 c.loop.lcrs.items c.args.count c.loop.counter c.loop.rest.now
    (placed_from c.args.count c.args.bytes.now) c.loop-test.true c.in_err-lcr.ensures c.loop.invariant)

pub loop-preserved : goal.loop-preserved
loop-preserved c =
    rw c.in_ok-push.ensures.items (goes_on c.loop.lcrs.items c.args.count c.loop.counter c.loop.rest.now c.in_ok-lcr.lcr
    c.in_ok-lcr.after.now (placed_from c.args.count c.args.bytes.now) c.loop-test.true c.in_ok-lcr.ensures c.loop.invariant)
