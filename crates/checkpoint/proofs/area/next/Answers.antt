use Rattle.checkpoint.proofs.Walking.{checked_next}
use Rattle.checkpoint.proofs.area.next.Goals as goal

pub returns-in-Ok-clause-next : goal.returns-in-Ok-clause-next
returns-in-Ok-clause-next g c =
    checked_next (g.K.Keeper.holds c.args.keeper.now) c.args.area c.args.last.now c.in-Ok.found c.checked.result
    (g.met.K.Keeper.lawful c.args.keeper.now) (rw c.bytes.ensures.same at c.in-Ok.ensures.next) c.checked.ensures
