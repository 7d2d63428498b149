use Rattle.std.proofs.Common.{subst, sym}
use Rattle.standby.proofs.Steps.{CutGives, StepsWhereTold, raw_steps}
use Rattle.redo_reader.specs.Reading.{LeadsOn}
use Rattle.standby.proofs.reading.take_next.Goals as goal

pub returns-in_ok-next-in-Raw-clause-steps : goal.returns-in_ok-next-in-Raw-clause-steps
returns-in_ok-next-in-Raw-clause-steps g c =
    let known = g.A.Archive.logs c.args.reader.now.archive in
    let old = c.args.reader.now in
    let new = c.cut.new.self in
    subst (λ stop. StepsWhereTold known old.registry old.place new.registry new.place c.args.evaluator
    c.in_ok-next-in-Raw.next stop) (sym c.stop_with-stop.ensures)
    (raw_steps known old.registry old.place new.registry new.place c.in-Raw.raw c.args.evaluator c.in_ok-next-in-Raw.next
    c.in_ok-next-in-Raw.took
    (subst (λ cut. CutGives known old.registry old.place new.registry new.place cut) c.in-Raw.is c.in_ok-stop.ensures.exact)
    (subst (λ cut. LeadsOn cut old.place new.place) c.in-Raw.is c.in_ok-stop.ensures.next)
    c.in_ok-next-in-Raw.ensures.taken)
