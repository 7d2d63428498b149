use Rattle.std.proofs.Common.{None, Some, arith, sym, subst}
use Rattle.std.specs.Vec.Iter.{into_iter_items}
use Rattle.redo_reader.specs.Steps.{IsReading, IsLogEnd, Shows}
use Rattle.redo_reader.proofs.StepLaws.{begins_reading, feeds_reading, breaks, drains, closes, next_log}
use Rattle.redo_reader.proofs.advance.step.Goals as goal

pub returns-in-Log-clause-stands : goal.returns-in-Log-clause-stands
returns-in-Log-clause-stands g c =
    let known = g.A.Archive.logs c.args.archive.now in
    let reading = c.args.reading.now in
    begins_reading known c.args.registry.now reading.place reading.front (into_iter_items reading.waiting) c.in-Log.log
    c.requires.none
    (subst (λ o. IsReading known c.args.registry.now reading.place reading.front (into_iter_items reading.waiting) o)
    c.in_default.is c.requires.stands) c.in-Log.ensures

pub returns-then-reading-clause-ends : goal.returns-then-reading-clause-ends
returns-then-reading-clause-ends g c =
    let known = g.A.Archive.logs c.args.archive.now in
    let reading = c.args.reading.now in
    drains known c.args.registry.now reading.place reading.front (into_iter_items reading.waiting) c.in-Some.log c.look_on.new.log
    c.requires.none
    (subst (λ o. IsReading known c.args.registry.now reading.place reading.front (into_iter_items reading.waiting) o) c.in-Some.is
    c.requires.stands)
    (subst (λ f. IsLogEnd known reading.front.seq c.in-Some.log c.look_on.new.log f) c.in-LogEnd-None.field-0-is
    (subst (λ l. Shows known reading.front.seq c.in-Some.log c.look_on.new.log l) c.in-LogEnd-None.is
    c.in_ok-raws.ensures.shows))
    (omega arith)

pub returns-in-Raws-clause-stands : goal.returns-in-Raws-clause-stands
returns-in-Raws-clause-stands g c =
    let known = g.A.Archive.logs c.args.archive.now in
    let reading = c.args.reading.now in
    let read = feeds_reading known c.args.registry.now reading.place reading.front (into_iter_items reading.waiting) c.in-Some.log
    c.look_on.new.log c.in-Raws.raws.items c.requires.none
    (subst (λ o. IsReading known c.args.registry.now reading.place reading.front (into_iter_items reading.waiting) o) c.in-Some.is
    c.requires.stands)
    (subst (λ l. Shows known reading.front.seq c.in-Some.log c.look_on.new.log l) c.in-Raws.is c.in_ok-raws.ensures.shows) in
    subst (λ k. IsReading k c.args.registry.now reading.place reading.front (into_iter_items c.into_iter.result)
    (Some c.look_on.new.log)) (sym c.in_ok-raws.ensures.logs)
    (subst (λ w. IsReading known c.args.registry.now reading.place reading.front w (Some c.look_on.new.log))
    (sym c.into_iter.ensures.rest) read)

pub returns-in-LogEnd-Some-clause-ends : goal.returns-in-LogEnd-Some-clause-ends
returns-in-LogEnd-Some-clause-ends g c =
    let known = g.A.Archive.logs c.args.archive.now in
    let reading = c.args.reading.now in
    breaks known c.args.registry.now reading.place reading.front (into_iter_items reading.waiting) c.in-Some.log c.look_on.new.log
    c.in-LogEnd-Some.fault c.requires.none
    (subst (λ o. IsReading known c.args.registry.now reading.place reading.front (into_iter_items reading.waiting) o) c.in-Some.is
    c.requires.stands)
    (subst (λ f. IsLogEnd known reading.front.seq c.in-Some.log c.look_on.new.log f) c.in-LogEnd-Some.field-0-is
    (subst (λ l. Shows known reading.front.seq c.in-Some.log c.look_on.new.log l) c.in-LogEnd-Some.is
    c.in_ok-raws.ensures.shows))

pub returns-else-reading-clause-stands : goal.returns-else-reading-clause-stands
returns-else-reading-clause-stands g c =
    let known = g.A.Archive.logs c.args.archive.now in
    let reading = c.args.reading.now in
    let read = closes known c.args.registry.now reading.place reading.front (into_iter_items reading.waiting) c.in-Some.log
    c.look_on.new.log c.requires.none
    (subst (λ o. IsReading known c.args.registry.now reading.place reading.front (into_iter_items reading.waiting) o) c.in-Some.is
    c.requires.stands)
    (subst (λ f. IsLogEnd known reading.front.seq c.in-Some.log c.look_on.new.log f) c.in-LogEnd-None.field-0-is
    (subst (λ l. Shows known reading.front.seq c.in-Some.log c.look_on.new.log l) c.in-LogEnd-None.is
    c.in_ok-raws.ensures.shows)) in
    subst (λ k. IsReading k c.args.registry.now reading.place (next_log reading.front) (into_iter_items reading.waiting) None)
    (sym c.in_ok-raws.ensures.logs) read
