use Rattle.std.proofs.Common.{◌≡◌, [], ◌∷◌, sym, subst}
use Rattle.std.specs.Vec.Iter.{into_iter_items}
use Rattle.rl_ports.specs.Faults.{Told}
use Rattle.log_registry.specs.Registered.{AreToldBy}
use Rattle.redo_reader.specs.Ahead.{ahead, raws_before}
use Rattle.redo_reader.specs.Steps.{IsReading}
use Rattle.redo_reader.proofs.StepLaws.{gives}
use Rattle.redo_reader.proofs.advance.advance.Goals as goal

pub returns-in-Some-clause-exact : goal.returns-in-Some-clause-exact
returns-in-Some-clause-exact g c =
    let known = g.A.Archive.logs c.loop-raw.archive in
    let registry = c.args.registry.now in
    let reading = c.loop-raw.reading in
    let raw = c.in-Some.raw in
    let given = gives known registry reading.place reading.front raw (into_iter_items c.next.new.self) reading.log
    (subst (λ w. IsReading known registry reading.place reading.front w reading.log) c.in-Some.ensures.items
    c.loop-raw.invariant.reading) in
    subst (λ k. Told k (λ logs. AreToldBy logs registry →
    ahead logs registry c.args.reading.now.place ≡ raws_before (raw ∷ [])
    (ahead logs registry c.place_behind-reading.result))) c.loop-raw.invariant.same
    (subst (λ p. Told known (λ logs. AreToldBy logs registry →
    ahead logs registry p ≡ raws_before (raw ∷ []) (ahead logs registry c.place_behind-reading.result)))
    c.loop-raw.invariant.place
    (subst (λ q. Told known (λ logs. AreToldBy logs registry →
    ahead logs registry reading.place ≡ raws_before (raw ∷ []) (ahead logs registry q))) (sym c.place_behind-reading.ensures)
    given.ahead_is))

pub returns-in-Some-clause-stands : goal.returns-in-Some-clause-stands
returns-in-Some-clause-stands g c =
    let known = g.A.Archive.logs c.loop-raw.archive in
    let registry = c.args.registry.now in
    let reading = c.loop-raw.reading in
    let raw = c.in-Some.raw in
    let given = gives known registry reading.place reading.front raw (into_iter_items c.next.new.self) reading.log
    (subst (λ w. IsReading known registry reading.place reading.front w reading.log) c.in-Some.ensures.items
    c.loop-raw.invariant.reading) in
    subst (λ q. IsReading known registry q q (into_iter_items c.next.new.self) reading.log)
    (sym c.place_behind-reading.ensures) given.reading
