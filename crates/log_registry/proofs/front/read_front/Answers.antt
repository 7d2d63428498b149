use Rattle.rl_ports.specs.Faults.{Told}
use Rattle.std.proofs.Common.{◌∙◌, subst}
use Rattle.log_registry.specs.Front.{IsReadOn}
use Rattle.log_registry.proofs.FrontLaws.{told_end}
use Rattle.log_registry.proofs.front.read_front.Goals as goal

pub returns-then-more-eq0-clause-front : goal.returns-then-more-eq0-clause-front
returns-then-more-eq0-clause-front g c =
    told_end (g.A.Archive.logs c.args.archive.now) c.args.seq c.read_on.new.front c.loop-count.count c.in_ok-more.more
    c.loop-count-test.true (c.read_on.auto.front ∙ c.loop-count.invariant.size) c.if-more-eq0.true
    (subst (λ known. Told known (λ logs. IsReadOn (logs c.args.seq) c.read_on.new.front c.loop-count.count c.in_ok-more.more))
    c.loop-count.invariant.same c.in_ok-more.ensures.read)
