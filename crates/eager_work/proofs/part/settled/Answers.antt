use Rattle.std.proofs.Common.{◌-◌, take, ap, ◌∙◌}
use Rattle.eager_work.specs.Keeping.{joined}
use Rattle.eager_work.proofs.Gathered.{settled_more}
use Rattle.eager_work.proofs.part.settled.Goals as goal

pub loop-part-preserved : goal.loop-part-preserved
loop-part-preserved c =
    settled_more c.loop-part.settled.items c.push_part.new.parts.items c.loop-part.left c.saturating_sub-left.result
    c.in_ok-front.front c.args.parts.now c.loop-part.part-index c.part-item.result
    (take c.args.standing (joined c.args.parts.now))
    c.loop-part-test.true c.part-item.is c.in_ok-push_part.ensures c.in_ok-front.ensures
    (c.saturating_sub-left.ensures ∙ ap (λ k. c.loop-part.left - k) c.len.ensures.exact) c.loop-part.invariant
