use Rattle.eager_work.proofs.Gathered.{begin_over}
use Rattle.eager_work.proofs.work.begin.Goals as goal

pub returns-clause-over : goal.returns-clause-over
returns-clause-over c =
    begin_over c.args.parts.now c.args.standing c.new.result.items c.in_ok-conflict.conflict c.in_ok-waiting.waiting.items
    c.in_ok-over.over c.new.ensures.items c.in_ok-over.ensures
