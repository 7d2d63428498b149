use Rattle.redolog.proofs.Heads.{told_head_whole, told_head_fault}
use Rattle.redolog.proofs.showing.show_front.Goals as goal

pub returns-in-Some-clause-faulty : goal.returns-in-Some-clause-faulty
returns-in-Some-clause-faulty g c =
    told_head_whole (g.I.Source.left c.args.input.now) _ (rw c.in-Some.is at c.in_ok-head.ensures.head)

pub returns-in-None-clause-faulty : goal.returns-in-None-clause-faulty
returns-in-None-clause-faulty g c =
    told_head_fault (g.I.Source.left c.args.input.now) (rw c.in-None.is at c.in_ok-head.ensures.head)
