use Rattle.publisher.proofs.GroupSteps.{last-is-at}
use Rattle.publisher.proofs.group.last_of.Goals as goal

pub returns : goal.returns
returns c =
    let last = last-is-at c.args.commits.now c.last-item.result c.requires.some c.last-item.is in
    record { last = λ i. (last.0 i, last.1 i) }
