use Rattle.eager_work.proofs.WorkLaws.{no-work, work-chunk, work-undone}
use Rattle.eager_work.proofs.laws.attempts_are_the_work.Goals as goal

pub returns-clause-none : goal.returns-clause-none
returns-clause-none c = no-work

pub returns-clause-chunk : goal.returns-clause-chunk
returns-clause-chunk c = work-chunk

pub returns-clause-undone : goal.returns-clause-undone
returns-clause-undone c = work-undone
