use Rattle.run_spec.proofs.Way.{some-way, all-way}
use Rattle.run_spec.proofs.laws.a_state_that_fits_is_on_the_way.Goals as goal

pub returns-clause-some : goal.returns-clause-some
returns-clause-some c logs distance old new b fits same mark = some-way logs distance old new fits same mark

pub returns-clause-all : goal.returns-clause-all
returns-clause-all c logs distance old new verdict names b same ends mark =
    all-way logs distance old new verdict names b same ends mark
