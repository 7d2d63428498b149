use Rattle.std.proofs.Common.{refl}
use Rattle.std.specs.Fmt.{digits}
use Rattle.redo_spec.proofs.worked.scns_stay_in_their_log.Goals as goal

pub returns-clause-low : goal.returns-clause-low
unfolding digits
returns-clause-low c = refl

pub returns-clause-high : goal.returns-clause-high
unfolding digits
returns-clause-high c = refl

pub returns-clause-falling : goal.returns-clause-falling
unfolding digits
returns-clause-falling c = refl

pub returns-clause-ends : goal.returns-clause-ends
unfolding digits
returns-clause-ends c = refl
