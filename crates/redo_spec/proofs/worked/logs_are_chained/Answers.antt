use Rattle.std.proofs.Common.{refl}
use Rattle.std.specs.Fmt.{digits}
use Rattle.redo_spec.proofs.worked.logs_are_chained.Goals as goal

pub returns-clause-broken : goal.returns-clause-broken
unfolding digits
returns-clause-broken c = refl

pub returns-clause-whole : goal.returns-clause-whole
unfolding digits
returns-clause-whole c = refl
