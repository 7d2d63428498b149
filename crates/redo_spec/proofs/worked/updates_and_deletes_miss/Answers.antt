use Rattle.std.proofs.Common.{refl}
use Rattle.std.specs.Fmt.{digits}
use Rattle.redo_spec.proofs.worked.updates_and_deletes_miss.Goals as goal

pub returns-clause-absent : goal.returns-clause-absent
unfolding digits
returns-clause-absent c = refl

pub returns-clause-least_column : goal.returns-clause-least_column
unfolding digits
returns-clause-least_column c = refl

pub returns-clause-exists : goal.returns-clause-exists
unfolding digits
returns-clause-exists c = refl

pub returns-clause-taken : goal.returns-clause-taken
unfolding digits
returns-clause-taken c = refl

pub returns-clause-own_value : goal.returns-clause-own_value
unfolding digits
returns-clause-own_value c = refl
