use Rattle.std.proofs.Common.{refl}
use Rattle.std.specs.Fmt.{digits}
use Rattle.redo_worked.proofs.examples.rows_of_a_base_fold.Goals as goal

pub returns-clause-differs : goal.returns-clause-differs
unfolding digits
returns-clause-differs c = refl

pub returns-clause-skipped : goal.returns-clause-skipped
unfolding digits
returns-clause-skipped c = refl

pub returns-clause-freed : goal.returns-clause-freed
unfolding digits
returns-clause-freed c = refl

pub returns-clause-moved : goal.returns-clause-moved
unfolding digits
returns-clause-moved c = refl
