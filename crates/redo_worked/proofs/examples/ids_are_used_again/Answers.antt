use Rattle.std.proofs.Common.{refl}
use Rattle.std.specs.Fmt.{digits}
use Rattle.redo_worked.proofs.examples.ids_are_used_again.Goals as goal

pub returns-clause-after_commit : goal.returns-clause-after_commit
unfolding digits
returns-clause-after_commit c = refl

pub returns-clause-by_a_rule : goal.returns-clause-by_a_rule
unfolding digits
returns-clause-by_a_rule c = refl

pub returns-clause-own_delete : goal.returns-clause-own_delete
unfolding digits
returns-clause-own_delete c = refl
