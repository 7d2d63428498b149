use Rattle.std.proofs.Common.{refl}
use Rattle.std.specs.Fmt.{digits}
use Rattle.redo_spec.proofs.worked.further_transactions.Goals as goal

pub returns-clause-rollback_alone : goal.returns-clause-rollback_alone
unfolding digits
returns-clause-rollback_alone c = refl

pub returns-clause-undo_of_none : goal.returns-clause-undo_of_none
unfolding digits
returns-clause-undo_of_none c = refl

pub returns-clause-commit_of_none : goal.returns-clause-commit_of_none
unfolding digits
returns-clause-commit_of_none c = refl

pub returns-clause-rollback_of_none : goal.returns-clause-rollback_of_none
unfolding digits
returns-clause-rollback_of_none c = refl

pub returns-clause-ended_by_rollback : goal.returns-clause-ended_by_rollback
unfolding digits
returns-clause-ended_by_rollback c = refl

pub returns-clause-behind_rollback : goal.returns-clause-behind_rollback
unfolding digits
returns-clause-behind_rollback c = refl

pub returns-clause-latest_undone : goal.returns-clause-latest_undone
unfolding digits
returns-clause-latest_undone c = refl

pub returns-clause-log_before_its_turn : goal.returns-clause-log_before_its_turn
unfolding digits
returns-clause-log_before_its_turn c = refl
