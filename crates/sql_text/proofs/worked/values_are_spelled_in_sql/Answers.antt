use Rattle.std.proofs.Common.{refl}
use Rattle.std.specs.Fmt.{digits}
use Rattle.sql_text.proofs.worked.values_are_spelled_in_sql.Goals as goal

pub returns-clause-insert : goal.returns-clause-insert
unfolding digits
returns-clause-insert c = refl

pub returns-clause-delete : goal.returns-clause-delete
unfolding digits
returns-clause-delete c = refl

pub returns-clause-undo_delete : goal.returns-clause-undo_delete
unfolding digits
returns-clause-undo_delete c = refl

pub returns-clause-undo_key : goal.returns-clause-undo_key
unfolding digits
returns-clause-undo_key c = refl

pub returns-clause-unknown : goal.returns-clause-unknown
unfolding digits
returns-clause-unknown c = refl
