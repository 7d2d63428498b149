use Rattle.std.proofs.Common.{refl}
use Rattle.std.specs.Fmt.{digits}
use Rattle.redo_spec.proofs.worked.key_of_two_columns_moves.Goals as goal

pub returns-clause-drained : goal.returns-clause-drained
unfolding digits
returns-clause-drained c = refl

pub returns-clause-unlogged : goal.returns-clause-unlogged
unfolding digits
returns-clause-unlogged c = refl

pub returns-clause-logged_more : goal.returns-clause-logged_more
unfolding digits
returns-clause-logged_more c = refl

pub returns-clause-new_held : goal.returns-clause-new_held
unfolding digits
returns-clause-new_held c = refl

pub returns-clause-old_held : goal.returns-clause-old_held
unfolding digits
returns-clause-old_held c = refl

pub returns-clause-unlogged_onto_held : goal.returns-clause-unlogged_onto_held
unfolding digits
returns-clause-unlogged_onto_held c = refl
