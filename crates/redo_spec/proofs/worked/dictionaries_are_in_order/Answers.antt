use Rattle.std.proofs.Common.{refl}
use Rattle.std.specs.Fmt.{digits}
use Rattle.redo_spec.proofs.worked.dictionaries_are_in_order.Goals as goal

pub returns-clause-no_schema : goal.returns-clause-no_schema
unfolding digits
returns-clause-no_schema c = refl

pub returns-clause-no_column_name : goal.returns-clause-no_column_name
unfolding digits
returns-clause-no_column_name c = refl

pub returns-clause-column_twice : goal.returns-clause-column_twice
unfolding digits
returns-clause-column_twice c = refl

pub returns-clause-widest_raw_key : goal.returns-clause-widest_raw_key
unfolding digits
returns-clause-widest_raw_key c = refl

pub returns-clause-wide_raw_key : goal.returns-clause-wide_raw_key
unfolding digits
returns-clause-wide_raw_key c = refl

pub returns-clause-nullable_unique : goal.returns-clause-nullable_unique
unfolding digits
returns-clause-nullable_unique c = refl

pub returns-clause-by_id : goal.returns-clause-by_id
unfolding digits
returns-clause-by_id c = refl
