use Rattle.std.proofs.Common.{refl}
use Rattle.std.specs.Fmt.{digits}
use Rattle.redo_spec.proofs.worked.further_dictionaries.Goals as goal

pub returns-clause-id_0 : goal.returns-clause-id_0
unfolding digits
returns-clause-id_0 c = refl

pub returns-clause-twice_by_name : goal.returns-clause-twice_by_name
unfolding digits
returns-clause-twice_by_name c = refl

pub returns-clause-other_schema : goal.returns-clause-other_schema
unfolding digits
returns-clause-other_schema c = refl

pub returns-clause-no_name : goal.returns-clause-no_name
unfolding digits
returns-clause-no_name c = refl

pub returns-clause-nullable_key : goal.returns-clause-nullable_key
unfolding digits
returns-clause-nullable_key c = refl

pub returns-clause-widest_row : goal.returns-clause-widest_row
unfolding digits
returns-clause-widest_row c = refl

pub returns-clause-wide_row : goal.returns-clause-wide_row
unfolding digits
returns-clause-wide_row c = refl

pub returns-clause-table_256 : goal.returns-clause-table_256
unfolding digits
returns-clause-table_256 c = refl

pub returns-clause-table_257 : goal.returns-clause-table_257
unfolding digits
returns-clause-table_257 c = refl

pub returns-clause-twice_before_names : goal.returns-clause-twice_before_names
unfolding digits
returns-clause-twice_before_names c = refl

pub returns-clause-names_before_keys : goal.returns-clause-names_before_keys
unfolding digits
returns-clause-names_before_keys c = refl

pub returns-clause-key_of_no_column : goal.returns-clause-key_of_no_column
unfolding digits
returns-clause-key_of_no_column c = refl

pub returns-clause-late : goal.returns-clause-late
unfolding digits
returns-clause-late c = refl

pub returns-clause-before_not_open : goal.returns-clause-before_not_open
unfolding digits
returns-clause-before_not_open c = refl
