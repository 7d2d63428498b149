use Rattle.std.proofs.Common.{refl}
use Rattle.std.specs.Fmt.{digits}
use Rattle.redo_spec.proofs.worked.bad_dictionaries_are_malformed.Goals as goal

pub returns-clause-twice : goal.returns-clause-twice
unfolding digits
returns-clause-twice c = refl

pub returns-clause-key_column : goal.returns-clause-key_column
unfolding digits
returns-clause-key_column c = refl

pub returns-clause-equal_keys : goal.returns-clause-equal_keys
unfolding digits
returns-clause-equal_keys c = refl

pub returns-clause-widest_key : goal.returns-clause-widest_key
unfolding digits
returns-clause-widest_key c = refl

pub returns-clause-wide_key : goal.returns-clause-wide_key
unfolding digits
returns-clause-wide_key c = refl

pub returns-clause-change_before_end : goal.returns-clause-change_before_end
unfolding digits
returns-clause-change_before_end c = refl

pub returns-clause-table_behind_end : goal.returns-clause-table_behind_end
unfolding digits
returns-clause-table_behind_end c = refl
