use Rattle.std.proofs.Common.{refl}
use Rattle.std.specs.Fmt.{digits}
use Rattle.redo_spec.proofs.worked.further_rules.Goals as goal

pub returns-clause-from_commit_2 : goal.returns-clause-from_commit_2
unfolding digits
returns-clause-from_commit_2 c = refl

pub returns-clause-from_commit_3 : goal.returns-clause-from_commit_3
unfolding digits
returns-clause-from_commit_3 c = refl

pub returns-clause-longest_part : goal.returns-clause-longest_part
unfolding digits
returns-clause-longest_part c = refl

pub returns-clause-long_part : goal.returns-clause-long_part
unfolding digits
returns-clause-long_part c = refl

pub returns-clause-lower_case : goal.returns-clause-lower_case
unfolding digits
returns-clause-lower_case c = refl

pub returns-clause-percent_alone : goal.returns-clause-percent_alone
unfolding digits
returns-clause-percent_alone c = refl

pub returns-clause-one_is_a_byte : goal.returns-clause-one_is_a_byte
unfolding digits
returns-clause-one_is_a_byte c = refl

pub returns-clause-byte_is_itself : goal.returns-clause-byte_is_itself
unfolding digits
returns-clause-byte_is_itself c = refl
