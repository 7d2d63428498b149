use Rattle.std.proofs.Common.{refl}
use Rattle.std.specs.Fmt.{digits}
use Rattle.redo_spec.proofs.worked.first_cause_counts.Goals as goal

pub returns-clause-scn_before_alone : goal.returns-clause-scn_before_alone
unfolding digits
returns-clause-scn_before_alone c = refl

pub returns-clause-not_open_before_table : goal.returns-clause-not_open_before_table
unfolding digits
returns-clause-not_open_before_table c = refl

pub returns-clause-first_vector : goal.returns-clause-first_vector
unfolding digits
returns-clause-first_vector c = refl
