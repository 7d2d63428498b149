use Rattle.std.proofs.Common.{refl}
use Rattle.std.specs.Fmt.{digits}
use Rattle.redo_spec.proofs.worked.further_first_causes.Goals as goal

pub returns-clause-columns_before_types : goal.returns-clause-columns_before_types
unfolding digits
returns-clause-columns_before_types c = refl

pub returns-clause-types_before_supplement : goal.returns-clause-types_before_supplement
unfolding digits
returns-clause-types_before_supplement c = refl

pub returns-clause-not_open_before_scn : goal.returns-clause-not_open_before_scn
unfolding digits
returns-clause-not_open_before_scn c = refl

pub returns-clause-record_before_cut : goal.returns-clause-record_before_cut
unfolding digits
returns-clause-record_before_cut c = refl

pub returns-clause-miss_before_bad_record : goal.returns-clause-miss_before_bad_record
unfolding digits
returns-clause-miss_before_bad_record c = refl
