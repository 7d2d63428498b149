use Rattle.redo_spec.proofs.AdmissionLaws.{first_bad}
use Rattle.redo_spec.proofs.laws.the_first_bad_record_is_told.Goals as goal

pub returns : goal.returns
returns c = record { told = first_bad }
