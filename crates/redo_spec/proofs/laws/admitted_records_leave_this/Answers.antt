use Rattle.redo_spec.proofs.AdmissionLaws.{well_leaves}
use Rattle.redo_spec.proofs.laws.admitted_records_leave_this.Goals as goal

pub returns-clause-standing : goal.returns-clause-standing
returns-clause-standing c s history entries well = (well_leaves s history entries well).0

pub returns-clause-history : goal.returns-clause-history
returns-clause-history c s history entries well = (well_leaves s history entries well).1
