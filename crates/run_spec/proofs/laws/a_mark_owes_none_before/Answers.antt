use Rattle.run_spec.proofs.Owed.{owes-less}
use Rattle.run_spec.proofs.laws.a_mark_owes_none_before.Goals as goal

pub returns : goal.returns
returns c = record { less = owes-less }
