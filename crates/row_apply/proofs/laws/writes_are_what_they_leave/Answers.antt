use Rattle.row_apply.proofs.Telling.{writes_same}
use Rattle.row_apply.proofs.laws.writes_are_what_they_leave.Goals as goal

pub returns : goal.returns
returns c = record { same = writes_same }
