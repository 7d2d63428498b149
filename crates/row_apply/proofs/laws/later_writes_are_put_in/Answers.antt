use Rattle.row_apply.proofs.Telling.{later_put}
use Rattle.row_apply.proofs.laws.later_writes_are_put_in.Goals as goal

pub returns : goal.returns
returns c = record { same = later_put }
