use Rattle.constraint_check.proofs.LookUpLaws.{told-is-left}
use Rattle.constraint_check.proofs.checking.look_ups_tell_who_is_left_alone.Goals as goal

pub returns : goal.returns
returns c = record { told = told-is-left }
