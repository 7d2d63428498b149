use Rattle.redo_spec.proofs.StandingLaws.{active_is_seen}
use Rattle.redo_spec.proofs.laws.standing_and_history_agree.Goals as goal

pub returns : goal.returns
returns c = record { agree = active_is_seen }
