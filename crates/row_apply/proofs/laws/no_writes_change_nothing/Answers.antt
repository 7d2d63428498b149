use Rattle.row_apply.proofs.Sound.{overlaid-none}
use Rattle.row_apply.proofs.laws.no_writes_change_nothing.Goals as goal

pub returns : goal.returns
returns c = record { same = overlaid-none }
