use Rattle.std.proofs.Common.{◌-◌, length, refl}
use Rattle.preparers.specs.Pending.{raws_of, least_raw, greatest_raw}
use Rattle.preparers.specs.Steps.{HoldsRawOf}
use Rattle.preparers.proofs.Raws.{is-of}
use Rattle.preparers.proofs.Runs as runs
use Rattle.preparers.proofs.laws.the_window_stands_for_its_records.Goals as goal

pub returns-clause-kept : goal.returns-clause-kept
returns-clause-kept c raws step w h f = runs.kept (HoldsRawOf raws) (λ n. tt) step w (runs.fit-needs raws step f) h

pub returns-clause-lent : goal.returns-clause-lent
returns-clause-lent c raws w i h = is-of raws w 0 (least_raw w) i h refl

pub returns-clause-lent_last : goal.returns-clause-lent_last
returns-clause-lent_last c raws w i h = is-of raws w (length (raws_of w.slots) - 1) (greatest_raw w) i h refl
