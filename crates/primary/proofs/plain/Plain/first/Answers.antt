use Rattle.std.proofs.Common.{◌∙◌, ap}
use Rattle.primary.proofs.SoundLaws.{empty_start}
use Rattle.primary.proofs.plain.Plain.first.Goals as goal

pub returns-clause-fits : goal.returns-clause-fits
returns-clause-fits c = λ entries. empty_start c.over.result entries
    (ap (λ p. p.tables) c.over.ensures.value ∙ c.new.ensures.empty) c.over.ensures.fits.counted
