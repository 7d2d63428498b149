use Rattle.std.proofs.Common.{ap, ◌∙◌, subst}
use Rattle.redo_reader.specs.Ahead.{first_place}
use Rattle.redo_reader.specs.Reading.{clamped_place}
use Rattle.standby.proofs.OneLog.{FoldsAhead, fold-of_entry}
use Rattle.standby.proofs.folding.folded_entry.Goals as goal

pub returns-in-Ok-new-clause-folded : goal.returns-in-Ok-new-clause-folded
returns-in-Ok-new-clause-folded g c =
    fold-of_entry c.the_reader_gives_the_redo.ensures.redo (g.A.Archive.logs c.args.archive) c.args.entry
    c.in-Ok-new.reader.registry c.in-Ok-new.reader.place c.saturating_sub.result c.folded_ahead.result.folded
    (ap (λ r. r.registry) c.in-Ok-new.ensures.begun ∙ c.in-Ok.ensures)
    (ap (λ r. r.place) c.in-Ok-new.ensures.begun ∙ ap (λ es. clamped_place es (first_place c.args.entry.head.seq 0))
    c.in-Ok.ensures) c.saturating_sub.ensures
    (subst (λ known. FoldsAhead known c.in-Ok-new.reader.registry c.in-Ok-new.reader.place c.args.entry.head.seq
    c.saturating_sub.result c.folded_ahead.result.folded) (ap (λ r. g.A.Archive.logs r.archive) c.in-Ok-new.ensures.begun)
    c.folded_ahead.ensures.folded)
