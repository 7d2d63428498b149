use Rattle.primary.specs.Starts.{folded_of}
use Rattle.standby.proofs.OneLog.{fold-where_told}
use Rattle.standby.proofs.folding.folded_ahead.Goals as goal

pub returns-in-Ok-take_all-clause-folded : goal.returns-in-Ok-take_all-clause-folded
returns-in-Ok-take_all-clause-folded g c =
    fold-where_told c.the_evaluator_folds.ensures.folds c.first_fold_is_of_the_redo.ensures.same
    (g.A.Archive.logs c.args.reader.archive) c.args.reader.registry c.args.reader.place
    c.args.seq c.args.base c.in-Ok.evaluator c.in-Ok-take_all.evaluator _ (folded_of c.finish.result)
    c.in-Ok.ensures.begun c.in-Ok-take_all.ensures.ends c.finish.ensures.shown
