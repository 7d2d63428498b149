use Rattle.primary.proofs.FoldsLaw.{progress_folds}
use Rattle.primary.proofs.laws.the_evaluator_folds.Goals as goal

pub returns : goal.returns
returns c = record { folds = progress_folds }
