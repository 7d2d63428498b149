use Rattle.run_spec.proofs.Again.{folds-again}
use Rattle.run_spec.proofs.between.the_evaluator_folds_again.Goals as goal

pub returns : goal.returns
returns c = record { again = folds-again }
