use Rattle.run_spec.proofs.FirstLog.{first-log}
use Rattle.run_spec.proofs.between.the_first_log_has_the_dictionary.Goals as goal

pub returns : goal.returns
returns c = record { same = first-log }
