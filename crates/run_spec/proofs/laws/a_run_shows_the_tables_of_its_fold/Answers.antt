use Rattle.standby_spec.specs.StandbyRedo.{commits_of}
use Rattle.run_spec.proofs.Ending.{run-shows}
use Rattle.run_spec.proofs.laws.a_run_shows_the_tables_of_its_fold.Goals as goal

pub returns : goal.returns
returns c = record { visible = λ logs s n tables b le is. run-shows logs s (commits_of logs s) n tables b le is }
