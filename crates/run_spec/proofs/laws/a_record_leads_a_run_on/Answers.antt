use Rattle.standby_spec.specs.StandbyRedo.{redo_entries}
use Rattle.run_spec.proofs.OneMore.{more-there, run-more-well, run-more-standing, run-goes-on, front-scn, front-commit-scn, front-count}
use Rattle.run_spec.proofs.laws.a_record_leads_a_run_on.Goals as goal

pub returns-clause-there : goal.returns-clause-there
returns-clause-there c logs s k e more next = more-there k (redo_entries logs s) e more next

pub returns-clause-well : goal.returns-clause-well
returns-clause-well c logs s k e more order next well fits = run-more-well logs s k e more order next well fits

pub returns-clause-standing : goal.returns-clause-standing
returns-clause-standing c logs s k e more order next well fits = run-more-standing logs s k e more order next well fits

pub returns-clause-progress : goal.returns-clause-progress
returns-clause-progress c logs s k e more order next = run-goes-on logs s k e more order next

pub returns-clause-scn : goal.returns-clause-scn
returns-clause-scn c logs s k h r more next well after = front-scn logs s k h r more next well after

pub returns-clause-commit_scn : goal.returns-clause-commit_scn
returns-clause-commit_scn c logs s k h r more next well after = front-commit-scn logs s k h r more next well after

pub returns-clause-count : goal.returns-clause-count
returns-clause-count c logs s k h r more next well after = front-count logs s k h r more next well after
