use Rattle.std.proofs.Common.{refl}
use Rattle.std.specs.Fmt.{digits}
use Rattle.workload.specs.Draws.{next_state}
use Rattle.workload.specs.Balances.{no_balances}
use Rattle.workload.specs.Accounts.{dictionary_vectors}
use Rattle.workload.specs.Pairs.{change_drawn, end_vector, balances_after, changes_drawn, ends_made, pair_made}
use Rattle.workload.specs.Workload.{workload_logs}
use Rattle.workload.proofs.worked.one_transaction_loads.Goals as goal

pub returns-clause-lines : goal.returns-clause-lines
unfolding digits next_state no_balances dictionary_vectors change_drawn end_vector balances_after changes_drawn ends_made pair_made workload_logs
returns-clause-lines c = refl

pub returns-clause-head : goal.returns-clause-head
unfolding digits next_state no_balances dictionary_vectors change_drawn end_vector balances_after changes_drawn ends_made pair_made workload_logs
returns-clause-head c = refl

pub returns-clause-given : goal.returns-clause-given
unfolding digits next_state no_balances dictionary_vectors change_drawn end_vector balances_after changes_drawn ends_made pair_made workload_logs
returns-clause-given c = refl

pub returns-clause-ends : goal.returns-clause-ends
unfolding digits next_state no_balances dictionary_vectors change_drawn end_vector balances_after changes_drawn ends_made pair_made workload_logs
returns-clause-ends c = refl
