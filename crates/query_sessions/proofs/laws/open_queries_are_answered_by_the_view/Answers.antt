use Rattle.query_sessions.proofs.Opening.{open_lines}
use Rattle.query_sessions.proofs.laws.open_queries_are_answered_by_the_view.Goals as goal

pub returns : goal.returns
returns c = record { lines = open_lines }
