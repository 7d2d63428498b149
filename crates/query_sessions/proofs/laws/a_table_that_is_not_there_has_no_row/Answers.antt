use Rattle.query_sessions.proofs.Answering.{none_matches}
use Rattle.query_sessions.proofs.laws.a_table_that_is_not_there_has_no_row.Goals as goal

pub returns : goal.returns
returns c = record { none = none_matches }
