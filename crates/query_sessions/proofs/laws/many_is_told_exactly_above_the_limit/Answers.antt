use Rattle.query_sessions.specs.Answers.{matching}
use Rattle.query_sessions.proofs.Answering.{many_told}
use Rattle.query_sessions.proofs.laws.many_is_told_exactly_above_the_limit.Goals as goal

pub returns : goal.returns
returns c = record { many = λ tables query most. many_told query.form most (matching query.form tables query.table) }
