use Rattle.std.specs.FinMap.Entries as entries
use Rattle.rl_value.specs.Order.{row_cmp}
use Rattle.redo_spec.specs.Work.{rows_of}
use Rattle.query_sessions.proofs.Answering.{one_at_most}
use Rattle.query_sessions.proofs.laws.a_key_finds_one_row_at_most.Goals as goal

pub returns : goal.returns
returns c = record { one = λ tables id key. one_at_most (entries.find row_cmp key (rows_of tables id)) }
