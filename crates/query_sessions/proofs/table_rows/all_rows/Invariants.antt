use Rattle.std.proofs.Common.{◌≡◌, ◌++◌}
use Rattle.query_sessions.specs.Answers.{rows_in}
use Rattle.query_sessions.proofs.table_rows.all_rows.Given as goal

-- those that are copied, and those that are left
abbrev pub invariant-loop-row : goal.invariant-loop-row
invariant-loop-row l = l.rows.items ++ l.row-iterator ≡ rows_in l.tables.tables l.table
