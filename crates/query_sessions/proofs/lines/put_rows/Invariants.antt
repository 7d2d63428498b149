use Rattle.std.proofs.Common.{◌≡◌, ◌++◌, map, take}
use Rattle.query_sessions.specs.AnswerLines.{row_line}
use Rattle.query_sessions.proofs.lines.put_rows.Given as goal

-- the lines of those so far
abbrev pub invariant-loop-row : goal.invariant-loop-row
invariant-loop-row l = l.lines ≡ l.fn.lines ++ map row_line (take l.row-index l.rows)
