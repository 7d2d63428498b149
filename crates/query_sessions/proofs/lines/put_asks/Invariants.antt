use Rattle.std.proofs.Common.{◌≡◌, ◌++◌, take}
use Rattle.query_sessions.specs.AnswerLines.{lines_of_asks}
use Rattle.query_sessions.proofs.lines.put_asks.Given as goal

-- the lines of those so far
abbrev pub invariant-loop-waiting : goal.invariant-loop-waiting
invariant-loop-waiting l = l.lines ≡ l.fn.lines ++ lines_of_asks (take l.waiting-index l.asks)
