use Rattle.std.proofs.Common.{◌≡◌, take}
use Rattle.query_sessions.proofs.answer.copied.Given as goal

-- the copies equal what was passed
abbrev pub invariant-loop-row : goal.invariant-loop-row
invariant-loop-row l = l.copies.items ≡ take l.row-index l.rows.items
