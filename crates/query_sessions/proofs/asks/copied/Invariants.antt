use Rattle.std.proofs.Common.{◌≡◌, take}
use Rattle.query_sessions.proofs.asks.copied.Given as goal

-- the copies equal what was passed
abbrev pub invariant-loop-waiting : goal.invariant-loop-waiting
invariant-loop-waiting l = l.copies.items ≡ take l.waiting-index l.asks.items
