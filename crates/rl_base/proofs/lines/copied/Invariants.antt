use Rattle.std.proofs.Common.{◌≡◌, take}
use Rattle.rl_base.proofs.lines.copied.Given as goal

-- the copies equal what was passed
abbrev pub invariant-loop-line : goal.invariant-loop-line
invariant-loop-line l = l.copies.items ≡ take l.line-index l.lines.items
