use Rattle.std.proofs.Common.{◌≡◌, take}
use Rattle.lcr.proofs.chunk.copied.Given as goal

-- the copies equal what was passed
abbrev pub invariant-loop-lcr : goal.invariant-loop-lcr
invariant-loop-lcr l = l.copies.items ≡ take l.lcr-index l.items.items
