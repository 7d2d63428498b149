use Rattle.std.proofs.Common.{◌≡◌, take}
use Rattle.eager_work.proofs.left.copied.Given as goal

-- the copies equal what was passed
abbrev pub invariant-loop-write : goal.invariant-loop-write
invariant-loop-write l = l.copies.items ≡ take l.write-index l.writes.items
