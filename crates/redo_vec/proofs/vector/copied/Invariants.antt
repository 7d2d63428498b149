use Rattle.std.proofs.Common.{◌≡◌, take}
use Rattle.redo_vec.proofs.vector.copied.Given as goal

-- the copies equal what was passed
abbrev pub invariant-loop-vector : goal.invariant-loop-vector
invariant-loop-vector l = l.copies.items ≡ take l.vector-index l.items.items
