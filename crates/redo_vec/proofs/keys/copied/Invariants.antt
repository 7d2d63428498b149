use Rattle.std.proofs.Common.{◌≡◌, take}
use Rattle.redo_vec.proofs.keys.copied.Given as goal

-- the copies equal what was passed
abbrev pub invariant-loop-columns : goal.invariant-loop-columns
invariant-loop-columns l = l.copies.items ≡ take l.columns-index l.items.items
