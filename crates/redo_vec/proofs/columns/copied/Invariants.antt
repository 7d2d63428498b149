use Rattle.std.proofs.Common.{◌≡◌, take}
use Rattle.redo_vec.proofs.columns.copied.Given as goal

-- the copies equal what was passed
abbrev pub invariant-loop-column : goal.invariant-loop-column
invariant-loop-column l = l.copies.items ≡ take l.column-index l.items.items
