use Rattle.std.proofs.Common.{◌≡◌, take}
use Rattle.redo_law.proofs.survivors.copied_changes.Given as goal

-- the copies equal what was passed
abbrev pub invariant-loop-change : goal.invariant-loop-change
invariant-loop-change l = l.copies.items ≡ take l.change-index l.changes.items
