use Rattle.std.proofs.Common.{◌≡◌, take}
use Rattle.redo_law.proofs.survivors.copied_keys.Given as goal

-- the copies equal what was passed
abbrev pub invariant-loop-key : goal.invariant-loop-key
invariant-loop-key l = l.copies.items ≡ take l.key-index l.keys.items
