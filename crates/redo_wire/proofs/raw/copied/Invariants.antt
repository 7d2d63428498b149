use Rattle.std.proofs.Common.{◌≡◌, take}
use Rattle.redo_wire.proofs.raw.copied.Given as goal

-- the copies equal what was passed
abbrev pub invariant-loop-raw : goal.invariant-loop-raw
invariant-loop-raw l = l.copies.items ≡ take l.raw-index l.items.items
