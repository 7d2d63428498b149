use Rattle.std.proofs.Common.{◌≡◌, take}
use Rattle.skip_guard.proofs.skips.copied.Given as goal

-- the copies equal what was passed
abbrev pub invariant-loop-entry : goal.invariant-loop-entry
invariant-loop-entry l = l.copies.items ≡ take l.entry-index l.entries.items
