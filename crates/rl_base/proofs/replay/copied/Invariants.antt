use Rattle.std.proofs.Common.{◌≡◌, take}
use Rattle.rl_base.proofs.replay.copied.Given as goal

-- the copies equal what was passed
abbrev pub invariant-loop-item : goal.invariant-loop-item
invariant-loop-item l = l.copies.items ≡ take l.item-index l.items.items
