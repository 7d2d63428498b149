use Rattle.std.proofs.Common.{◌≡◌, take}
use Rattle.rl_value.proofs.row.copied.Given as goal

-- the copies equal what was passed
abbrev pub invariant-loop-value : goal.invariant-loop-value
invariant-loop-value l = l.copies.items ≡ take l.value-index l.values.items
