use Rattle.std.proofs.Common.{◌≡◌, take}
use Rattle.rl_value.proofs.cells.copied.Given as goal

-- the copies equal what was passed
abbrev pub invariant-loop-cell : goal.invariant-loop-cell
invariant-loop-cell l = l.copies.items ≡ take l.cell-index l.cells.items
