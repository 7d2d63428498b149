use Rattle.std.proofs.Common.{◌≡◌, ◌++◌, take, map}
use Rattle.std.specs.List.{flat_map}
use Rattle.lcr.specs.Chunks.{placed}
use Rattle.lcr.specs.Spilled.{placed_bytes}
use Rattle.lcr.proofs.spilled.put_lcrs.Given as goal

-- as many are spelled as were passed
abbrev pub invariant-loop-lcr : goal.invariant-loop-lcr
invariant-loop-lcr l = l.out.items ≡ l.initial.out.items ++ flat_map placed_bytes (map placed (take l.lcr-index l.items))
