use Rattle.std.proofs.Common.{◌≡◌, length, map}
use Rattle.lcr.specs.Chunks.{placed, rise_behind}
use Rattle.lcr.proofs.chunk_form.rise_behind.Given as goal

-- what is left behind the last position decides
abbrev pub invariant-loop-rest : goal.invariant-loop-rest
invariant-loop-rest l = rise_behind l.last (map placed l.rest) ≡ rise_behind l.fn.at (map placed l.items)

abbrev pub decreases-loop-rest : goal.decreases-loop-rest
decreases-loop-rest l = length l.rest
