use Rattle.std.proofs.Common.{◌≡◌, length, map}
use Rattle.lcr.specs.Chunks.{placed, are_of_xid}
use Rattle.lcr.proofs.chunk_form.are_of_xid.Given as goal

-- what is left decides
abbrev pub invariant-loop-rest : goal.invariant-loop-rest
invariant-loop-rest l = are_of_xid l.xid (map placed l.rest) ≡ are_of_xid l.xid (map placed l.items)

abbrev pub decreases-loop-rest : goal.decreases-loop-rest
decreases-loop-rest l = length l.rest
