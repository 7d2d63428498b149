use Rattle.std.proofs.Common.{◌≡◌, take}
use Rattle.eager_work.proofs.part.copied_dids.Given as goal

-- the copies equal what was passed
abbrev pub invariant-loop-did : goal.invariant-loop-did
invariant-loop-did l = l.copies.items ≡ take l.did-index l.dids
