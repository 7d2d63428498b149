use Rattle.std.proofs.Common.{◌≡◌, map, take}
use Rattle.standby_spec.specs.Writings.{write_item}
use Rattle.publisher.proofs.batches.write_items.Given as goal

-- an item for each write so far
abbrev pub invariant-loop-write : goal.invariant-loop-write
invariant-loop-write l = l.items.items ≡ map write_item (take l.write-index l.writes)
