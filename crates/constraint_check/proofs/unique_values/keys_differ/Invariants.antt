use Rattle.std.proofs.Common.{◌≡◌, []}
use Rattle.std.specs.Vec.Iter.{into_iter_items}
use Rattle.constraint_check.specs.LookUps.{keys_differ}
use Rattle.constraint_check.proofs.unique_values.keys_differ.Given as goal

-- all differ where those that are left do, and from those that were seen
abbrev pub invariant-loop-key : goal.invariant-loop-key
invariant-loop-key l = keys_differ l.seen.keys (into_iter_items l.key-iterator) ≡ keys_differ [] l.fn.keys.items
