use Rattle.std.proofs.Common.{◌≡◌, ◌++◌}
use Rattle.publisher.specs.MergedRows.{items_in}
use Rattle.publisher.proofs.merged.Merged.into_items.Given as goal

-- with those that are left the items are all
abbrev pub invariant-loop-key : goal.invariant-loop-key
invariant-loop-key l = l.list.items ++ items_in l.key-iterator ≡ items_in l.fn.self.items.entries
