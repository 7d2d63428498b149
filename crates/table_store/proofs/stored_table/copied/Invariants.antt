use Rattle.std.proofs.Common.{◌≡◌, take}
use Rattle.table_store.proofs.stored_table.copied.Given as goal

-- those so far
abbrev pub invariant-loop-index : goal.invariant-loop-index
invariant-loop-index l = l.copies.items ≡ take l.index-index l.indexes
