use Rattle.std.proofs.Common.{◌≡◌, [], take, map}
use Rattle.table_store.proofs.stored_table.no_indexes.Given as goal

-- those so far
abbrev pub invariant-loop-columns : goal.invariant-loop-columns
invariant-loop-columns l = l.indexes.items ≡ map (λ _. []) (take l._columns-index l.keys)
