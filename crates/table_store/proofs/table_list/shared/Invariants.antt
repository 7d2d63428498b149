use Rattle.std.proofs.Common.{◌≡◌, take}
use Rattle.table_store.specs.Shared.{tables_in}
use Rattle.table_store.proofs.table_list.shared.Given as goal

-- those so far
abbrev pub invariant-loop-shared : goal.invariant-loop-shared
invariant-loop-shared l = tables_in l.copies.items ≡ tables_in (take l.shared-index l.tables)
