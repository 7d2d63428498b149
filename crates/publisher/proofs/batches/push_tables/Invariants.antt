use Rattle.std.proofs.Common.{◌≡◌, ◌++◌, map, take}
use Rattle.standby_spec.specs.Layout.{table_item}
use Rattle.publisher.proofs.batches.push_tables.Given as goal

-- an item for each table so far
abbrev pub invariant-loop-table : goal.invariant-loop-table
invariant-loop-table l = l.items.items ≡ l.initial.items.items ++ map table_item (take l.table-index l.tables)
