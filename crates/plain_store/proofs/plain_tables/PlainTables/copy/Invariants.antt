use Rattle.std.proofs.Common.{◌≡◌, ◌++◌}
use Rattle.plain_store.proofs.plain_tables.PlainTables.copy.Given as goal

-- what was copied, and what is left, are the tables
abbrev pub invariant-loop-table : goal.invariant-loop-table
invariant-loop-table l = l.tables.entries ++ l.table-iterator ≡ l.self-inside.tables.entries
