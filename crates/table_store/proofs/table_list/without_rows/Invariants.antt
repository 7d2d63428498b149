use Rattle.std.proofs.Common.{◌≡◌, take}
use Rattle.redo_spec.specs.Tables.{empty_tables}
use Rattle.table_store.specs.Shared.{tables_in}
use Rattle.table_store.proofs.table_list.without_rows.Given as goal

-- those so far
abbrev pub invariant-loop-definition : goal.invariant-loop-definition
invariant-loop-definition l = tables_in l.tables.items ≡ empty_tables (take l.definition-index l.definitions)
