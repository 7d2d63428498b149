use Rattle.std.proofs.Common.{◌≡◌, ◌+◌, length}
use Rattle.redo_spec.specs.Tables.{row_count}
use Rattle.table_store.specs.Shared.{tables_in}
use Rattle.table_store.proofs.table_list.count_rows.Given as goal

-- what was counted, and what is left
abbrev pub invariant-loop-rest : goal.invariant-loop-rest
invariant-loop-rest l = l.count + row_count (tables_in l.rest) ≡ row_count (tables_in l.tables)

abbrev pub decreases-loop-rest : goal.decreases-loop-rest
decreases-loop-rest l = length l.rest
