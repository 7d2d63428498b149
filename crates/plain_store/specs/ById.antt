-- Rows by table: one more row, and one row fewer.
use Rattle.std.specs.Prelude.{ℕ, ◌+◌, List, [], ◌∷◌, Bool, cond, ◌&&◌, not, Option, Some, None, is_some}
use Rattle.std.specs.BTreeMap.{insert_entry, is_at}
use Rattle.std.specs.FinMap.Entries as entries
use Rattle.std.specs.Map.{lookup, set_value}
use Rattle.std.specs.Ordering.{nat_cmp, eq_by_cmp}
use Rattle.rl_value.specs.declared.value.Value.{Value}
use Rattle.rl_value.specs.Order.{row_cmp}
use Rattle.redo_spec.specs.Tables.{RowsById, Rows, rows_by}
use Rattle.row_apply.specs.declared.writes.Write.{Write}

-- the rows of this table, if it was ever put in
abbrev pub table_in : RowsById → ℕ → Option Rows
table_in by id = lookup (is_at (nat_cmp id)) by

abbrev pub put_beside : RowsById → ℕ → List Value → List Value → Option Rows → RowsById
put_beside by id key row None = insert_entry nat_cmp by id ((key, row) ∷ [])
put_beside by id key row (Some rows) = set_value (is_at (nat_cmp id)) by (entries.put row_cmp key row rows)

-- with this row of this table, in place of the one of its key
abbrev pub with_row : RowsById → ℕ → List Value → List Value → RowsById
with_row by id key row = put_beside by id key row (table_in by id)

abbrev pub take_from : RowsById → ℕ → List Value → Option Rows → RowsById
take_from by id key None = by
take_from by id key (Some rows) = set_value (is_at (nat_cmp id)) by
    (entries.where_key row_cmp (λ k. not (eq_by_cmp row_cmp key k)) rows)

-- without the row of this key in this table
abbrev pub without_row : RowsById → ℕ → List Value → RowsById
without_row by id key = take_from by id key (table_in by id)

-- after a write, which puts a row or takes one away
abbrev pub rows_after_write : RowsById → Write → Option (List Value) → RowsById
rows_after_write by w None = without_row by w.table w.key
rows_after_write by w (Some row) = with_row by w.table w.key row

-- after all of these
abbrev pub rows_after_writes : RowsById → List Write → RowsById
rows_after_writes by [] = by
rows_after_writes by (w ∷ ws) = rows_after_writes (rows_after_write by w w.row) ws

-- a write that puts a row where none is, and one that takes a row away
abbrev pub is_added : RowsById → Write → Bool
is_added by w = is_some w.row && not (is_some (entries.find row_cmp w.key (rows_by by w.table)))

abbrev pub is_removed : RowsById → Write → Bool
is_removed by w = not (is_some w.row) && is_some (entries.find row_cmp w.key (rows_by by w.table))

-- how many of the writes do so
abbrev pub added_count : RowsById → List Write → ℕ
added_count by [] = 0
added_count by (w ∷ ws) = cond (is_added by w) 1 0 + added_count by ws

abbrev pub removed_count : RowsById → List Write → ℕ
removed_count by [] = 0
removed_count by (w ∷ ws) = cond (is_removed by w) 1 0 + removed_count by ws
