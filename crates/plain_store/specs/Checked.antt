-- The test whether rows are sound tables of a dictionary: each table's rows rise by their keys, and each row fits its table,
-- stands under its own primary key, and has each of its unique values alone. The index has been filled with all of the rows
-- before, and leads from a value to one row.
use Rattle.std.specs.Prelude.{ℕ, ◌+◌, List, [], ◌∷◌, Bool, true, ◌&&◌, Option, Some, None}
use Rattle.std.specs.FinMap.Entries as entries
use Rattle.std.specs.List.{list_all}
use Rattle.std.specs.Ordering.{eq_by_cmp}
use Rattle.rl_value.specs.declared.value.Value.{Value}
use Rattle.rl_value.specs.declared.key.Key.{Key}
use Rattle.rl_value.specs.Order.{row_cmp}
use Rattle.redo_vec.specs.declared.table.TableRow.{TableRow}
use Rattle.redo_spec.specs.ChangeForm.{is_row_of}
use Rattle.redo_spec.specs.Dictionary.{uniques_of}
use Rattle.redo_spec.specs.Tables.{Rows, RowsById, rows_by, primary_key}
use Rattle.plain_store.specs.Unique.{lead_of, is_lead, unique_at}
use Rattle.plain_store.specs.declared.unique_index.UniqueIndex.{UniqueIndex}

-- the unique value leads to this primary key, if there is one
abbrev pub value_leads : UniqueIndex → List Value → Option Key → Bool
value_leads index key None = true
value_leads index key (Some q) = is_lead key (lead_of index q)

-- each unique value of the row leads to it; its unique keys count from this number
abbrev pub leads_from : UniqueIndex → ℕ → ℕ → List (List ℕ) → List Value → List Value → Bool
leads_from index table number [] key row = true
leads_from index table number (columns ∷ more) key row =
    value_leads index key (unique_at table number columns row) && leads_from index table (number + 1) more key row

-- the row fits the table, stands under its own primary key, and has its unique values alone
abbrev pub row_holds : TableRow → UniqueIndex → List Value × List Value → Bool
row_holds t index (key, row) =
    is_row_of t.columns row && (eq_by_cmp row_cmp (primary_key t row) key && leads_from index t.id 1 (uniques_of t) key row)

-- the table's rows rise, and each of them does
abbrev pub rows_hold : TableRow → UniqueIndex → Rows → Bool
rows_hold t index rows = entries.is_sorted row_cmp rows && list_all (row_holds t index) rows

-- those of each of these tables do
abbrev pub tables_hold : List TableRow → RowsById → UniqueIndex → Bool
tables_hold [] by index = true
tables_hold (t ∷ ts) by index = rows_hold t index (rows_by by t.id) && tables_hold ts by index
