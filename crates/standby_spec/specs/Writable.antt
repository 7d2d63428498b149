-- Which writes may be put in place of the rows of tables: the condition under which tables stay a map with one owner for each
-- unique value. The writes are judged together, by the rows that they leave: two rows may change their unique values with each
-- other. This project's own.
use Rattle.std.specs.Prelude.{List, Bool, true, false, not, ◌&&◌, Option, Some, None, is_some}
use Rattle.std.specs.List.{list_all, enumerate_from}
use Rattle.std.specs.Ordering.{eq_by_cmp}
use Rattle.std.specs.FinMap.Entries as entries
use Rattle.rl_value.specs.declared.value.Value.{Value}
use Rattle.rl_value.specs.Order.{row_cmp}
use Rattle.redo_vec.specs.declared.table.TableRow.{TableRow}
use Rattle.redo_spec.specs.Dictionary.{table_of, uniques_of}
use Rattle.redo_spec.specs.ChangeForm.{is_row_of}
use Rattle.redo_spec.specs.Tables.{Rows, Tables, primary_key, definitions_of}
use Rattle.redo_spec.specs.Effect.{taken_by}
use Rattle.redo_spec.specs.Work.{rows_of, write_row}
use Rattle.row_apply.specs.declared.writes.Write.{Write}
use Rattle.row_apply.specs.Overlaid.{overlaid}

-- no other row has one of the row's unique values
abbrev pub is_alone : TableRow → Rows → List Value × List Value → Bool
is_alone t rows (key, row) = not (is_some (taken_by t (write_row rows key None) row (enumerate_from 1 (uniques_of t))))

-- the row that is left under a key has its unique values alone, if one is left there
abbrev pub is_alone_at : TableRow → Rows → List Value → Option (List Value) → Bool
is_alone_at t rows key None = true
is_alone_at t rows key (Some row) = is_alone t rows (key, row)

abbrev pub is_left_alone : Option TableRow → Rows → List Value → Bool
is_left_alone None rows key = true
is_left_alone (Some t) rows key = is_alone_at t rows key (entries.find row_cmp key rows)

-- a row that is written fits its table and stands under its own primary key
abbrev pub row_fits : Option TableRow → List Value → Option (List Value) → Bool
row_fits None key row = false
row_fits (Some t) key None = true
row_fits (Some t) key (Some row) = is_row_of t.columns row && eq_by_cmp row_cmp (primary_key t row) key

-- each row that is written fits its table
abbrev pub rows_fit : Tables → List Write → Bool
rows_fit tables writes = list_all (λ w. row_fits (table_of (definitions_of tables) w.table) w.key w.row) writes

-- among the rows that are left then the written ones have their unique values alone
abbrev pub are_left_alone : Tables → List Write → Bool
are_left_alone tables writes =
    list_all (λ w. is_left_alone (table_of (definitions_of tables) w.table) (rows_of (overlaid tables writes) w.table) w.key)
    writes

-- The writes may be put in place of the rows of these tables: each is of one of them, each row fits, and among the rows that are
-- left then the written ones have their unique values alone. Over sound tables no other row needs the test.
abbrev pub can_be_written : Tables → List Write → Bool
can_be_written tables writes = rows_fit tables writes && are_left_alone tables writes
