-- The row that a pair says, as the write that puts it: none where the pair is not in the layout behind those before it.
-- That it is what reading the pair gives (`standby_spec`, Loading) is proved; this form asks the rows of the table alone.
use Rattle.std.specs.Prelude.{ℕ, List, Bool, not, ◌&&◌, nat_lt, if◌then◌else◌, Option, Some, None, is_some}
use Rattle.std.specs.List.{enumerate_from}
use Rattle.std.specs.Ordering.{eq_by_cmp}
use Rattle.std.specs.FinMap.Entries as entries
use Rattle.rl_value.specs.declared.value.Value.{Value}
use Rattle.rl_value.specs.Order.{row_cmp}
use Rattle.redo_vec.specs.declared.table.TableRow.{TableRow}
use Rattle.redo_spec.specs.ChangeForm.{is_row_of}
use Rattle.redo_spec.specs.Dictionary.{table_of, uniques_of}
use Rattle.redo_spec.specs.Effect.{taken_by}
use Rattle.redo_spec.specs.Fold.{live_row_limit}
use Rattle.redo_spec.specs.Tables.{Rows, Tables, definitions_of, primary_key, row_count}
use Rattle.redo_spec.specs.Work.{rows_of}
use Rattle.row_apply.specs.declared.writes.Write.{Write}
use Rattle.standby_spec.specs.Loading.{KeyValue, when_true}
use Rattle.kept_layout.specs.Pairs.{row_of_bytes, place_of_key}

-- the row fits its table and stands under its own primary key
abbrev pub is_keyed_row : TableRow → List Value → List Value → Bool
is_keyed_row t key row = is_row_of t.columns row && eq_by_cmp row_cmp (primary_key t row) key

-- a row has this key, or another one a unique value of the row
abbrev pub is_there : Rows → List Value → Bool
is_there rows key = is_some (entries.find row_cmp key rows)

abbrev pub is_taken : TableRow → Rows → List Value → Bool
is_taken t rows row = is_some (taken_by t rows row (enumerate_from 1 (uniques_of t)))

-- the row may come to the others
abbrev pub may_come : TableRow → Rows → List Value → List Value → Bool
may_come t rows key row = is_keyed_row t key row && not (is_there rows key) && not (is_taken t rows row)

abbrev pub row_put : ℕ → List Value → List Value → Write
row_put id key row = record { table = id; key = key; row = Some row }

-- the write of a row of the table of this id, which is defined so, if it is there
abbrev pub write_to : Option TableRow → Tables → ℕ → List Value → List Value → Option Write
write_to None ts id key row = None
write_to (Some t) ts id key row = when_true (may_come t (rows_of ts id) key row) (row_put id key row)

-- that of a row at this place
abbrev pub write_at : Tables → Option (ℕ × List Value) → Option (List Value) → Option Write
write_at ts None row = None
write_at ts (Some place) None = None
write_at ts (Some place) (Some row) = write_to (table_of (definitions_of ts) place.0) ts place.0 place.1 row

-- that of a pair, where there is room for one row more
abbrev pub write_of_pair : Tables → KeyValue → Option Write
write_of_pair ts (key, value) =
    if nat_lt (row_count ts) live_row_limit then write_at ts (place_of_key key) (row_of_bytes value) else None
