-- Rows found in tables by the values of a unique key.
use Rattle.std.specs.Prelude.{ℕ, List, [], ◌∷◌, ◌==◌, if◌then◌else◌, Option, None, slice_get, unwrap_or}
use Rattle.rl_value.specs.declared.value.Value.{Value}
use Rattle.rl_value.specs.declared.key.Key.{Key}
use Rattle.redo_vec.specs.declared.table.TableRow.{TableRow}
use Rattle.redo_spec.specs.Tables.{Tables, owner_in}

-- the columns of a table's key; index 0 is the primary key
abbrev pub key_columns : TableRow → ℕ → List ℕ
key_columns t index = unwrap_or (slice_get t.keys index) []

-- the primary key of the row that has this value of a unique key
abbrev pub owner_of : Tables → Key → Option (List Value)
owner_of [] key = None
owner_of (t ∷ ts) key = if t.row.id == key.table then owner_in t.rows (key_columns t.row key.index) key.values else
    owner_of ts key
