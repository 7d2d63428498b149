-- Tables with their rows, and the keys of a row.
-- A table's rows rise by their primary keys; tables rise by id. A row is found by its primary key alone, and a unique
-- value belongs to the row that holds it; a unique key with a Null in it is not enforced.
use Rattle.std.specs.Prelude.{ℕ, List, [], ◌∷◌, length, map, ◌==◌, if◌then◌else◌, Option, slice_get, sum_by, unwrap_or}
use Rattle.std.specs.Option.{option_map}
use Rattle.std.specs.List.{find}
use Rattle.std.specs.Ordering.{eq_by_cmp}
use Rattle.rl_value.specs.declared.value.Value.{Value}
use Rattle.rl_value.specs.declared.value.Value.TheVariants.{Null}
use Rattle.rl_value.specs.declared.key.Key.{Key}
use Rattle.rl_value.specs.Order.{row_cmp}
use Rattle.redo_vec.specs.declared.table.TableRow.{TableRow}
use Rattle.redo_spec.specs.Dictionary.{primary_of}

-- rows by their primary keys, which rise
abbrev pub Rows : Type 0
Rows = List (List Value × List Value)

-- a table: how it is defined, and its rows
pub record Table : Type 0 where
  pub row : TableRow
  pub rows : Rows

-- tables in order of id
abbrev pub Tables : Type 0
Tables = List Table

-- how the tables are defined
abbrev pub definitions_of : Tables → List TableRow
definitions_of tables = map (λ t. t.row) tables

-- the rows of tables by their ids
abbrev pub RowsById : Type 0
RowsById = List (ℕ × Rows)

-- the rows of the table of this id, if there are any
abbrev pub rows_by : RowsById → ℕ → Rows
rows_by [] id = []
rows_by ((i, rows) ∷ more) id = if i == id then rows else rows_by more id

-- the tables of a dictionary with these rows
abbrev pub assembled : List TableRow → RowsById → Tables
assembled rows by = map (λ row. record { row = row; rows = rows_by by row.id }) rows

-- the tables of a dictionary without rows
abbrev pub empty_tables : List TableRow → Tables
empty_tables rows = assembled rows []

-- how many rows the tables have together
abbrev pub row_count : Tables → ℕ
row_count tables = sum_by (λ t. length t.rows) tables

-- ---- the keys of a row

-- the value at a column; a row that lacks the last columns of its table holds Null there
abbrev pub value_in : List Value → ℕ → Value
value_in row column = unwrap_or (slice_get row column) Null

-- the values at these columns
abbrev pub values_at : List Value → List ℕ → List Value
values_at row columns = map (value_in row) columns

-- the row's primary key
abbrev pub primary_key : TableRow → List Value → List Value
primary_key t row = values_at row (primary_of t)

-- the primary key as a key of the table
abbrev pub named : TableRow → List Value → Key
named t values = record { table = t.id; index = 0; values = values }

-- the primary key of the row that has this unique value
abbrev pub owner_in : Rows → List ℕ → List Value → Option (List Value)
owner_in rows columns values = option_map (λ r. r.0) (find (λ r. eq_by_cmp row_cmp (values_at r.1 columns) values) rows)
