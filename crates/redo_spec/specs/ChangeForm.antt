-- Which changes the dictionary accepts: the table is known, and the cells are those that its kind wants and of their types.
-- An UPDATE logs the old values of the primary key, of each column that it sets, and of all columns of each unique key of
-- which it sets one: supplemental logging, by which the standby finds the row without a row id.
use Rattle.std.specs.Prelude.{ℕ, List, [], ◌∷◌, length, map, Bool, true, false, not, ◌&&◌, ◌||◌, nat_le, ◌==◌, Option, Some, None, slice_get, filter}
use Rattle.std.specs.List.{list_all, list_any}
use Rattle.rl_value.specs.declared.value.Value.{Value}
use Rattle.rl_value.specs.declared.value.Value.TheVariants.{Null, Number, Text, Raw}
use Rattle.rl_value.specs.declared.cause.LawFault.{LawFault}
use Rattle.rl_value.specs.declared.cause.LawFault.TheVariants as faults
use Rattle.rl_value.specs.Order.{same_bytes}
use Rattle.rl_value.specs.Outcome.{first_fault, is_empty}
use Rattle.redo_vec.specs.declared.change.Change.{Change}
use Rattle.redo_vec.specs.declared.change.Op.{Op}
use Rattle.redo_vec.specs.declared.change.Op.TheVariants.{Insert, Update, Delete}
use Rattle.redo_vec.specs.declared.columns.Kind.{Kind}
use Rattle.redo_vec.specs.declared.columns.Kind.TheVariants as kinds
use Rattle.redo_vec.specs.declared.columns.Column.{Column}
use Rattle.redo_vec.specs.declared.table.TableRow.{TableRow}
use Rattle.redo_spec.specs.Dictionary.{table_of, primary_of, uniques_of, column_numbers}

-- the column is among these
abbrev pub has_column : List ℕ → ℕ → Bool
has_column columns column = list_any (λ c. c == column) columns

-- the value is of this type, and no longer than its size
abbrev pub is_of_kind : Kind → Value → Bool
is_of_kind kinds.Number (Number z) = true
is_of_kind (kinds.Text size) (Text bytes) = nat_le (length bytes) size
is_of_kind (kinds.Raw size) (Raw bytes) = nat_le (length bytes) size
is_of_kind kind other = false

-- the value fits the column: it is Null where that may be, or of its type
abbrev pub fits : Column → Value → Bool
fits c Null = c.nullable
fits c (Number z) = is_of_kind c.kind (Number z)
fits c (Text bytes) = is_of_kind c.kind (Text bytes)
fits c (Raw bytes) = is_of_kind c.kind (Raw bytes)

abbrev pub fits_at : Option Column → Value → Bool
fits_at None v = false
fits_at (Some c) v = fits c v

-- each cell fits its column
abbrev pub cells_fit : TableRow → List (ℕ × Value) → Bool
cells_fit t cells = list_all (λ cell. fits_at (slice_get t.columns cell.0) cell.1) cells

-- the cells give a value for the column
abbrev pub has_cell : List (ℕ × Value) → ℕ → Bool
has_cell cells column = list_any (λ cell. cell.0 == column) cells

-- a cell is of a column that the table has not
abbrev pub beyond : TableRow → List (ℕ × Value) → Bool
beyond t cells = list_any (λ cell. nat_le (length t.columns) cell.0) cells

-- the cells are not those of the change's kind: an insert gives all new cells and no old one, a delete the other way
-- round, and an update gives a new cell
abbrev pub wrong_cells : TableRow → Op → List (ℕ × Value) → List (ℕ × Value) → Bool
wrong_cells t Insert old new = not (is_empty old && (length new == length t.columns))
wrong_cells t Update old new = is_empty new
wrong_cells t Delete old new = not (is_empty new && (length old == length t.columns))

-- a column is supplemental where these cells are new: it is of the primary key, or set, or of a unique key of which a
-- column is set
abbrev pub is_supplemental : TableRow → List (ℕ × Value) → ℕ → Bool
is_supplemental t new column =
    has_column (primary_of t) column || has_cell new column
    || list_any (λ key. has_column key column && list_any (has_cell new) key) (uniques_of t)

-- the columns of the cells
abbrev pub columns_of : List (ℕ × Value) → List ℕ
columns_of cells = map (λ cell. cell.0) cells

-- the old columns of an UPDATE are not exactly the supplemental ones
abbrev pub wrong_supplement : TableRow → Op → List (ℕ × Value) → List (ℕ × Value) → Bool
wrong_supplement t Insert old new = false
wrong_supplement t Update old new = not (same_bytes (columns_of old) (filter (is_supplemental t new) (column_numbers t)))
wrong_supplement t Delete old new = false

-- the first reason for which the table does not accept the change
abbrev pub change_fault_in : TableRow → Change → Option LawFault
change_fault_in t c = first_fault (
    (beyond t c.old || beyond t c.new || wrong_cells t c.op c.old c.new, faults.Columns)
    ∷ (not (cells_fit t c.old && cells_fit t c.new), faults.Types)
    ∷ (wrong_supplement t c.op c.old c.new, faults.Supplement)
    ∷ [])

abbrev pub fault_of_table : Option TableRow → Change → Option LawFault
fault_of_table None c = Some faults.NoTable
fault_of_table (Some t) c = change_fault_in t c

-- the first reason for which these tables do not accept the change
abbrev pub change_fault : List TableRow → Change → Option LawFault
change_fault tables c = fault_of_table (table_of tables c.table) c

-- as many values as columns, each of its column
abbrev pub is_row_of : List Column → List Value → Bool
is_row_of [] [] = true
is_row_of [] (v ∷ vs) = false
is_row_of (c ∷ cs) [] = false
is_row_of (c ∷ cs) (v ∷ vs) = fits c v && is_row_of cs vs
