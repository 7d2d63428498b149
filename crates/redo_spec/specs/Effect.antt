-- The effect of a change on the rows that it finds: the tables after it, or its miss, a conflict.
-- Rows come and go: an INSERT adds a row, a DELETE takes one away, an UPDATE takes the old row away and adds the new one.
-- A row is not added where its primary key is there (Exists), and then where another row has one of its unique values
-- (Taken, at the least unique key). A row is not taken away where it is absent (Absent), and then where it is not as it
-- was logged (Differs, at the least column). So an update's own row is never in its own way. After Data Guard, where a
-- row that is not found or not as logged stops SQL Apply; the order of causes is this project's own.
use Rattle.std.specs.Prelude.{ℕ, List, [], ◌∷◌, map, not, if◌then◌else◌, ◌==◌, Option, Some, None, Result, Ok, unwrap_or}
use Rattle.std.specs.Option.{option_map, option_or}
use Rattle.std.specs.List.{list_any, filter_map, enumerate_from}
use Rattle.std.specs.Ordering.{eq_by_cmp}
use Rattle.std.specs.FinMap.Entries as entries
use Rattle.rl_value.specs.declared.value.Value.{Value}
use Rattle.rl_value.specs.declared.miss.Miss.{Miss}
use Rattle.rl_value.specs.declared.miss.Miss.TheVariants.{Absent, Differs, Exists, Taken}
use Rattle.rl_value.specs.Order.{value_eq, row_cmp}
use Rattle.rl_value.specs.Outcome.{◌>>=◌, refused_by, or_err}
use Rattle.redo_vec.specs.declared.change.Change.{Change}
use Rattle.redo_vec.specs.declared.change.Op.{Op}
use Rattle.redo_vec.specs.declared.change.Op.TheVariants.{Insert, Update, Delete}
use Rattle.redo_vec.specs.declared.table.TableRow.{TableRow}
use Rattle.redo_spec.specs.Dictionary.{primary_of, uniques_of, column_numbers}
use Rattle.redo_spec.specs.ConflictKeys.{cell_of, is_null}
use Rattle.redo_spec.specs.Tables.{Rows, Table, Tables, value_in, values_at, primary_key, named, owner_in}

-- another row has this unique value, unless there is a Null in it
abbrev pub taken_at : TableRow → Rows → ℕ → List ℕ → List Value → Option Miss
taken_at t rows index columns values =
    if list_any is_null values then None else option_map (λ owner. Taken index (named t owner)) (owner_in rows columns values)

-- the first unique key at which another row has the row's value
abbrev pub taken_by : TableRow → Rows → List Value → List (ℕ × List ℕ) → Option Miss
taken_by t rows row [] = None
taken_by t rows row ((index, columns) ∷ more) = option_or (taken_at t rows index columns (values_at row columns))
    (taken_by t rows row more)

-- a row has this primary key
abbrev pub exists_at : Table → List Value → Option Miss
exists_at t k = option_map (λ row. Exists (named t.row k)) (entries.find row_cmp k t.rows)

-- a row comes to the others, unless one has its primary key or owns one of its unique values
abbrev pub add_row : Table → List Value → Result Table Miss
add_row t row =
    let k = primary_key t.row row in
    refused_by
    (option_or (exists_at t k) (taken_by t.row t.rows row (enumerate_from 1 (uniques_of t.row))))
    (record t { rows = entries.put row_cmp k row t.rows })

-- the least column at which the row is not what was logged
abbrev pub difference : List Value → List (ℕ × Value) → Option Miss
difference row [] = None
difference row ((column, logged) ∷ cells) =
    let found = value_in row column in
    if value_eq logged found then difference row cells else Some (Differs column logged found)

-- the row of this key leaves the others, if it is there as it was logged
abbrev pub take_row : Table → List Value → List (ℕ × Value) → Result (List Value × Table) Miss
take_row t k logged =
    or_err (entries.find row_cmp k t.rows) (Absent (named t.row k))
    >>= λ row. refused_by (difference row logged) (
      row,
      record t
          { rows = entries.where_key row_cmp (λ x. not (eq_by_cmp row_cmp k x)) t.rows },
    )

-- the row with these cells put in
abbrev pub with_cells : TableRow → List Value → List (ℕ × Value) → List Value
with_cells t row cells = map (λ column. unwrap_or (cell_of cells column) (value_in row column)) (column_numbers t)

-- the values of the cells
abbrev pub cell_values : List (ℕ × Value) → List Value
cell_values cells = map (λ cell. cell.1) cells

-- the key that the old cells name
abbrev pub logged_key : TableRow → List (ℕ × Value) → List Value
logged_key t cells = filter_map (cell_of cells) (primary_of t)

-- the effect on one table
abbrev pub effect_on : Table → Op → List (ℕ × Value) → List (ℕ × Value) → Result Table Miss
effect_on t Insert old new = add_row t (cell_values new)
effect_on t Update old new = take_row t (logged_key t.row old) old >>= λ taken. add_row taken.1 (with_cells t.row taken.0 new)
effect_on t Delete old new = take_row t (logged_key t.row old) old >>= λ taken. Ok taken.1

-- The tables after the change, or its miss. A change of a table that is not here changes nothing.
abbrev pub effect : Tables → Change → Result Tables Miss
effect [] c = Ok []
effect (t ∷ ts) c =
    if t.row.id == c.table then (effect_on t c.op c.old c.new >>= λ changed. Ok (changed ∷ ts))
    else (effect ts c >>= λ others. Ok (t ∷ others))
