-- Work: what an applier makes of a transaction's changes ahead of its commit.
-- Work takes kept changes alone: a change that a skip rule passes over is left out before. Each change was done at some
-- count, and finds the tables of that count with the rows in place that the earlier done changes wrote. Work is private to
-- its transaction until the commit is published. This project's own. No contract cites `work` and the writes so far; the
-- rows of a table, the row at a key and the writing of one row are cited.
use Rattle.std.specs.Prelude.{ℕ, List, [], ◌∷◌, ◌++◌, map, filter, not, ◌==◌, if◌then◌else◌, Option, Some, None, Result, Ok}
use Rattle.std.specs.Ordering.{eq_by_cmp}
use Rattle.std.specs.FinMap.Entries as entries
use Rattle.rl_value.specs.declared.value.Value.{Value}
use Rattle.rl_value.specs.declared.key.Key.{Key}
use Rattle.rl_value.specs.Order.{row_cmp}
use Rattle.rl_value.specs.Outcome.{◌>>=◌, map_err}
use Rattle.redo_vec.specs.declared.table.TableRow.{TableRow}
use Rattle.redo_spec.specs.ConflictKeys.{conflict_keys}
use Rattle.redo_spec.specs.Tables.{Rows, Table, Tables}
use Rattle.redo_spec.specs.Effect.{effect}
use Rattle.redo_spec.specs.History.{Placed}
use Rattle.redo_spec.specs.Fold.{Missed}

-- a row key, and the row that stands there or its absence
abbrev pub Written : Type 0
Written = Key × Option (List Value)

-- the rows of the table of this id
abbrev pub rows_of : Tables → ℕ → Rows
rows_of [] id = []
rows_of (t ∷ ts) id = if t.row.id == id then t.rows else rows_of ts id

-- the row at a primary key
abbrev pub row_at : Tables → Key → Option (List Value)
row_at tables k = entries.find row_cmp k.values (rows_of tables k.table)

-- what stands at the row keys that a change touches
abbrev pub writes_of : List Key → Tables → List Written
writes_of keys tables = map (λ k. (k, row_at tables k)) (filter (λ k. k.index == 0) keys)

-- the rows with this one under its key, or with none there
abbrev pub write_row : Rows → List Value → Option (List Value) → Rows
write_row rows key None = entries.where_key row_cmp (λ k. not (eq_by_cmp row_cmp key k)) rows
write_row rows key (Some row) = entries.put row_cmp key row rows

-- a table with what was written to it in place
abbrev pub put_in_table : Written → Table → Table
put_in_table (k, row) t = if t.row.id == k.table then record t { rows = write_row t.rows k.values row } else t

-- the tables with what was written in place
abbrev pub put_written : Written → Tables → Tables
put_written w tables = map (put_in_table w) tables

-- the tables with the rows in place that were written, in order
abbrev pub with_written : List Written → Tables → Tables
with_written [] tables = tables
with_written (w ∷ ws) tables = with_written ws (put_written w tables)

-- a done kept change, and the count at which it was done
abbrev pub Done : Type 0
Done = Placed × ℕ

-- What kept changes that were done at these counts have written, or the first miss, where `at` gives the tables of a count:
-- each change finds the tables of its count with what the changes before it wrote.
abbrev pub work : (ℕ → Result Tables Missed) → List TableRow → List Written → List Done → Result (List Written) Missed
work at tables written [] = Ok written
work at tables written (((pos, c), n) ∷ more) =
    at n
    >>= λ base. map_err (λ miss. record { pos = pos; table = c.table; miss = miss }) (effect (with_written written base) c)
    >>= λ after. work at tables (written ++ writes_of (conflict_keys tables c) after) more
