-- Written rows in place of those beneath: the tables after a list of writes, each of which puts a row in the place of the
-- one with its primary key, or takes that one away. This project's own.
use Rattle.std.specs.Prelude.{◌≡◌, ℕ, List, [], ◌∷◌, Bool, false, map, ◌==◌, if◌then◌else◌, Option, Some, IsSome, is_some}
use Rattle.std.specs.List.{find, list_all, list_any, AllByRecursion}
use Rattle.std.specs.Option.{option_map}
use Rattle.std.specs.Ordering.{is_eq}
use Rattle.rl_value.specs.declared.value.Value.{Value}
use Rattle.rl_value.specs.declared.key.Key.{Key}
use Rattle.rl_value.specs.Order.{key_cmp, keys_rise}
use Rattle.redo_vec.specs.declared.table.TableRow.{TableRow}
use Rattle.redo_spec.specs.Dictionary.{table_of}
use Rattle.redo_spec.specs.Tables.{Rows, Table, Tables}
use Rattle.redo_spec.specs.Work.{row_at, write_row}
use Rattle.row_apply.specs.declared.writes.Write.{Write}

-- the rows of a table after those of the writes that are of it, one after the other
abbrev pub rows_after : ℕ → List Write → Rows → Rows
rows_after id [] rows = rows
rows_after id (w ∷ ws) rows = rows_after id ws (if w.table == id then write_row rows w.key w.row else rows)

-- the table with the written rows in place of its own
abbrev pub table_after : List Write → Table → Table
table_after ws t = record t { rows = rows_after t.row.id ws t.rows }

-- the tables with the written rows in place of theirs
abbrev pub overlaid : Tables → List Write → Tables
overlaid tables ws = map (table_after ws) tables

-- the primary key that a write is of
abbrev pub written_key : Write → Key
written_key w = record { table = w.table; index = 0; values = w.key }

-- one write for each row key, in rising order of table and key
abbrev pub writes_rise : List Write → Bool
writes_rise ws = keys_rise (map written_key ws)

-- each write is of one of these tables
abbrev pub are_of : List TableRow → List Write → Bool
are_of tables ws = list_all (λ w. is_some (table_of tables w.table)) ws

-- what was left under a row key: the row, or that it is gone; None where nothing was written
abbrev pub written_at : List Write → Key → Option (Option (List Value))
written_at ws q = option_map (λ w. w.row) (find (λ w. is_eq (key_cmp (written_key w) q)) ws)

-- what was written under other keys than these is as it was
abbrev pub WritesOnly : List Key → List Write → List Write → Type 0
WritesOnly keys old new = (q : Key) → list_any (λ k. is_eq (key_cmp k q)) keys ≡ false → written_at new q ≡ written_at old q

-- each row key that was written still is
abbrev pub WritesStay : List Write → List Write → Type 0
WritesStay old new = (q : Key) → IsSome (written_at old q) → IsSome (written_at new q)

-- each row key among these was written: there stands what the tables have there, the row or that it is gone
abbrev pub WritesAll : List Key → Tables → List Write → Type 0
WritesAll keys tables ws = AllByRecursion (λ k. k.index ≡ 0 → written_at ws k ≡ Some (row_at tables k)) keys
