-- How many rows a table has after writes, as far as a look at its rows before them tells.
use Rattle.std.specs.Prelude.{ℕ, ◌+◌, List, [], ◌∷◌, Bool, ◌&&◌, not, ◌==◌, is_some}
use Rattle.std.specs.FinMap.Entries as entries
use Rattle.rl_value.specs.Order.{row_cmp}
use Rattle.redo_spec.specs.Tables.{Rows}
use Rattle.row_apply.specs.declared.writes.Write.{Write}
use Rattle.table_store.specs.Leads.{count_of}

-- the write is of this table, and puts a row where none is
abbrev pub is_added : ℕ → Write → Rows → Bool
is_added id w rows = (w.table == id) && (is_some w.row && not (is_some (entries.find row_cmp w.key rows)))

-- it is of this table, and takes a row away
abbrev pub is_removed : ℕ → Write → Rows → Bool
is_removed id w rows = (w.table == id) && (not (is_some w.row) && is_some (entries.find row_cmp w.key rows))

-- how many of the writes do so
abbrev pub added_in : ℕ → List Write → Rows → ℕ
added_in id [] rows = 0
added_in id (w ∷ ws) rows = count_of (is_added id w rows) + added_in id ws rows

abbrev pub removed_in : ℕ → List Write → Rows → ℕ
removed_in id [] rows = 0
removed_in id (w ∷ ws) rows = count_of (is_removed id w rows) + removed_in id ws rows
