-- A table that is there, if it has this id.
use Rattle.std.specs.Prelude.{ℕ, cond, ◌==◌, Option, Some, None}
use Rattle.redo_vec.specs.declared.table.TableRow.{TableRow}

abbrev pub if_of_id : ℕ → Option TableRow → Option TableRow
if_of_id id None = None
if_of_id id (Some t) = cond (t.id == id) (Some t) None
