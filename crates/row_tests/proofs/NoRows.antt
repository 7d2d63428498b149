-- What tables without rows show, and the definitions of tables that are assembled: laws of `row_apply` and `plain_store`, under
-- the names that the tests use.
use Rattle.std.proofs.Common.{◌≡◌, List, [], ◌∷◌, None}
use Rattle.rl_value.specs.declared.key.Key.{Key}
use Rattle.redo_vec.specs.declared.table.TableRow.{TableRow}
use Rattle.redo_spec.specs.Tables.{RowsById, assembled, definitions_of, empty_tables}
use Rattle.redo_spec.specs.Work.{row_at}
use Rattle.row_apply.specs.Found.{owner_of}
use Rattle.row_apply.proofs.Sound as sound
use Rattle.plain_store.proofs.TableLaws as tables

pub nothing_found : (t : TableRow) (key : Key) → row_at (empty_tables (t ∷ [])) key ≡ None
nothing_found = sound.nothing_found

pub nobody_owns : (t : TableRow) (key : Key) → owner_of (empty_tables (t ∷ [])) key ≡ None
nobody_owns = sound.nobody_owns

pub definitions_assembled : (ts : List TableRow) (by : RowsById) → definitions_of (assembled ts by) ≡ ts
definitions_assembled = tables.definitions_assembled
