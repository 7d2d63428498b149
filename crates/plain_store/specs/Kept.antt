-- What is kept beside rows: the index of their unique values, and how many they are.
use Rattle.std.specs.Prelude.{◌≡◌, ℕ, List}
use Rattle.redo_vec.specs.declared.table.TableRow.{TableRow}
use Rattle.redo_spec.specs.Tables.{RowsById, assembled, row_count}
use Rattle.plain_store.specs.Unique.{IsIndexed}
use Rattle.plain_store.specs.declared.unique_index.UniqueIndex.{UniqueIndex}

-- the index leads to the rows of these tables, and the count is theirs
pub record AreKept (ts : List TableRow) (by : RowsById) (index : UniqueIndex) (count : ℕ) : Type 0 where
  pub indexed : IsIndexed ts by index
  pub counted : count ≡ row_count (assembled ts by)
