-- What a change finds: rows, and the dictionary by which they are tables.
use Rattle.redo_spec.specs.Dictionary.{Dictionary}
use Rattle.redo_spec.specs.Tables.{RowsById}

pub record Beneath : Type 0 where
  pub dictionary : Dictionary
  pub rows : RowsById
