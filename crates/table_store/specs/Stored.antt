-- Stored tables: a dictionary, and the rows of its tables.
use Rattle.redo_spec.specs.Dictionary.{Dictionary}
use Rattle.redo_spec.specs.Tables.{Tables}

-- the tables of the dictionary, in its order
pub record TableSet : Type 0 where
  pub dictionary : Dictionary
  pub tables : Tables
