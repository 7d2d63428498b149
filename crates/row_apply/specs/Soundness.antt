-- Sound tables: what holds of tables that a redo's changes have filled.
-- Rows rise by their primary keys, each row stands under its own key and fits its table, and a unique value without Null
-- has one owner. A change leaves sound tables sound.
use Rattle.std.specs.Prelude.{◌≡◌, ℕ, List, false, Some, slice_get, IsTrue}
use Rattle.std.specs.List.{list_any, AllByRecursion}
use Rattle.std.specs.FinMap.Entries as entries
use Rattle.rl_value.specs.declared.value.Value.{Value}
use Rattle.rl_value.specs.Order.{row_cmp}
use Rattle.redo_vec.specs.declared.table.TableRow.{TableRow}
use Rattle.redo_spec.specs.Dictionary.{uniques_of}
use Rattle.redo_spec.specs.ChangeForm.{is_row_of}
use Rattle.redo_spec.specs.ConflictKeys.{is_null}
use Rattle.redo_spec.specs.Tables.{Rows, Tables, values_at, primary_key}

-- each row stands under its own primary key
abbrev pub AreKeyed : TableRow → Rows → Type 0
AreKeyed t rows = (key row : List Value) → entries.find row_cmp key rows ≡ Some row → primary_key t row ≡ key

-- each row has as many values as its table has columns, each of its column
abbrev pub AllFitTable : TableRow → Rows → Type 0
AllFitTable t rows = (key row : List Value) → entries.find row_cmp key rows ≡ Some row → IsTrue (is_row_of t.columns row)

-- two rows that have one value without Null in these columns are one row
abbrev pub HaveOneOwner : List ℕ → Rows → Type 0
HaveOneOwner columns rows = (key other row like : List Value) → entries.find row_cmp key rows ≡ Some row →
    entries.find row_cmp other rows ≡ Some like →
    list_any is_null (values_at row columns) ≡ false → values_at row columns ≡ values_at like columns → key ≡ other

-- the rows of a sound table
pub record AreSoundRows (t : TableRow) (rows : Rows) : Type 0 where
  pub rising : IsTrue (entries.is_sorted row_cmp rows)
  pub keyed : AreKeyed t rows
  pub fit : AllFitTable t rows
  pub single : (index : ℕ) (columns : List ℕ) → slice_get (uniques_of t) index ≡ Some columns → HaveOneOwner columns rows

-- each table's rows are
abbrev pub AreSound : Tables → Type 0
AreSound tables = AllByRecursion (λ t. AreSoundRows t.row t.rows) tables
