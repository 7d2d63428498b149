-- The index of unique values: to which row each leads, and what a write makes of it.
-- The index leads from each unique value without Null that a row has to the row's primary key. It may also lead from a value
-- that no row has, so what it answers is looked at again.
use Rattle.std.specs.Prelude.{◌≡◌, ℕ, ◌+◌, List, [], ◌∷◌, Bool, true, false, cond, ◌&&◌, ◌||◌, if◌then◌else◌, Option, Some, None}
use Rattle.std.specs.BTreeMap as tree
use Rattle.std.specs.FinMap.Entries as entries
use Rattle.std.specs.List.{list_any}
use Rattle.std.specs.Ordering.{eq_by_cmp}
use Rattle.rl_value.specs.declared.value.Value.{Value}
use Rattle.rl_value.specs.declared.key.Key.{Key}
use Rattle.rl_value.specs.Order.{row_cmp, key_cmp}
use Rattle.redo_vec.specs.declared.table.TableRow.{TableRow}
use Rattle.redo_spec.specs.ConflictKeys.{is_null}
use Rattle.redo_spec.specs.Dictionary.{uniques_of, table_of}
use Rattle.redo_spec.specs.Tables.{Rows, RowsById, rows_by, values_at}
use Rattle.row_apply.specs.declared.writes.Write.{Write}
use Rattle.plain_store.specs.declared.unique_index.UniqueIndex.{UniqueIndex}

-- the primary key to which a unique value leads
abbrev pub lead_of : UniqueIndex → Key → Option (List Value)
lead_of index q = tree.get key_cmp index.owners q

-- the unique value of this number that a row has, unless there is a Null in it
abbrev pub unique_at : ℕ → ℕ → List ℕ → List Value → Option Key
unique_at table number columns row =
    if list_any is_null (values_at row columns) then None else Some
    (record { table = table; index = number; values = values_at row columns })

abbrev pub is_value_of : Key → Option Key → Bool
is_value_of q None = false
is_value_of q (Some k) = eq_by_cmp key_cmp k q

-- a row has this unique value; its unique keys count from this number
abbrev pub has_from : ℕ → ℕ → List (List ℕ) → List Value → Key → Bool
has_from table number [] row q = false
has_from table number (columns ∷ more) row q = is_value_of q (unique_at table number columns row) ||
    has_from table (number + 1) more row q

-- a row of the table has this unique value
abbrev pub has_unique : TableRow → List Value → Key → Bool
has_unique t row q = has_from t.id 1 (uniques_of t) row q

-- the row that stands there has it, if one does
abbrev pub slot_has_unique : TableRow → Option (List Value) → Key → Bool
slot_has_unique t None q = false
slot_has_unique t (Some row) q = has_unique t row q

-- it leads to this primary key
abbrev pub is_lead : List Value → Option (List Value) → Bool
is_lead key None = false
is_lead key (Some found) = eq_by_cmp row_cmp found key

-- where a value leads once those of this row lead to it
abbrev pub lead_with : Bool → List Value → Option (List Value) → Option (List Value)
lead_with has key lead = cond has (Some key) lead

-- where a value leads once those of this row lead to it no more
abbrev pub lead_without : Bool → List Value → Option (List Value) → Option (List Value)
lead_without has key lead = cond (has && is_lead key lead) None lead

-- where a value leads after a write of the row of this key: what stood there no longer leads there, what is written does
abbrev pub lead_after_row : TableRow → List Value → Option (List Value) → Option (List Value) → Key → Option (List Value) →
    Option (List Value)
lead_after_row t key was slot q lead = lead_with (slot_has_unique t slot q) key (lead_without (slot_has_unique t was q) key lead)

abbrev pub lead_after_row_in : Option TableRow → List Value → Option (List Value) → Option (List Value) → Key →
    Option (List Value) → Option (List Value)
lead_after_row_in None key was slot q lead = lead
lead_after_row_in (Some t) key was slot q lead = lead_after_row t key was slot q lead

-- after a write over these rows
abbrev pub lead_after_write : List TableRow → RowsById → Write → Key → Option (List Value) → Option (List Value)
lead_after_write ts by w q lead = lead_after_row_in (table_of ts w.table) w.key
    (entries.find row_cmp w.key (rows_by by w.table)) w.row q lead

-- each unique value of a row leads to it
abbrev pub LeadsToRows : TableRow → Rows → UniqueIndex → Type 0
LeadsToRows t rows index = (key row : List Value) (q : Key) → entries.find row_cmp key rows ≡ Some row →
    has_unique t row q ≡ true → lead_of index q ≡ Some key

-- each unique value of a row of the dictionary's tables does
abbrev pub IsIndexed : List TableRow → RowsById → UniqueIndex → Type 0
IsIndexed ts by index = (id : ℕ) (t : TableRow) → table_of ts id ≡ Some t → LeadsToRows t (rows_by by id) index
