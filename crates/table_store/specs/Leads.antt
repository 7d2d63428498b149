-- The index of a unique key, while the writes of a commit are made one after the other.
-- It leads from each unique value of a row to the row's primary key, unless the row's key is among those that are still to be
-- written: between two writes two rows may have one value. Nothing is said of what else the index has.
use Rattle.std.specs.Prelude.{◌≡◌, ℕ, List, length, [], ◌∷◌, Bool, true, false, if◌then◌else◌, ◌==◌, Option, Some, None}
use Rattle.std.specs.FinMap.Entries as entries
use Rattle.std.specs.List.{list_any}
use Rattle.std.specs.Ordering.{eq_by_cmp}
use Rattle.rl_value.specs.declared.value.Value.{Value}
use Rattle.rl_value.specs.Order.{row_cmp}
use Rattle.redo_spec.specs.ConflictKeys.{is_null}
use Rattle.redo_spec.specs.Tables.{Rows, values_at}
use Rattle.row_tree.specs.Entries.{without}
use Rattle.row_apply.specs.declared.writes.Write.{Write}

-- the value that a row has in the columns of a unique key, unless there is a Null in it
abbrev pub unique_of : List ℕ → List Value → Option (List Value)
unique_of columns row = if list_any is_null (values_at row columns) then None else Some (values_at row columns)

-- that of the row that stands there, if one does
abbrev pub slot_unique : List ℕ → Option (List Value) → Option (List Value)
slot_unique columns None = None
slot_unique columns (Some row) = unique_of columns row

-- the index leads to each row whose key is not among these
abbrev pub IsLedBut : List ℕ → List (List Value) → Rows → Rows → Type 0
IsLedBut columns left rows index = (q r v : List Value) → entries.find row_cmp q rows ≡ Some r →
    list_any (eq_by_cmp row_cmp q) left ≡ false → unique_of columns r ≡ Some v → entries.find row_cmp v index ≡ Some q

-- the index of each of these unique keys does
abbrev pub AreLedBut : List (List ℕ) → List (List Value) → Rows → List Rows → Type 0
AreLedBut [] left rows indexes = length indexes ≡ 0
AreLedBut (columns ∷ more) left rows [] = ⊥
AreLedBut (columns ∷ more) left rows (index ∷ others) = IsLedBut columns left rows index × AreLedBut more left rows others

-- the keys of those of the writes that are of this table
abbrev pub keys_in : ℕ → List Write → List (List Value)
keys_in id [] = []
keys_in id (w ∷ ws) = if w.table == id then w.key ∷ keys_in id ws else keys_in id ws

-- ---- what a write makes of an index

-- what is found leads to this key
abbrev pub leads_to : List Value → Option (List Value) → Bool
leads_to key None = false
leads_to key (Some found) = eq_by_cmp row_cmp found key

abbrev pub leave_if : Bool → List Value → Rows → Rows
leave_if true value index = without value index
leave_if false value index = index

-- the index once the value leads to this key no more
abbrev pub leave : Option (List Value) → List Value → Rows → Rows
leave None key index = index
leave (Some value) key index = leave_if (leads_to key (entries.find row_cmp value index)) value index

abbrev pub enter_unless : Bool → List Value → List Value → Rows → Rows
enter_unless true value key index = index
enter_unless false value key index = entries.put row_cmp value key index

-- the index once the value leads to this key
abbrev pub enter : Option (List Value) → List Value → Rows → Rows
enter None key index = index
enter (Some value) key index = enter_unless (leads_to key (entries.find row_cmp value index)) value key index

-- the value that leads there no more: the old one, unless it is the new one
abbrev pub departing : Option (List Value) → Option (List Value) → Option (List Value)
departing None new = None
departing (Some old) None = Some old
departing (Some old) (Some new) = if eq_by_cmp row_cmp old new then None else Some old

-- the index of one unique key after a write: under the key stood this row, and now stands this one, or none
abbrev pub lead_after : List ℕ → List Value → Option (List Value) → Option (List Value) → Rows → Rows
lead_after columns key was now index =
    enter (slot_unique columns now) key (leave (departing (slot_unique columns was) (slot_unique columns now)) key index)

-- those of all of them
abbrev pub leads_after : List (List ℕ) → List Value → Option (List Value) → Option (List Value) → List Rows → List Rows
leads_after [] key was now indexes = []
leads_after (columns ∷ more) key was now [] = []
leads_after (columns ∷ more) key was now (index ∷ others) = lead_after columns key was now index ∷
    leads_after more key was now others

-- 1 where a row stands there
abbrev pub count_of : Bool → ℕ
count_of true = 1
count_of false = 0
