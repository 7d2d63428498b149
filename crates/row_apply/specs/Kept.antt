-- What an overlay keeps: its rows by their keys, and an index of their unique values.
-- A table is indexed by the columns of its keys as they were when it was. An index says of each row that is there under
-- which key it stands; it may also have values that no row has any more, so what it answers is looked at again.
use Rattle.std.specs.Prelude.{◌≡◌, ℕ, ◌+◌, List, [], ◌∷◌, Bool, false, true, cond, drop, ◌==◌, ◌&&◌, if◌then◌else◌, Option, Some, None, IsSome, slice_get}
use Rattle.std.specs.List.{list_any, AllByRecursion}
use Rattle.std.specs.List.Sorted.{IsStrictlySortedBy}
use Rattle.std.specs.Ordering.{is_eq, nat_cmp}
use Rattle.std.specs.Map.{lookup, keys_of}
use Rattle.std.specs.BTreeMap.{is_at, insert_entry}
use Rattle.rl_value.specs.declared.value.Value.{Value}
use Rattle.rl_value.specs.declared.key.Key.{Key}
use Rattle.rl_value.specs.Order.{key_cmp}
use Rattle.redo_vec.specs.declared.table.TableRow.{TableRow}
use Rattle.redo_spec.specs.ConflictKeys.{is_null}
use Rattle.redo_spec.specs.Dictionary.{uniques_of}
use Rattle.redo_spec.specs.Tables.{Rows, Tables, Table, values_at}
use Rattle.redo_spec.specs.Work.{rows_of}
use Rattle.row_apply.specs.Overlaid.{rows_after}
use Rattle.row_apply.specs.Written.{writes_in}

-- written rows by their keys: a row, or none where it is gone
abbrev pub Slots : Type 0
Slots = List (Key × Option (List Value))

-- unique values, each with the key of the row that has it
abbrev pub Owners : Type 0
Owners = List (Key × Key)

-- the key columns by which tables are indexed
abbrev pub Indexed : Type 0
Indexed = List (ℕ × List (List ℕ))

abbrev pub row_key : ℕ → List Value → Key
row_key table values = record { table = table; index = 0; values = values }

abbrev pub unique_key : ℕ → ℕ → List Value → Key
unique_key table index values = record { table = table; index = index; values = values }

-- what was written under the key, if anything was
abbrev pub slot_at : Slots → Key → Option (Option (List Value))
slot_at es key = lookup (is_at (key_cmp key)) es

abbrev pub owner_at : Owners → Key → Option Key
owner_at es key = lookup (is_at (key_cmp key)) es

abbrev pub indexed_at : Indexed → ℕ → Option (List (List ℕ))
indexed_at es id = lookup (is_at (nat_cmp id)) es

-- a row of the table is there under this primary key
abbrev pub IsLive : Slots → ℕ → List Value → List Value → Type 0
IsLive es table key row = slot_at es (row_key table key) ≡ Some (Some row)

-- each key is a primary key
abbrev pub ArePrimary : Slots → Type 0
ArePrimary es = AllByRecursion (λ e. e.0.index ≡ 0) es

-- rows by primary keys that rise
pub record AreSlots (es : Slots) : Type 0 where
  pub primary : ArePrimary es
  pub ordered : IsStrictlySortedBy key_cmp (keys_of es)

-- each unique value of a row of the table leads to the row's key
abbrev pub IsIndexedBy : Slots → Owners → ℕ → List (List ℕ) → Type 0
IsIndexedBy es owners table uniques = (key row : List Value) (index : ℕ) (columns : List ℕ) → IsLive es table key row →
    slice_get uniques index ≡ Some columns →
    list_any is_null (values_at row columns) ≡ false → owner_at owners (unique_key table (1 + index) (values_at row columns)) ≡
    Some (row_key table key)

-- each table that is indexed is so by the unique keys that it had
abbrev pub AreIndexed : Slots → Owners → Indexed → Type 0
AreIndexed es owners indexed = (table : ℕ) (keys : List (List ℕ)) → indexed_at indexed table ≡ Some keys →
    IsIndexedBy es owners table (drop 1 keys)

-- ---- the index of a row

abbrev pub index_at : ℕ → List Value → Key → ℕ → List ℕ → Owners → Owners
index_at table row key index columns owners =
    let values = values_at row columns in
    if list_any is_null values then owners else insert_entry key_cmp owners (unique_key table index values) key

-- the owners with the row's unique values; its unique keys count from this number
abbrev pub index_by : ℕ → List Value → Key → ℕ → List (List ℕ) → Owners → Owners
index_by table row key index [] owners = owners
index_by table row key index (columns ∷ more) owners = index_by table row key (index + 1) more
    (index_at table row key index columns owners)

abbrev pub index_slot : TableRow → Key → Option (List Value) → Owners → Owners
index_slot t key None owners = owners
index_slot t key (Some row) owners = index_by t.id row key 1 (uniques_of t) owners

-- the owners with the unique values of the table's rows among these
abbrev pub index_all : TableRow → Slots → Owners → Owners
index_all t [] owners = owners
index_all t (e ∷ es) owners = index_all t es (if e.0.table == t.id then index_slot t e.0 e.1 owners else owners)

-- ---- whether each value leads to its row

-- the owner is there, and it is this key
abbrev pub is_owner : Key → Option Key → Bool
is_owner key None = false
is_owner key (Some owner) = is_eq (key_cmp owner key)

-- the row's value in these columns leads to its key, or has a Null in it
abbrev pub leads_at : Owners → ℕ → List Value → Key → ℕ → List ℕ → Bool
leads_at owners table row key index columns =
    let values = values_at row columns in
    if list_any is_null values then true else is_owner key (owner_at owners (unique_key table index values))

-- each unique value of the row does; its unique keys count from this number
abbrev pub leads_by : Owners → ℕ → List Value → Key → ℕ → List (List ℕ) → Bool
leads_by owners table row key index [] = true
leads_by owners table row key index (columns ∷ more) = leads_at owners table row key index columns &&
    leads_by owners table row key (index + 1) more

abbrev pub leads_slot : TableRow → Owners → Key → Option (List Value) → Bool
leads_slot t owners key None = true
leads_slot t owners key (Some row) = leads_by owners t.id row key 1 (uniques_of t)

-- each unique value of the table's rows among these does
abbrev pub leads_all : TableRow → Owners → Slots → Bool
leads_all t owners [] = true
leads_all t owners (e ∷ es) = (if e.0.table == t.id then leads_slot t owners e.0 e.1 else true) && leads_all t owners es

-- ---- changes of what was written

-- the row under the key is this one now, or gone
abbrev pub Sets : Slots → Slots → Key → Option (List Value) → Type 0
Sets old new key slot = (q : Key) → slot_at new q ≡ cond (is_eq (key_cmp key q)) (Some slot) (slot_at old q)

-- the key is the one that goes
abbrev pub goes_at : Option Key → Key → Bool
goes_at None q = false
goes_at (Some gone) q = is_eq (key_cmp gone q)

-- the row under the first key is gone, if there is one, and then a row stands under the other
abbrev pub Puts : Slots → Slots → Option Key → Key → List Value → Type 0
Puts old new gone key row = (q : Key) → slot_at new q ≡ cond (is_eq (key_cmp key q)) (Some (Some row))
    (cond (goes_at gone q) (Some None) (slot_at old q))

-- what was written of other tables is as it was
abbrev pub ChangesOnly : ℕ → Slots → Slots → Type 0
ChangesOnly table old new = (q : Key) → (q.table == table) ≡ false → slot_at new q ≡ slot_at old q

-- what was written under other keys than these is as it was
abbrev pub SlotsOnly : List Key → Slots → Slots → Type 0
SlotsOnly keys old new = (q : Key) → list_any (λ k. is_eq (key_cmp k q)) keys ≡ false → slot_at new q ≡ slot_at old q

-- something was written under each row key among these
abbrev pub AreWritten : List Key → Slots → Type 0
AreWritten keys es = AllByRecursion (λ k. k.index ≡ 0 → IsSome (slot_at es k)) keys

-- the key of the row that goes, if one does, and that of the one that comes
abbrev pub keys_put : Option Key → Key → List Key
keys_put None key = key ∷ []
keys_put (Some gone) key = gone ∷ key ∷ []

-- owners in other tables are as they were
abbrev pub OwnersOnly : ℕ → Owners → Owners → Type 0
OwnersOnly table old new = (q : Key) → (q.table == table) ≡ false → owner_at new q ≡ owner_at old q

-- two written rows of the table with one unique value are one row
abbrev pub OneLive : TableRow → Slots → Type 0
OneLive t es = (i : ℕ) (columns : List ℕ) (k x l y : List Value) → slice_get (uniques_of t) i ≡ Some columns →
    IsLive es t.id k x → IsLive es t.id l y →
    list_any is_null (values_at x columns) ≡ false → values_at x columns ≡ values_at y columns → k ≡ l

-- no written row that stays has one of the row's unique values
abbrev pub IsFreeAmong : TableRow → Slots → Option Key → List Value → Type 0
IsFreeAmong t es gone row = (i : ℕ) (columns : List ℕ) (k x : List Value) → slice_get (uniques_of t) i ≡ Some columns →
    list_any is_null (values_at row columns) ≡ false →
    IsLive es t.id k x → goes_at gone (row_key t.id k) ≡ false → values_at x columns ≡ values_at row columns → ⊥

-- the key that goes, if one does, is a primary key of the table
abbrev pub IsPrimaryOf : ℕ → Option Key → Type 0
IsPrimaryOf table None = Unit {0}
IsPrimaryOf table (Some k) = (k.table ≡ table) × (k.index ≡ 0)

-- what other tables are indexed by is as it was
abbrev pub IndexedOnly : ℕ → Indexed → Indexed → Type 0
IndexedOnly table old new = (id : ℕ) → (id == table) ≡ false → indexed_at new id ≡ indexed_at old id

-- ---- what a change of the table sees

-- the table's rows, those written in place
abbrev pub rows_seen : Tables → Slots → TableRow → Rows
rows_seen tables es t = rows_after t.id (writes_in es) (rows_of tables t.id)

abbrev pub table_seen : Tables → Slots → TableRow → Table
table_seen tables es t = record { row = t; rows = rows_seen tables es t }
