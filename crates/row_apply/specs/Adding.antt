-- What stands in the way of a row that is added: rows without the one that it comes for, and owners of its unique values.
use Rattle.std.specs.Prelude.{◌≡◌, ◌≢◌, ℕ, List, Bool, false, ◌&&◌, ◌==◌, Option, Some, None, is_some, if◌then◌else◌, IsTrue}
use Rattle.std.specs.FinMap.Entries as entries
use Rattle.std.specs.List.{list_any, AllByRecursion}
use Rattle.std.specs.Ordering.{eq_by_cmp}
use Rattle.rl_value.specs.declared.value.Value.{Value}
use Rattle.rl_value.specs.declared.key.Key.{Key}
use Rattle.rl_value.specs.Order.{row_cmp}
use Rattle.redo_vec.specs.Forms.{is_key_columns}
use Rattle.redo_vec.specs.declared.table.TableRow.{TableRow}
use Rattle.redo_vec.specs.declared.change.Change.{Change}
use Rattle.redo_spec.specs.ChangeForm.{change_fault_in}
use Rattle.redo_spec.specs.ConflictKeys.{is_null}
use Rattle.redo_spec.specs.Dictionary.{table_of, primary_of, uniques_of, has_bad_keys}
use Rattle.redo_spec.specs.Tables.{Rows, Table, Tables, values_at, primary_key, definitions_of}
use Rattle.row_apply.specs.declared.written.Written.{Written}
use Rattle.redo_spec.specs.Work.{write_row}
use Rattle.row_apply.specs.Kept.{Slots, Owners, row_key, slot_at, owner_at, indexed_at, IsLive, rows_seen}
use Rattle.row_apply.specs.KeptIn.{slots_of, indexed_of, IsKept}
use Rattle.row_apply.specs.Soundness.{AreSoundRows, AreSound}
use Rattle.row_apply.specs.Values.{has_at}

-- the rows without the one that goes, if one goes
abbrev pub rows_without : Option (List Value) → Rows → Rows
rows_without None rows = rows
rows_without (Some gone) rows = write_row rows gone None

-- the row of this key is the one that goes
abbrev pub goes : Option (List Value) → List Value → Bool
goes None q = false
goes (Some gone) q = eq_by_cmp row_cmp q gone

-- the values of a key that goes, if one goes
abbrev pub values_of : Option Key → Option (List Value)
values_of None = None
values_of (Some k) = Some k.values

-- the owner, unless it is the one that goes
abbrev pub owner_unless : Option (List Value) → List Value → Option (List Value)
owner_unless None owner = Some owner
owner_unless (Some gone) owner = if eq_by_cmp row_cmp gone owner then None else Some owner

-- the owner, unless it was written over
abbrev pub if_beneath : Slots → ℕ → Option (List Value) → List Value → Option (List Value)
if_beneath es table gone owner = if is_some (slot_at es (row_key table owner)) then None else owner_unless gone owner

-- the written row of this key has these values
abbrev pub OwnsWritten : Slots → ℕ → List ℕ → List Value → List Value → Type 0
OwnsWritten es table columns values owner = (row : List Value) × (IsLive es table owner row × (values_at row columns ≡ values))

-- no written row has these values
abbrev pub IsUnowned : Slots → ℕ → List ℕ → List Value → Type 0
IsUnowned es table columns values = (key row : List Value) → IsLive es table key row → values_at row columns ≡ values → ⊥

-- the table, the rows written in place and without the one that goes
abbrev pub table_without : Option (List Value) → Tables → Slots → TableRow → Table
table_without gone tables es t = record { row = t; rows = rows_without gone (rows_seen tables es t) }

-- that table with a row added
abbrev pub table_with_row : Option (List Value) → Tables → Slots → TableRow → List Value → Table
table_with_row gone tables es t row = record {
  row = t;
  rows = entries.put row_cmp (primary_key t row) row
      (rows_without gone (rows_seen tables es t));
}

-- ---- what the index answers

-- the values that stand there, if any do, are these
abbrev pub slot_has : Option (Option (List Value)) → List ℕ → List Value → Bool
slot_has None columns values = false
slot_has (Some None) columns values = false
slot_has (Some (Some row)) columns values = has_at row columns values

-- the key is that of a written row that has this value
abbrev pub owns : Slots → Key → List ℕ → Key → Bool
owns es key columns owner = (owner.table == key.table) && (owner.index == 0) && slot_has (slot_at es owner) columns key.values

abbrev pub if_owns : Slots → Key → List ℕ → Option Key → Option (List Value)
if_owns es key columns None = None
if_owns es key columns (Some owner) = if owns es key columns owner then Some owner.values else None

-- the key of the written row that has this value, by the index
abbrev pub written_owner : Slots → Owners → Key → List ℕ → Option (List Value)
written_owner es owners key columns = if_owns es key columns (owner_at owners key)

-- no written row that stays has these values
abbrev pub IsUnownedBut : Slots → ℕ → Option (List Value) → List ℕ → List Value → Type 0
IsUnownedBut es table gone columns values = (k x : List Value) → IsLive es table k x → goes gone k ≡ false →
    values_at x columns ≢ values

-- no written row that stays has the row's values in these columns, where they have no Null
abbrev pub IsFreeAt : Slots → ℕ → Option (List Value) → List Value → List ℕ → Type 0
IsFreeAt es table gone row columns = list_any is_null (values_at row columns) ≡ false →
    IsUnownedBut es table gone columns (values_at row columns)

-- ---- when the rows of a table can be changed

-- the table's written rows are indexed by the keys that it has
abbrev pub HasIndex : Written → TableRow → Type 0
HasIndex w t = indexed_at (indexed_of w) t.id ≡ Some t.keys

-- where the table is indexed, no written row that stays has one of the row's unique values
abbrev pub IsFreeWritten : Written → TableRow → Option (List Value) → List Value → Type 0
IsFreeWritten w t gone row = HasIndex w t → AllByRecursion (IsFreeAt (slots_of w) t.id gone row) (uniques_of t)

-- what a change of the table finds is sound: the tables beneath, and the table's rows with those written in place
pub record FindsSound (tables : Tables) (es : Slots) (t : TableRow) : Type 0 where
  pub base_sound : AreSound tables
  pub sound : AreSoundRows t (rows_seen tables es t)

-- the table is there, its rows are sound, those beneath and those seen, and its unique values are indexed
pub record IsReady (tables : Tables) (w : Written) (t : TableRow) : Type 0 where
  pub there : table_of (definitions_of tables) t.id ≡ Some t
  pub base_sound : AreSound tables
  pub sound : AreSoundRows t (rows_seen tables (slots_of w) t)
  pub kept : IsKept w
  pub indexed : HasIndex w t

-- the table is there, has no bad keys and accepts the change, and what was written is kept right
pub record CanChange (tables : Tables) (w : Written) (t : TableRow) (c : Change) : Type 0 where
  pub there : table_of (definitions_of tables) t.id ≡ Some t
  pub kept : IsKept w
  pub accepted : change_fault_in t c ≡ None
  pub keys : has_bad_keys t ≡ false
  pub form : IsTrue (is_key_columns (primary_of t))
