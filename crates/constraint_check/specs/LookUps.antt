-- Whether written rows are left alone with their unique values, as look-ups tell it.
-- Each unique value of a written row is looked for among those of the other written rows, and among the rows before all writes: its
-- owner there is in nobody's way where it is written over. That this is the test of all rows that are left (`standby_spec`,
-- Writable) is a law of this crate.
use Rattle.std.specs.Prelude.{ℕ, ◌+◌, ◌<◌, ◌≡◌, List, [], ◌∷◌, ◌++◌, length, Bool, true, false, not, ◌&&◌, ◌==◌, if◌then◌else◌, Option, Some, None, IfSome}
use Rattle.std.specs.BTreeMap.{is_at}
use Rattle.std.specs.BTreeSet.{insert_key}
use Rattle.std.specs.List.{list_all, list_any}
use Rattle.std.specs.Ordering.{eq_by_cmp, is_lt}
use Rattle.rl_value.specs.declared.key.Key.{Key}
use Rattle.rl_value.specs.declared.value.Value.{Value}
use Rattle.rl_value.specs.Order.{row_cmp, key_cmp}
use Rattle.redo_vec.specs.declared.table.TableRow.{TableRow}
use Rattle.redo_spec.specs.ConflictKeys.{is_null}
use Rattle.redo_spec.specs.Dictionary.{table_of, uniques_of}
use Rattle.redo_spec.specs.Tables.{Tables, values_at, definitions_of}
use Rattle.row_apply.specs.declared.writes.Write.{Write}
use Rattle.row_apply.specs.Found.{owner_of}
use Rattle.row_apply.specs.Kept.{row_key, unique_key}
use Rattle.row_apply.specs.Overlaid.{written_key}
use Rattle.standby_spec.specs.Writable.{row_fits}

-- ---- the rows that are written

-- the write is of a row before the one of this key, or of that row
abbrev pub is_before : ℕ → List Value → Write → Bool
is_before table key w = is_lt (key_cmp (written_key w) (row_key table key))

abbrev pub same_row : ℕ → List Value → Write → Bool
same_row table key w = (w.table == table) && eq_by_cmp row_cmp w.key key

-- the row of this key is written
abbrev pub is_written : List Write → ℕ → List Value → Bool
is_written writes table key = list_any (same_row table key) writes

-- each row fits its table
abbrev pub all_fit : List TableRow → List Write → Bool
all_fit tables writes = list_all (λ w. row_fits (table_of tables w.table) w.key w.row) writes

-- ---- their unique values

-- the keys with a row's value in these columns behind them, unless there is a Null in it
abbrev pub with_value : List Key → ℕ → List Value → ℕ → List ℕ → List Key
with_value keys table row index columns =
    if list_any is_null (values_at row columns) then keys else keys ++ unique_key table index (values_at row columns) ∷ []

-- the same for each of a table's unique keys, which count from this number
abbrev pub values_behind : List Key → ℕ → List Value → ℕ → List (List ℕ) → List Key
values_behind keys table row index [] = keys
values_behind keys table row index (columns ∷ more) =
    values_behind (with_value keys table row index columns) table row (index + 1) more

abbrev pub values_with : List Key → Option TableRow → Option (List Value) → List Key
values_with keys None row = keys
values_with keys (Some t) None = keys
values_with keys (Some t) (Some row) = values_behind keys t.id row 1 (uniques_of t)

-- the same for each written row
abbrev pub written_values : List Key → List TableRow → List Write → List Key
written_values keys tables [] = keys
written_values keys tables (w ∷ ws) = written_values (values_with keys (table_of tables w.table) w.row) tables ws

-- ---- who has them

-- a unique value of a table that is there may be looked for
pub record IsAskable (tables : List TableRow) (key : Key) : Type 0 where
  pub unique : 0 < key.index
  pub inside : IfSome (table_of tables key.table) (λ t. key.index < length t.keys)
  pub filled : list_any is_null key.values ≡ false

-- the row that has a value, if one has it, is written over
abbrev pub is_over : List Write → ℕ → Option (List Value) → Bool
is_over writes table None = true
is_over writes table (Some owner) = is_written writes table owner

abbrev pub is_gone : Tables → List Write → Key → Bool
is_gone tables writes key = is_over writes key.table (owner_of tables key)

abbrev pub owners_gone : Tables → List Write → List Key → Bool
owners_gone tables writes keys = list_all (is_gone tables writes) keys

-- no key stands twice among these, nor among those that were seen
abbrev pub keys_differ : List Key → List Key → Bool
keys_differ seen [] = true
keys_differ seen (k ∷ ks) = not (list_any (is_at (key_cmp k)) seen) && keys_differ (insert_key key_cmp seen k) ks

-- each unique value of a written row is had by that row alone
abbrev pub are_told_alone : Tables → List Write → Bool
are_told_alone tables writes =
    let keys = written_values [] (definitions_of tables) writes in
    owners_gone tables writes keys && keys_differ [] keys
