-- Conflict keys: the primary and unique keys that a change touches, old and new, as far as its cells give them.
-- Two changes that touch no common key do not depend on each other; two that touch one are ordered by their commits. An
-- INSERT has no old keys and a DELETE no new ones; a unique key with a Null in it is none. This project's own.
use Rattle.std.specs.Prelude.{ℕ, List, [], ◌∷◌, ◌++◌, map, Bool, true, false, ◌&&◌, if◌then◌else◌, ◌==◌, nat_lt, Option, Some, None}
use Rattle.std.specs.List.{list_any, flat_map, enumerate_from}
use Rattle.rl_value.specs.declared.value.Value.{Value}
use Rattle.rl_value.specs.declared.value.Value.TheVariants.{Null, Number, Text, Raw}
use Rattle.rl_value.specs.declared.key.Key.{Key}
use Rattle.redo_vec.specs.declared.change.Change.{Change}
use Rattle.redo_vec.specs.declared.change.Op.{Op}
use Rattle.redo_vec.specs.declared.change.Op.TheVariants.{Insert, Update, Delete}
use Rattle.redo_vec.specs.declared.table.TableRow.{TableRow}
use Rattle.rl_value.specs.Outcome.{all_of}
use Rattle.redo_spec.specs.Dictionary.{table_of}

-- the value is Null
abbrev pub is_null : Value → Bool
is_null Null = true
is_null (Number z) = false
is_null (Text bytes) = false
is_null (Raw bytes) = false

-- the value that the cells give for a column
abbrev pub cell_of : List (ℕ × Value) → ℕ → Option Value
cell_of [] column = None
cell_of ((c, v) ∷ cells) column = if c == column then Some v else cell_of cells column

-- the old cells with the new ones put in, as `cell_of` sees them
abbrev pub put_in : List (ℕ × Value) → List (ℕ × Value) → List (ℕ × Value)
put_in old new = new ++ old

abbrev pub after_op : Op → List (ℕ × Value) → List (ℕ × Value) → List (ℕ × Value)
after_op Insert old new = new
after_op Update old new = put_in old new
after_op Delete old new = []

-- what the row holds after the change, as far as its cells say
abbrev pub cells_after : Change → List (ℕ × Value)
cells_after c = after_op c.op c.old c.new

-- the key of these values; key 0 is the primary key, and a unique key with a Null in it is none
abbrev pub key_if_whole : ℕ → ℕ → Option (List Value) → List Key
key_if_whole table index None = []
key_if_whole table index (Some values) =
    if nat_lt 0 index && list_any is_null values then [] else record { table = table; index = index; values = values } ∷ []

-- the key at these columns, where each is given
abbrev pub key_by_columns : ℕ → (ℕ → Option Value) → ℕ × List ℕ → List Key
key_by_columns table value_at (index, columns) = key_if_whole table index (all_of (map value_at columns))

-- the keys of a table at which this gives all values
abbrev pub keys_given : TableRow → (ℕ → Option Value) → List Key
keys_given t value_at = flat_map (key_by_columns t.id value_at) (enumerate_from 0 t.keys)

-- the old and the new keys, as far as the cells give them
abbrev pub conflict_keys_in : TableRow → Change → List Key
conflict_keys_in t c = keys_given t (cell_of c.old) ++ keys_given t (cell_of (cells_after c))

abbrev pub conflict_keys_of : Option TableRow → Change → List Key
conflict_keys_of None c = []
conflict_keys_of (Some t) c = conflict_keys_in t c

-- the keys of a change; which of them stands first, or twice, is of no matter
abbrev pub conflict_keys : List TableRow → Change → List Key
conflict_keys tables c = conflict_keys_of (table_of tables c.table) c
