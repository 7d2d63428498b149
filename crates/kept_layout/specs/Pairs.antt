-- What a pair says by itself: the part of a state, or none where the pair is not in the layout. How a part is taken behind those
-- before it, and what the layout asks of several pairs together, stands in the definitions of loading (`standby_spec`, Loading).
use Rattle.std.specs.Prelude.{ℕ, ◌^◌, List, [], ◌∷◌, ◌++◌, length, drop, ◌&&◌, ◌==◌, nat_le, nat_lt, if◌then◌else◌, Option, Some, None, Ok, Err}
use Rattle.std.specs.Int.{w32, w64}
use Rattle.std.specs.Option.{option_map, option_and_then}
use Rattle.rl_value.specs.declared.limits.TheConstants.{MAX_COLUMNS}
use Rattle.rl_value.specs.declared.value.Value.{Value}
use Rattle.rl_value.specs.Order.{same_bytes}
use Rattle.rl_ports.specs.declared.batch.Item.{Item}
use Rattle.rl_ports.specs.declared.batch.Item.TheVariants.{Put, Drop}
use Rattle.redo_vec.specs.declared.table.TableRow.{TableRow}
use Rattle.redo_vec.specs.Cutting.{number_in}
use Rattle.redo_vec.specs.Reading.{Read, value_at, table_at}
use Rattle.redo_vec.specs.Spelling.{be32, be64}
use Rattle.redo_spec.specs.LogHeader.{header_in}
use Rattle.redo_spec.specs.Skips.{Rule, Skip}
use Rattle.log_registry.specs.declared.entry.LogEntry.{LogEntry}
use Rattle.standby_spec.specs.Layout.{level_byte, standby_key, row_place}
use Rattle.standby_spec.specs.Loading.{KeyValue, Identity, when_true, read_whole, byte_in, level_of, identity_in, is_log_of, rule_in, values_in}
use Rattle.kept_layout.specs.declared.identity.Identity.{Identity as KeptIdentity}

-- ---- what is written

-- the identity, in the words of what is loaded
abbrev pub identity_of : KeptIdentity → Identity
identity_of kept = record { dbid = kept.dbid; first = kept.first; base = kept.base; level = kept.level }

-- the item of an identity, which is that of each state that has it
abbrev pub identity_item : KeptIdentity → Item
identity_item kept = Put 1 standby_key (be32 kept.dbid ++ be32 kept.first ++ be64 kept.base ++ level_byte kept.level ∷ [])

-- a row of this key is dropped
abbrev pub row_drop : ℕ → List Value → Item
row_drop table key = Drop 5 (row_place table key)

-- ---- what a pair says

-- whether the first log is there is told by other pairs
abbrev pub identity_of_pair : KeyValue → Option Identity
identity_of_pair (key, value) =
    if same_bytes key standby_key && (length value == 17)
    then option_map (identity_in value) (level_of (byte_in 16 value))
    else None

abbrev pub log_of_pair : Identity → KeyValue → Option LogEntry
log_of_pair identity (key, value) = when_true
    ((length key == 4) && (length value == 48) && is_log_of identity key value)
    (record { head = header_in value; length = number_in w64 40 value })

abbrev pub table_of_pair : KeyValue → Option TableRow
table_of_pair (key, value) = if length key == 4 then read_whole (table_at 0 (key ++ value)) else None

-- a rule that counts from the commit after so many
abbrev pub skip_with : ℕ → Rule → Option Skip
skip_with from rule = when_true (nat_lt from (2 ^ 62)) (record { rule = rule; from = from })

-- the rule of this number
abbrev pub skip_of_pair : ℕ → KeyValue → Option Skip
skip_of_pair number (key, value) =
    if same_bytes key (be32 number) && nat_le 9 (length value)
    then option_and_then (skip_with (number_in w64 0 value)) (rule_in (byte_in 8 value) (drop 9 value))
    else None

-- what was read, or none
abbrev pub if_read : {A : Type 0} → Read A → Option (A × List ℕ)
if_read (Ok x) = Some x
if_read (Err fault) = None

-- the value at the front of bytes, and the bytes behind it
abbrev pub value_in_front : List ℕ → Option (Value × List ℕ)
value_in_front bytes = if_read (value_at 0 bytes)

-- the values, where they are as many as a row may have
abbrev pub as_row : List Value → Option (List Value)
as_row values = when_true (nat_le 1 (length values) && nat_le (length values) MAX_COLUMNS) values

-- the row, or the key of a row, that bytes spell to their end
abbrev pub row_of_bytes : List ℕ → Option (List Value)
row_of_bytes bytes = option_and_then as_row (values_in bytes)

-- the table and the primary key that the key of a row spells
abbrev pub place_of_key : List ℕ → Option (ℕ × List Value)
place_of_key key =
    if nat_le 4 (length key) then option_map (λ k. (number_in w32 0 key, k)) (row_of_bytes (drop 4 key)) else None
