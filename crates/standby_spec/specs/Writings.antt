-- How a kept state changes: what each call that writes makes of it, and the items of its one commit of the durable store.
-- What the items leave of the pairs of a state are the pairs of the state after it (`laws::a_commit_leads_to_the_next_state`).
-- Why a call that writes is refused stands in Refusals.
use Rattle.std.specs.Prelude.{ℕ, ◌+◌, ◌-◌, ◌^◌, List, [], ◌∷◌, ◌++◌, map, length, if◌then◌else◌, Option, Some, None}
use Rattle.std.specs.Option.{option_map_or}
use Rattle.rl_value.specs.declared.value.Value.{Value}
use Rattle.rl_ports.specs.declared.batch.Item.{Item}
use Rattle.rl_ports.specs.declared.batch.Item.TheVariants.{Drop}
use Rattle.redo_vec.specs.declared.table.TableRow.{TableRow}
use Rattle.redo_spec.specs.Dictionary.{table_of}
use Rattle.redo_spec.specs.Tables.{Tables, primary_key, empty_tables, definitions_of}
use Rattle.redo_spec.specs.Skips.{Rule, Skip}
use Rattle.skip_guard.specs.declared.guard.Level.{Level}
use Rattle.skip_guard.specs.declared.guard.Level.TheVariants.{All}
use Rattle.row_apply.specs.declared.writes.Write.{Write}
use Rattle.row_apply.specs.Overlaid.{overlaid}
use Rattle.log_registry.specs.declared.entry.LogEntry.{LogEntry}
use Rattle.log_registry.specs.Registered.{with_log}
use Rattle.standby_spec.specs.declared.mark.Mark.{Mark}
use Rattle.standby_spec.specs.KeptState.{KeptState}
use Rattle.standby_spec.specs.Writable.{can_be_written}
use Rattle.standby_spec.specs.Layout.{standby_item, log_item, skip_item, row_place, row_item, applied_item, mark_item, items_of}

-- the most logs that may be registered
abbrev pub log_limit : ℕ
log_limit = 2 ^ 20

-- ---- what a call that writes does

-- a standby is created with its first log and the tables of its dictionary
abbrev pub created_state : LogEntry → List TableRow → KeptState
created_state e rows = record {
  dbid = e.head.dbid;
  first = e.head.seq;
  base = e.head.first - 1;
  level = All;
  logs = e ∷ [];
  skips = [];
  tables = empty_tables rows;
  n = 0;
  scn = e.head.first - 1;
  mark = None;
}

abbrev pub created_items : LogEntry → List TableRow → List Item
created_items e rows = items_of (created_state e rows)

-- What a call does to a standby that is there: it registers a log, adds a skip rule, sets the guard, puts a row (a row of the
-- base or a user's), publishes the next commit with its SCN, or keeps a mark.
pub data Writing : Type 0 where
  AddLog : LogEntry → Writing
  AddSkip : Rule → Writing
  SetLevel : Level → Writing
  PutRow : ℕ → List Value → Writing
  Publish : ℕ → List Write → Writing
  KeepMark : Mark → Writing

-- the primary key of a row of the table of this id
abbrev pub key_in : Tables → ℕ → List Value → List Value
key_in tables id row = option_map_or (λ t. primary_key t row) (table_of (definitions_of tables) id) []

-- the write that puts a row
abbrev pub row_write : Tables → ℕ → List Value → Write
row_write tables id row = record { table = id; key = key_in tables id row; row = Some row }

-- The writes that a commit is published with: all of them, or none where they may not be put in place. Only with devices that
-- do not tell what they hold, or a store that is not lawful, can they be none.
abbrev pub writable : Tables → List Write → List Write
writable tables writes = if can_be_written tables writes then writes else []

-- a rule counts from the commit after those that are applied
abbrev pub skip_from : ℕ → Rule → Skip
skip_from n rule = record { rule = rule; from = n }

-- the state after it
abbrev pub state_after : Writing → KeptState → KeptState
state_after (AddLog e) s = record s { logs = with_log e s.logs }
state_after (AddSkip rule) s = record s { skips = s.skips ++ skip_from s.n rule ∷ [] }
state_after (SetLevel level) s = record s { level = level }
state_after (PutRow id row) s = record s { tables = overlaid s.tables (row_write s.tables id row ∷ []) }
state_after (Publish scn writes) s = record s { tables = overlaid s.tables (writable s.tables writes); n = s.n + 1; scn = scn }
state_after (KeepMark k) s = record s { mark = Some k }

-- a row that is put, or dropped
abbrev pub write_item_of : ℕ → List Value → Option (List Value) → Item
write_item_of id key None = Drop 5 (row_place id key)
write_item_of id key (Some row) = row_item id (key, row)

abbrev pub write_item : Write → Item
write_item w = write_item_of w.table w.key w.row

-- the items of its commit
abbrev pub items_for : Writing → KeptState → List Item
items_for (AddLog e) s = log_item e ∷ []
items_for (AddSkip rule) s = skip_item (length s.skips + 1) (skip_from s.n rule) ∷ []
items_for (SetLevel level) s = standby_item (record s { level = level }) ∷ []
items_for (PutRow id row) s = write_item (row_write s.tables id row) ∷ []
items_for (Publish scn writes) s = map write_item (writable s.tables writes) ++ applied_item (s.n + 1) scn ∷ []
items_for (KeepMark k) s = mark_item k ∷ []

-- ---- several at once

-- the state after these writings, one after the other, and the items of the one commit that does them all
abbrev pub state_after_all : List Writing → KeptState → KeptState
state_after_all [] s = s
state_after_all (w ∷ ws) s = state_after_all ws (state_after w s)

abbrev pub items_for_all : List Writing → KeptState → List Item
items_for_all [] s = []
items_for_all (w ∷ ws) s = items_for w s ++ items_for_all ws (state_after w s)
