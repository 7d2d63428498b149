-- What was read of an area up to a key: it is in the layout, and its own keys lie below each key that comes.
use Rattle.std.specs.Prelude.{◌≡◌, ℕ, ◌≤◌, List, [], length, true, IsTrue, Result, Ok}
use Rattle.std.specs.List.{AllByRecursion}
use Rattle.redo_vec.specs.declared.table.TableRow.{TableRow}
use Rattle.redo_vec.specs.Ranges.{IsTable}
use Rattle.redo_vec.specs.Spelling.{be32}
use Rattle.rl_value.specs.Outcome.{◌>>=◌}
use Rattle.rl_ports.specs.Store.{Store}
use Rattle.redo_spec.specs.Dictionary.{ids_rise}
use Rattle.redo_spec.specs.Fold.{live_row_limit}
use Rattle.redo_spec.specs.Skips.{Skip}
use Rattle.redo_spec.specs.Tables.{Tables, definitions_of, row_count}
use Rattle.skip_guard.specs.Rules.{are_skips}
use Rattle.log_registry.specs.declared.entry.LogEntry.{LogEntry}
use Rattle.log_registry.specs.Registered.{IsRising}
use Rattle.standby_spec.specs.HasLayout.{IsLogOf, AreAcceptedBehind, IsSkip, IsTableOfValues}
use Rattle.standby_spec.specs.Loading.{StorePlace, tables_in, skips_in, rows_in}
use Rattle.standby_spec.specs.Writings.{log_limit}
use Rattle.row_apply.specs.Soundness.{AreSound}
use Rattle.table_store.specs.Stored.{TableSet}
use Rattle.kept_layout.specs.declared.identity.Identity.{Identity}
use Rattle.checkpoint.specs.Areas.{is_above}

-- the key of this number lies below each key above the last one
abbrev pub LiesBelow : List ℕ → ℕ → Type 0
LiesBelow last number = (key : List ℕ) → IsTrue (is_above last key) → IsTrue (is_above (be32 number) key)

pub record AreLogsTo (identity : Identity) (last : List ℕ) (count : ℕ) (logs : List LogEntry) : Type 0 where
  pub each : AllByRecursion (IsLogOf identity.dbid identity.first) logs
  pub below : AllByRecursion (λ e. LiesBelow last e.head.seq) logs
  pub counted : count ≡ length logs
  pub few : length logs ≤ log_limit
  pub rising : IsRising logs

pub record AreTablesTo (last : List ℕ) (tables : List TableRow) : Type 0 where
  pub each : AllByRecursion IsTable tables
  pub below : AllByRecursion (λ t. LiesBelow last t.id) tables
  pub accepted : AreAcceptedBehind [] tables

-- rows in the tables of a dictionary
pub record AreRowsIn (tables : TableSet) : Type 0 where
  pub values : AllByRecursion IsTableOfValues tables.tables
  pub sound : AreSound tables.tables

-- the rules, and the tables with their rows
abbrev pub contents_in : Store → Result (List Skip × Tables) StorePlace
contents_in pairs = do
  rows ← tables_in pairs
  skips ← skips_in pairs
  tables ← rows_in rows pairs
  Ok (skips, tables)

-- rules and tables that are in the layout
pub record AreContents (rules : List Skip) (stored : TableSet) : Type 0 where
  pub whole : stored.dictionary.finished ≡ true
  pub tables : AllByRecursion IsTable (definitions_of stored.tables)
  pub accepted : AreAcceptedBehind [] (definitions_of stored.tables)
  pub ids : IsTrue (ids_rise 0 (definitions_of stored.tables))
  pub skips : AllByRecursion IsSkip rules
  pub differ : IsTrue (are_skips rules)
  pub rows : AreRowsIn stored
  pub few : row_count stored.tables ≤ live_row_limit
