-- Which states have a layout: each number fits its field, and what Loading tests of the pairs holds of the state.
-- The pairs of such a state are loaded as that state, so a store that holds one can be begun with. A state of the code meets the
-- ranges by its types; a variable of a law has to be told.
use Rattle.std.specs.Prelude.{ℕ, ◌≡◌, ◌≤◌, ◌<◌, ◌^◌, List, [], ◌∷◌, ◌++◌, length, None, is_some, IsTrue, IsSome, IfSome, ⊤, ◌+◌, true, false}
use Rattle.std.specs.List.{AllByRecursion}
use Rattle.rl_value.specs.declared.value.Value.{Value}
use Rattle.rl_ports.specs.Store.{Store}
use Rattle.redo_vec.specs.declared.table.TableRow.{TableRow}
use Rattle.redo_vec.specs.Ranges.{AreBytes, IsValue, IsXid, IsTable}
use Rattle.redo_spec.specs.Log.{header_bytes, IsHeader}
use Rattle.redo_spec.specs.LogHeader.{header_fault}
use Rattle.redo_spec.specs.Dictionary.{table_of, table_fault, ids_rise}
use Rattle.redo_spec.specs.Tables.{Table, row_count, definitions_of}
use Rattle.redo_spec.specs.Skips.{Rule, Tables as OfTables, Transaction, Skip, is_pattern}
use Rattle.redo_spec.specs.Fold.{live_row_limit}
use Rattle.skip_guard.specs.Rules.{are_skips}
use Rattle.row_apply.specs.declared.writes.Write.{Write}
use Rattle.row_apply.specs.Soundness.{AreSound}
use Rattle.log_registry.specs.declared.entry.LogEntry.{LogEntry}
use Rattle.log_registry.specs.Registered.{IsRising, entry_of}
use Rattle.standby_spec.specs.declared.mark.Mark.{Mark}
use Rattle.standby_spec.specs.KeptState.{KeptState}
use Rattle.standby_spec.specs.Writings.{Writing, AddLog, AddSkip, SetLevel, PutRow, Publish, KeepMark, log_limit, row_write, writable, state_after}
use Rattle.standby_spec.specs.Refusals.{passes_limit, skip_refusal}
use Rattle.standby_spec.specs.Writable.{can_be_written}
use Rattle.standby_spec.specs.Loading.{is_mark_in}

-- ---- parts of a state

-- a log with a good header and room for it, of this database, and not before the first one
pub record IsLogOf (dbid first : ℕ) (e : LogEntry) : Type 0 where
  pub fits : IsHeader e.head
  pub good : header_fault e.head.seq (header_bytes e.head) ≡ None
  pub same : e.head.dbid ≡ dbid
  pub behind : first ≤ e.head.seq
  pub least : 40 ≤ e.length
  pub room : e.length < 2 ^ 64

-- each table is accepted behind those before it
abbrev pub AreAcceptedBehind : List TableRow → List TableRow → Type 0
AreAcceptedBehind before [] = ⊤
AreAcceptedBehind before (t ∷ ts) = (table_fault before t ≡ None) × AreAcceptedBehind (before ++ t ∷ []) ts

abbrev pub IsRule : Rule → Type 0
IsRule (OfTables pattern) = IsTrue (is_pattern pattern)
IsRule (Transaction x) = IsXid x

pub record IsSkip (skip : Skip) : Type 0 where
  pub rule : IsRule skip.rule
  pub from : skip.from < 2 ^ 62

abbrev pub AreValues : List Value → Type 0
AreValues values = AllByRecursion IsValue values

-- a row, and its key, of values that have a spelling
abbrev pub IsRowOfValues : List Value × List Value → Type 0
IsRowOfValues (key, row) = AreValues key × AreValues row

abbrev pub IsTableOfValues : Table → Type 0
IsTableOfValues t = AllByRecursion IsRowOfValues t.rows

-- a mark each number of which fits its field, and whose place stands behind record q
pub record IsMark (k : Mark) : Type 0 where
  pub seq : k.place.seq < 2 ^ 32
  pub done : k.place.done < 2 ^ 32
  pub rec : k.place.rec ≡ k.q
  pub q_scn : k.q_scn < 2 ^ 64
  pub m_scn : k.m_scn < 2 ^ 64
  pub commit_scn : k.commit_scn < 2 ^ 64

-- ---- a whole state

-- A state that has a layout: its logs are good, rise and have the first one among them; its tables are those that a dictionary
-- accepts; its skip rules differ; its rows are sound and no more than the limit; and its mark lies in one of its logs.
pub record HasLayout (s : KeptState) : Type 0 where
  pub dbid : s.dbid < 2 ^ 32
  pub first : s.first < 2 ^ 32
  pub base : s.base < 2 ^ 64
  pub logs : AllByRecursion (IsLogOf s.dbid s.first) s.logs
  pub rising : IsRising s.logs
  pub beginning : IsSome (entry_of s.first s.logs)
  pub few_logs : length s.logs ≤ log_limit
  pub tables : AllByRecursion IsTable (definitions_of s.tables)
  pub accepted : AreAcceptedBehind [] (definitions_of s.tables)
  pub ids : IsTrue (ids_rise 0 (definitions_of s.tables))
  pub rules : AllByRecursion IsSkip s.skips
  pub differ : IsTrue (are_skips s.skips)
  pub values : AllByRecursion IsTableOfValues s.tables
  pub sound : AreSound s.tables
  pub few_rows : row_count s.tables ≤ live_row_limit
  pub n : s.n < 2 ^ 62
  pub scn : s.scn < 2 ^ 64
  pub mark : IfSome s.mark IsMark
  pub placed : IfSome s.mark (λ k. IsTrue (is_mark_in s.logs s.n k))

-- a store whose keys and values are bytes, as those of each store of the code are
abbrev pub IsStoreOfBytes : Store → Type 0
IsStoreOfBytes store = AllByRecursion (λ e. AreBytes e.0.1 × AreBytes e.1) store

-- ---- a change of one

-- a write whose key has a spelling
abbrev pub IsWriteOfValues : Write → Type 0
IsWriteOfValues w = AreValues w.key

-- What a call that writes may be given: a log whose sequence fits its field, a row of a table that is there, and rows and writes
-- whose keys have a spelling. All of it holds of what the code gives.
abbrev pub MayBeDone : Writing → KeptState → Type 0
MayBeDone (AddLog e) s = e.head.seq < 2 ^ 32
MayBeDone (AddSkip rule) s = ⊤
MayBeDone (SetLevel level) s = ⊤
MayBeDone (PutRow id row) s = IsTrue (is_some (table_of (definitions_of s.tables) id)) × AreValues row
MayBeDone (Publish scn writes) s = AllByRecursion IsWriteOfValues writes
MayBeDone (KeepMark k) s = ⊤

-- a write whose row, where it puts one, has a spelling too
pub record IsWholeWrite (w : Write) : Type 0 where
  pub key : AreValues w.key
  pub row : IfSome w.row AreValues

-- What a call that writes must not be refused for, so that it leaves a state that has a layout: a log that is good, new and not
-- one too many; a rule that is new and not one too many; rows that may be put in place and pass no limit; a mark that lies in a
-- log.
abbrev pub LeavesLayout : Writing → KeptState → Type 0
LeavesLayout (AddLog e) s = IsLogOf s.dbid s.first e × ((entry_of e.head.seq s.logs ≡ None) × (length s.logs < log_limit))
LeavesLayout (AddSkip rule) s = IsRule rule × (skip_refusal s rule ≡ None)
LeavesLayout (SetLevel level) s = ⊤
LeavesLayout (PutRow id row) s =
    IsWholeWrite (row_write s.tables id row)
    × ((can_be_written s.tables (row_write s.tables id row ∷ []) ≡ true)
    × (passes_limit s.tables (row_write s.tables id row ∷ []) ≡ false))
LeavesLayout (Publish scn writes) s =
    AllByRecursion IsWholeWrite writes
    × ((passes_limit s.tables (writable s.tables writes) ≡ false) × ((s.n + 1 < 2 ^ 62) × (scn < 2 ^ 64)))
LeavesLayout (KeepMark k) s = IsMark k × IsTrue (is_mark_in s.logs s.n k)

-- the same of several writings, one after the other
abbrev pub MayAllBeDone : List Writing → KeptState → Type 0
MayAllBeDone [] s = ⊤
MayAllBeDone (w ∷ ws) s = (MayBeDone w s × LeavesLayout w s) × MayAllBeDone ws (state_after w s)

-- What a group of commits must be, so that publishing it leaves a state that has a layout: rows that have a spelling, writes
-- that may be put in place one commit after the other, and SCNs that fit their field.
abbrev pub AreWhole : List (ℕ × List Write) → KeptState → Type 0
AreWhole [] s = ⊤
AreWhole ((at_scn, writes) ∷ more) s =
    (AllByRecursion IsWholeWrite writes × ((writable s.tables writes ≡ writes) × (at_scn < 2 ^ 64)))
    × AreWhole more (state_after (Publish at_scn writes) s)
