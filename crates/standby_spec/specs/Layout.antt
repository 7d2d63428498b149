-- The layout of a state in a durable store: which pair lies in which area, under which key. Numbers are big-endian, and values,
-- tables and transaction ids are spelled as in a record (`redo_vec`, Spelling).
--   area 1  S               dbid (4), first sequence (4), base SCN (8), level (1: 1 ALL, 2 STANDBY)
--   area 2  sequence (4)    header (40), length (8)
--   area 3  table (4)       what follows on the id in its TABLE vector
--   area 4  number (4)      from (8), kind (1: 1 pattern, 2 transaction), the pattern's bytes or the id
--   area 5  table (4), key  the row's values
--   area 6  A               count (8), SCN (8)
--   area 7  M               version 1 (1), q, m, before (8 each), sequence (4), offset (8), done (4), the three SCNs (8 each)
-- This project's own. What is loaded from pairs stands in Loading.
use Rattle.std.specs.Prelude.{ℕ, ◌+◌, List, [], ◌∷◌, ◌++◌, map, codes, Option, Some, None}
use Rattle.std.specs.List.{flat_map}
use Rattle.rl_value.specs.declared.value.Value.{Value}
use Rattle.rl_ports.specs.declared.batch.Item.{Item}
use Rattle.rl_ports.specs.declared.batch.Item.TheVariants.{Put}
use Rattle.rl_ports.specs.Store.{Store, after_batch}
use Rattle.redo_vec.specs.declared.table.TableRow.{TableRow}
use Rattle.redo_vec.specs.Spelling as spelling
use Rattle.redo_vec.specs.Spelling.{be32, be64}
use Rattle.redo_spec.specs.Log.{header_bytes}
use Rattle.redo_spec.specs.Skips.{Rule, Tables as OfTables, Transaction, Skip}
use Rattle.redo_spec.specs.Tables.{Table, definitions_of}
use Rattle.skip_guard.specs.declared.guard.Level.{Level}
use Rattle.skip_guard.specs.declared.guard.Level.TheVariants.{All, Standby}
use Rattle.log_registry.specs.declared.entry.LogEntry.{LogEntry}
use Rattle.standby_spec.specs.declared.mark.Mark.{Mark}
use Rattle.standby_spec.specs.KeptState.{KeptState}

-- ---- one pair each

abbrev pub level_byte : Level → ℕ
level_byte All = 1
level_byte Standby = 2

-- the key of the standby itself, of what is applied, and of the mark
abbrev pub standby_key : List ℕ
standby_key = codes "S"

abbrev pub applied_key : List ℕ
applied_key = codes "A"

abbrev pub mark_key : List ℕ
mark_key = codes "M"

abbrev pub standby_item : KeptState → Item
standby_item s = Put 1 standby_key (be32 s.dbid ++ be32 s.first ++ be64 s.base ++ level_byte s.level ∷ [])

abbrev pub log_item : LogEntry → Item
log_item e = Put 2 (be32 e.head.seq) (header_bytes e.head ++ be64 e.length)

abbrev pub table_item : TableRow → Item
table_item t = Put 3 (be32 t.id) (spelling.table t)

abbrev pub rule_bytes : Rule → List ℕ
rule_bytes (OfTables pattern) = 1 ∷ pattern
rule_bytes (Transaction x) = 2 ∷ spelling.xid x

-- a skip rule of this number
abbrev pub skip_item : ℕ → Skip → Item
skip_item number skip = Put 4 (be32 number) (be64 skip.from ++ rule_bytes skip.rule)

-- the key of a row in its area
abbrev pub row_place : ℕ → List Value → List ℕ
row_place table key = be32 table ++ flat_map spelling.value key

abbrev pub row_item : ℕ → List Value × List Value → Item
row_item table (key, row) = Put 5 (row_place table key) (flat_map spelling.value row)

abbrev pub applied_item : ℕ → ℕ → Item
applied_item n scn = Put 6 applied_key (be64 n ++ be64 scn)

-- the count at which the mark was taken is not kept
abbrev pub mark_item : Mark → Item
mark_item k = Put 7 mark_key (
    1 ∷ be64 k.q ++ be64 k.m ++ be64 k.before ++ be32 k.place.seq ++ be64 k.place.at ++ be32 k.place.done
    ++ be64 k.q_scn ++ be64 k.m_scn ++ be64 k.commit_scn)

-- ---- a whole state: the items of each area

-- the rules, the first of which has this number
abbrev pub skip_items : ℕ → List Skip → List Item
skip_items number [] = []
skip_items number (skip ∷ skips) = skip_item number skip ∷ skip_items (number + 1) skips

abbrev pub row_items : Table → List Item
row_items t = map (row_item t.row.id) t.rows

abbrev pub mark_items : Option Mark → List Item
mark_items None = []
mark_items (Some k) = mark_item k ∷ []

-- one item for each pair of a state, area by area
abbrev pub items_of : KeptState → List Item
items_of s =
    standby_item s ∷ (map log_item s.logs
    ++ (map table_item (definitions_of s.tables)
    ++ (skip_items 1 s.skips
    ++ (flat_map row_items s.tables
    ++ (applied_item s.n s.scn ∷ mark_items s.mark)))))

-- The pairs of a state: what its items leave of a store that has none. The order of the rows there is that of their keys'
-- bytes, which is not the order of the rows of a table.
unfoldable pub pairs_of : KeptState → Store
pairs_of s = after_batch (items_of s) []
