-- A list of tables, each of which other lists may have too, and writes that are put into them table by table.
use Rattle.std.specs.Prelude.{ℕ, List, [], ◌∷◌, map, ◌==◌, nat_le, if◌then◌else◌, Option, Some, None}
use Rattle.std.specs.Arc.{arc_value}
use Rattle.std.specs.List.{find}
use Rattle.redo_spec.specs.Tables.{Table, Tables}
use Rattle.row_apply.specs.declared.writes.Write.{Write}
use Rattle.row_apply.specs.Overlaid.{table_after}
use Rattle.table_store.specs.declared.shared_table.SharedTable.{SharedTable}

abbrev pub id_in : SharedTable → ℕ
id_in s = (arc_value s.table).row.id

abbrev pub tables_in : List SharedTable → Tables
tables_in shared = map (λ s. arc_value s.table) shared

-- the table of this id
abbrev pub found_in : ℕ → Tables → Option Table
found_in id tables = find (λ t. t.row.id == id) tables

-- this table, if it has this id
abbrev pub if_of_id : ℕ → Option SharedTable → Option Table
if_of_id id None = None
if_of_id id (Some s) = if id_in s == id then Some (arc_value s.table) else None

-- of writes that rise, those of the tables up to this id
abbrev pub writes_up_to : ℕ → List Write → List Write
writes_up_to id [] = []
writes_up_to id (w ∷ ws) = if nat_le w.table id then w ∷ writes_up_to id ws else []

-- and those behind them
abbrev pub writes_past : ℕ → List Write → List Write
writes_past id [] = []
writes_past id (w ∷ ws) = if nat_le w.table id then writes_past id ws else w ∷ ws

-- the tables with the written rows in place of theirs, where both rise by their ids: each table takes the first of the writes
abbrev pub overlaid_in_turn : Tables → List Write → Tables
overlaid_in_turn [] ws = []
overlaid_in_turn (t ∷ ts) ws = table_after (writes_up_to t.row.id ws) t ∷ overlaid_in_turn ts (writes_past t.row.id ws)
