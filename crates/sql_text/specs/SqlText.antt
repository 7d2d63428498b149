-- SQL texts: SQL_REDO, which makes a change again, and SQL_UNDO, which takes it back.
--   insert into "S"."T"("C","D") values (1,NULL);
--   delete from "S"."T" where "C" = 1 and "D" IS NULL;
--   update "S"."T" set "D" = 'x' where "C" = 1 and "D" IS NULL;
-- Columns stand in the order of the table. A text that may not be printed is spelled by its bytes:
-- UTL_RAW.CAST_TO_VARCHAR2(HEXTORAW('00A7')). After Database Utilities, LogMiner; the exact spelling is this project's own.
use Rattle.std.specs.Prelude.{ℕ, List, [], ◌∷◌, ◌++◌, map, filter, codes, if◌then◌else◌, slice_get, unwrap_or, Option, Some, None}
use Rattle.std.specs.List.{list_all, flat_map}
use Rattle.std.specs.Option.{option_map_or}
use Rattle.std.specs.Fmt.{signed_decimal}
use Rattle.rl_value.specs.declared.value.Value.{Value}
use Rattle.rl_value.specs.declared.value.Value.TheVariants.{Null, Number, Text, Raw}
use Rattle.rl_value.specs.Literal.{hex, is_printed, quoted}
use Rattle.redo_vec.specs.declared.change.Change.{Change}
use Rattle.redo_vec.specs.declared.change.Op.{Op}
use Rattle.redo_vec.specs.declared.change.Op.TheVariants.{Insert, Update, Delete}
use Rattle.redo_vec.specs.declared.table.TableRow.{TableRow}
use Rattle.redo_spec.specs.Dictionary.{table_of}
use Rattle.redo_spec.specs.ChangeForm.{has_cell}
use Rattle.redo_spec.specs.ConflictKeys.{cell_of, is_null}

-- cells: columns, which rise, each with a value
abbrev pub CellList : Type 0
CellList = List (ℕ × Value)

-- ---- names

-- a name between double quotes
abbrev pub identifier : List ℕ → List ℕ
identifier name = 34 ∷ name ++ 34 ∷ []

-- "SCHEMA"."NAME"
abbrev pub table_identifier : TableRow → List ℕ
table_identifier t = identifier t.schema ++ 46 ∷ identifier t.name

abbrev pub column_name : TableRow → ℕ → List ℕ
column_name t column = option_map_or (λ c. c.name) (slice_get t.columns column) []

abbrev pub column_identifier : TableRow → ℕ → List ℕ
column_identifier t column = identifier (column_name t column)

-- ---- values

-- bytes by their digits
abbrev pub hex_to_raw : List ℕ → List ℕ
hex_to_raw bytes = codes "HEXTORAW('" ++ hex bytes ++ codes "')"

-- a text by its bytes
abbrev pub cast_to_text : List ℕ → List ℕ
cast_to_text bytes = codes "UTL_RAW.CAST_TO_VARCHAR2(" ++ hex_to_raw bytes ++ codes ")"

-- a text between quotes where all its bytes may be printed, and else by its bytes
abbrev pub text_expression : List ℕ → List ℕ
text_expression bytes = if list_all is_printed bytes then quoted bytes else cast_to_text bytes

abbrev pub expression : Value → List ℕ
expression Null = codes "NULL"
expression (Number z) = signed_decimal z
expression (Text bytes) = text_expression bytes
expression (Raw bytes) = hex_to_raw bytes

-- ---- lists of a statement

-- the text of each of these cells behind the text between
abbrev pub followed : List ℕ → (ℕ × Value → List ℕ) → CellList → List ℕ
followed between text cells = flat_map (λ cell. between ++ text cell) cells

-- the texts of these cells with a text between
abbrev pub joined : List ℕ → (ℕ × Value → List ℕ) → CellList → List ℕ
joined between text [] = []
joined between text (first ∷ more) = text first ++ followed between text more

-- a column is set to a value
abbrev pub assignment : TableRow → ℕ × Value → List ℕ
assignment t cell = column_identifier t cell.0 ++ codes " = " ++ expression cell.1

-- a column has a value
abbrev pub condition : TableRow → ℕ × Value → List ℕ
condition t cell = if is_null cell.1 then column_identifier t cell.0 ++ codes " IS NULL" else assignment t cell

abbrev pub column_text : TableRow → ℕ × Value → List ℕ
column_text t cell = column_identifier t cell.0

abbrev pub column_list : TableRow → CellList → List ℕ
column_list t cells = joined (codes ",") (column_text t) cells

abbrev pub value_list : CellList → List ℕ
value_list cells = joined (codes ",") (λ cell. expression cell.1) cells

abbrev pub assignments : TableRow → CellList → List ℕ
assignments t cells = joined (codes ", ") (assignment t) cells

abbrev pub conditions : TableRow → CellList → List ℕ
conditions t cells = joined (codes " and ") (condition t) cells

-- ---- statements

abbrev pub insert_head : TableRow → List ℕ
insert_head t = codes "insert into " ++ table_identifier t ++ codes "("

-- the table and its columns
abbrev pub insert_columns : TableRow → CellList → List ℕ
insert_columns t cells = insert_head t ++ column_list t cells

-- a row with these cells comes
abbrev pub insert_text : TableRow → CellList → List ℕ
insert_text t cells = insert_columns t cells ++ codes ") values (" ++ value_list cells ++ codes ");"

abbrev pub delete_head : TableRow → List ℕ
delete_head t = codes "delete from " ++ table_identifier t ++ codes " where "

-- the row with these cells goes
abbrev pub delete_text : TableRow → CellList → List ℕ
delete_text t cells = delete_head t ++ conditions t cells ++ codes ";"

abbrev pub update_head : TableRow → List ℕ
update_head t = codes "update " ++ table_identifier t ++ codes " set "

-- the table and what is set
abbrev pub update_set : TableRow → CellList → List ℕ
update_set t set = update_head t ++ assignments t set ++ codes " where "

-- the row with the second cells gets the first ones
abbrev pub update_text : TableRow → CellList → CellList → List ℕ
update_text t set found = update_set t set ++ conditions t found ++ codes ";"

-- ---- a change, and the change that takes it back

-- the old cells of the columns that are set
abbrev pub set_back : CellList → CellList → CellList
set_back old new = filter (λ cell. has_cell new cell.0) old

-- the cell with the value that its column has after the change
abbrev pub cell_after : CellList → ℕ × Value → ℕ × Value
cell_after new cell = (cell.0, unwrap_or (cell_of new cell.0) cell.1)

-- the old cells, with the values that their columns have after the change
abbrev pub found_after : CellList → CellList → CellList
found_after old new = map (cell_after new) old

abbrev pub redo_text : TableRow → Op → CellList → CellList → List ℕ
redo_text t Insert old new = insert_text t new
redo_text t Update old new = update_text t new old
redo_text t Delete old new = delete_text t old

abbrev pub undo_text : TableRow → Op → CellList → CellList → List ℕ
undo_text t Insert old new = delete_text t new
undo_text t Update old new = update_text t (set_back old new) (found_after old new)
undo_text t Delete old new = insert_text t old

-- the texts of a change of this table; of none there is no text
abbrev pub redo_of : Option TableRow → Change → List ℕ
redo_of None c = []
redo_of (Some t) c = redo_text t c.op c.old c.new

abbrev pub undo_of : Option TableRow → Change → List ℕ
undo_of None c = []
undo_of (Some t) c = undo_text t c.op c.old c.new

-- the SQL_REDO of a change by these tables
abbrev pub sql_redo : List TableRow → Change → List ℕ
sql_redo tables c = redo_of (table_of tables c.table) c

-- the SQL_UNDO of a change by these tables
abbrev pub sql_undo : List TableRow → Change → List ℕ
sql_undo tables c = undo_of (table_of tables c.table) c
