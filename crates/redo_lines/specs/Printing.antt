-- A change vector as the words of a line. Tables and columns stand by their names where reading the name gives the number back.
use Rattle.std.specs.Prelude.{ℕ, List, [], ◌∷◌, ◌++◌, map, Bool, true, false, codes}
use Rattle.std.specs.Fmt.{decimal}
use Rattle.rl_value.specs.declared.value.Value.{Value}
use Rattle.rl_value.specs.Literal.{literal, xid_text}
use Rattle.redo_vec.specs.declared.change.Change.{Change}
use Rattle.redo_vec.specs.declared.change.Op.{Op}
use Rattle.redo_vec.specs.declared.change.Op.TheVariants.{Insert, Update, Delete}
use Rattle.redo_vec.specs.declared.columns.Column.{Column}
use Rattle.redo_vec.specs.declared.columns.Kind.{Kind}
use Rattle.redo_vec.specs.declared.columns.Kind.TheVariants as kinds
use Rattle.redo_vec.specs.declared.table.TableRow.{TableRow}
use Rattle.redo_vec.specs.declared.vector.Vector.{Vector}
use Rattle.redo_vec.specs.declared.vector.Vector.TheVariants as vectors
use Rattle.line_fields.specs.Fields.{name_word}
use Rattle.line_fields.specs.Known.{table_word, column_word, columns_known}
use Rattle.line_fields.specs.Words.{joined, space, dot, comma, colon, equals}

-- ---- changes

abbrev pub cell_word : List Column → ℕ × Value → List ℕ
cell_word columns (column, v) = joined equals (column_word columns column ∷ literal v ∷ [])

abbrev pub cell_words : List Column → List (ℕ × Value) → List (List ℕ)
cell_words columns cells = map (cell_word columns) cells

-- the keyword and the cells, or nothing where there is no cell
abbrev pub cells_words : List ℕ → List Column → List (ℕ × Value) → List (List ℕ)
cells_words keyword columns [] = []
cells_words keyword columns (c ∷ cs) = keyword ∷ cell_words columns (c ∷ cs)

abbrev pub op_word : Op → List ℕ
op_word Insert = codes "INSERT"
op_word Update = codes "UPDATE"
op_word Delete = codes "DELETE"

abbrev pub change_words : List TableRow → Change → List (List ℕ)
change_words tables c =
    let columns = columns_known tables c.table in
    op_word c.op ∷ xid_text c.xid ∷ table_word tables c.table
    ∷ (cells_words (codes "OLD") columns c.old ++ cells_words (codes "NEW") columns c.new)

-- ---- tables

abbrev pub kind_parts : Kind → List (List ℕ)
kind_parts kinds.Number = codes "NUMBER" ∷ []
kind_parts (kinds.Text size) = codes "TEXT" ∷ decimal size ∷ []
kind_parts (kinds.Raw size) = codes "RAW" ∷ decimal size ∷ []

abbrev pub nullable_parts : Bool → List (List ℕ)
nullable_parts true = codes "NULL" ∷ []
nullable_parts false = []

abbrev pub column_line : Column → List ℕ
column_line c = joined colon (name_word c.name ∷ (kind_parts c.kind ++ nullable_parts c.nullable))

abbrev pub column_lines : List Column → List (List ℕ)
column_lines columns = map column_line columns

abbrev pub key_word : List Column → List ℕ → List ℕ
key_word columns key = joined comma (map (column_word columns) key)

abbrev pub key_words : List Column → List (List ℕ) → List (List ℕ)
key_words columns keys = map (key_word columns) keys

abbrev pub uniques_words : List Column → List (List ℕ) → List (List ℕ)
uniques_words columns [] = []
uniques_words columns (k ∷ ks) = codes "UNIQUE" ∷ key_words columns (k ∷ ks)

abbrev pub keys_words : List Column → List (List ℕ) → List (List ℕ)
keys_words columns [] = []
keys_words columns (primary ∷ uniques) = codes "KEY" ∷ key_word columns primary ∷ uniques_words columns uniques

abbrev pub names_word : TableRow → List ℕ
names_word t = joined dot (name_word t.schema ∷ name_word t.name ∷ [])

abbrev pub definition_words : TableRow → List (List ℕ)
definition_words t =
    codes "TABLE" ∷ decimal t.id ∷ names_word t ∷ codes "COLUMNS" ∷ (column_lines t.columns ++ keys_words t.columns t.keys)

-- ---- vectors

abbrev pub vector_words : List TableRow → Vector → List (List ℕ)
vector_words tables (vectors.Start x) = codes "START" ∷ xid_text x ∷ []
vector_words tables (vectors.Change c) = change_words tables c
vector_words tables (vectors.Undo x) = codes "UNDO" ∷ xid_text x ∷ []
vector_words tables (vectors.Commit x) = codes "COMMIT" ∷ xid_text x ∷ []
vector_words tables (vectors.Rollback x) = codes "ROLLBACK" ∷ xid_text x ∷ []
vector_words tables (vectors.Table t) = definition_words t
vector_words tables vectors.DictEnd = codes "DICTEND" ∷ []

-- the line of a vector, where these tables are known
abbrev pub line_of_vector : List TableRow → Vector → List ℕ
line_of_vector tables v = joined space (vector_words tables v)
