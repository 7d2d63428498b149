-- What a line of a text says: a change vector, read from its words from left to right, with the first fault.
--   START xid, UNDO xid, COMMIT xid, ROLLBACK xid, DICTEND
--   INSERT xid table [OLD column=literal ..] [NEW column=literal ..], and so UPDATE and DELETE
--   TABLE id schema.name COLUMNS name:type[:size][:NULL] .. KEY column,column [UNIQUE column,column ..]
-- How a vector is printed: Printing.antt. That the two agree is the law of `src/laws.rt`.
use Rattle.std.specs.Prelude.{ℕ, List, [], ◌∷◌, ◌++◌, Bool, true, false, ◌==◌, if◌then◌else◌, Ok, Err, codes}
use Rattle.rl_value.specs.declared.value.Value.{Value}
use Rattle.rl_value.specs.declared.xid.Xid.{Xid}
use Rattle.rl_value.specs.Order.{same_bytes}
use Rattle.rl_value.specs.Outcome.{◌>>=◌}
use Rattle.rl_value.specs.Text.{are_cells}
use Rattle.redo_vec.specs.declared.change.Change.{Change}
use Rattle.redo_vec.specs.declared.change.Op.{Op}
use Rattle.redo_vec.specs.declared.change.Op.TheVariants.{Insert, Update, Delete}
use Rattle.redo_vec.specs.declared.columns.Column.{Column}
use Rattle.redo_vec.specs.declared.columns.Kind.{Kind}
use Rattle.redo_vec.specs.declared.columns.Kind.TheVariants as kinds
use Rattle.redo_vec.specs.declared.table.TableRow.{TableRow}
use Rattle.redo_vec.specs.declared.vector.Vector.{Vector}
use Rattle.redo_vec.specs.declared.vector.Vector.TheVariants as vectors
use Rattle.redo_vec.specs.Forms.{is_key_columns, are_keys}
use Rattle.redo_vec.specs.Columns.{are_columns}
use Rattle.line_fields.specs.declared.fault.LineFault.TheVariants as faults
use Rattle.line_fields.specs.Fields.{Said, if_so, number_said, xid_said, name_said, value_said}
use Rattle.line_fields.specs.Known.{table_said, columns_known, column_said}
use Rattle.line_fields.specs.Words.{split, space, dot, comma, colon, equals}

-- the words of a line
abbrev pub Line : Type 0
Line = List (List ℕ)

-- an item a word, up to one that stops, and the words from that one on
abbrev pub items_until : {A : Type 0} → (List ℕ → Bool) → (List ℕ → Said A) → Line → Said (List A × Line)
items_until stops item [] = Ok ([], [])
items_until stops item (w ∷ ws) =
    if stops w then Ok ([], w ∷ ws) else (do
      x ← item w
      more ← items_until stops item ws
      Ok (x ∷ more.0, more.1))

-- what was read before, and what is still read
abbrev pub with_front : {A : Type 0} → List A → Said (List A × Line) → Said (List A × Line)
with_front front (Ok x) = Ok (front ++ x.0, x.1)
with_front front (Err fault) = Err fault

-- no word stops
abbrev pub never : List ℕ → Bool
never w = false

-- a word is this keyword
abbrev pub is_new : List ℕ → Bool
is_new w = same_bytes w (codes "NEW")

abbrev pub is_key : List ℕ → Bool
is_key w = same_bytes w (codes "KEY")

-- nothing follows
abbrev pub at_end : {A : Type 0} → Line → A → Said A
at_end [] x = Ok x
at_end (w ∷ ws) x = Err faults.Words

-- ---- changes

unfoldable pub cell_of_parts : List Column → List (List ℕ) → Said (ℕ × Value)
cell_of_parts columns [] = Err faults.Words
cell_of_parts columns (column ∷ []) = Err faults.Words
cell_of_parts columns (column ∷ value ∷ []) = do
  c ← column_said columns column
  v ← value_said value
  Ok (c, v)
cell_of_parts columns (column ∷ value ∷ other ∷ parts) = Err faults.Words

unfoldable pub cell_said : List Column → List ℕ → Said (ℕ × Value)
cell_said columns word = cell_of_parts columns (split equals word)

-- cells, one at least, and columns that rise
abbrev pub cells_if_rising : List (ℕ × Value) → Line → Said (List (ℕ × Value) × Line)
cells_if_rising [] rest = Err faults.Words
cells_if_rising (c ∷ cs) rest = if_so (are_cells (c ∷ cs)) faults.Columns (c ∷ cs, rest)

unfoldable pub cells_said : List Column → Line → Said (List (ℕ × Value) × Line)
cells_said columns words = do
  cells ← items_until is_new (cell_said columns) words
  cells_if_rising cells.0 cells.1

-- the cells behind this keyword, or none where it is not there
unfoldable pub cells_behind : List ℕ → List Column → Line → Said (List (ℕ × Value) × Line)
cells_behind keyword columns [] = Ok ([], [])
cells_behind keyword columns (w ∷ ws) = if same_bytes w keyword then cells_said columns ws else Ok ([], w ∷ ws)

-- the cells of a change of this table
unfoldable pub change_of_cells : Op → Xid → ℕ → List Column → Line → Said Change
change_of_cells op xid table columns words = do
  old ← cells_behind (codes "OLD") columns words
  new ← cells_behind (codes "NEW") columns old.1
  at_end new.1 (record { xid = xid; op = op; table = table; old = old.0; new = new.0 })

unfoldable pub change_said : List TableRow → Op → Line → Said Change
change_said tables op [] = Err faults.Words
change_said tables op (xid ∷ []) = Err faults.Words
change_said tables op (xid ∷ table ∷ words) = do
  x ← xid_said xid
  t ← table_said tables table
  change_of_cells op x t (columns_known tables t) words

-- ---- tables

-- NULL, or nothing
unfoldable pub nullable_said : Line → Said Bool
nullable_said [] = Ok false
nullable_said (w ∷ ws) = if same_bytes w (codes "NULL") then at_end ws true else Err faults.Words

unfoldable pub size_said : List ℕ → Said ℕ
size_said word = do
  size ← number_said 500 word
  if size == 0 then Err faults.Number else Ok size

-- the size of a type that has one, and whether Null may stand
unfoldable pub sized_said : Line → Said (ℕ × Bool)
sized_said [] = Err faults.Words
sized_said (word ∷ parts) = do
  size ← size_said word
  nullable ← nullable_said parts
  Ok (size, nullable)

-- a type, and whether Null may stand
unfoldable pub kind_said : List ℕ → Line → Said (Kind × Bool)
kind_said word parts =
    if same_bytes word (codes "NUMBER") then (nullable_said parts >>= λ nullable. Ok (kinds.Number, nullable))
    else if same_bytes word (codes "TEXT") then (sized_said parts >>= λ sized. Ok (kinds.Text sized.0, sized.1))
    else if same_bytes word (codes "RAW") then (sized_said parts >>= λ sized. Ok (kinds.Raw sized.0, sized.1))
    else Err faults.Words

unfoldable pub column_of_parts : Line → Said Column
column_of_parts [] = Err faults.Words
column_of_parts (name ∷ []) = Err faults.Words
column_of_parts (name ∷ kind ∷ parts) = do
  n ← name_said name
  k ← kind_said kind parts
  Ok (record { name = n; kind = k.0; nullable = k.1 })

unfoldable pub column_line_said : List ℕ → Said Column
column_line_said word = column_of_parts (split colon word)

unfoldable pub columns_behind : Line → Said (List Column × Line)
columns_behind [] = Err faults.Words
columns_behind (w ∷ ws) =
    if same_bytes w (codes "COLUMNS") then (do
      columns ← items_until is_key column_line_said ws
      if_so (are_columns columns.0) faults.Columns columns)
    else Err faults.Words

-- the columns of a key, each by its name or its number
unfoldable pub key_said : List Column → List ℕ → Said (List ℕ)
key_said columns word = do
  key ← items_until never (column_said columns) (split comma word)
  if_so (is_key_columns key.0) faults.Columns key.0

-- the primary key, and unique keys, one at least
unfoldable pub uniques_said : List ℕ → List Column → Line → Said (List (List ℕ))
uniques_said primary columns [] = Err faults.Words
uniques_said primary columns (w ∷ ws) = do
  keys ← items_until never (key_said columns) (w ∷ ws)
  Ok (primary ∷ keys.0)

-- the primary key, and the unique keys where they follow
unfoldable pub keys_with : List ℕ → List Column → Line → Said (List (List ℕ))
keys_with primary columns [] = Ok (primary ∷ [])
keys_with primary columns (w ∷ ws) =
    if same_bytes w (codes "UNIQUE") then uniques_said primary columns ws else Err faults.Words

unfoldable pub keys_behind : List Column → Line → Said (List (List ℕ))
keys_behind columns [] = Err faults.Words
keys_behind columns (w ∷ []) = Err faults.Words
keys_behind columns (w ∷ primary ∷ words) =
    if is_key w then (do
      key ← key_said columns primary
      keys ← keys_with key columns words
      if_so (are_keys keys) faults.Columns keys)
    else Err faults.Words

-- the schema and the name
unfoldable pub names_of_parts : Line → Said (List ℕ × List ℕ)
names_of_parts [] = Err faults.Name
names_of_parts (schema ∷ []) = Err faults.Name
names_of_parts (schema ∷ name ∷ []) = do
  s ← name_said schema
  n ← name_said name
  Ok (s, n)
names_of_parts (schema ∷ name ∷ other ∷ parts) = Err faults.Name

unfoldable pub definition_said : Line → Said TableRow
definition_said [] = Err faults.Words
definition_said (id ∷ []) = Err faults.Words
definition_said (id ∷ names ∷ words) = do
  i ← number_said 4294967295 id
  n ← names_of_parts (split dot names)
  columns ← columns_behind words
  keys ← keys_behind columns.0 columns.1
  Ok (record { id = i; schema = n.0; name = n.1; columns = columns.0; keys = keys })

-- ---- vectors

abbrev pub of : {A : Type 0} → (A → Vector) → Said A → Said Vector
of make (Ok x) = Ok (make x)
of make (Err fault) = Err fault

-- one transaction id, and nothing behind it
unfoldable pub xid_alone : Line → Said Xid
xid_alone [] = Err faults.Words
xid_alone (word ∷ words) = xid_said word >>= λ x. at_end words x

-- behind the keyword of a transaction's begin, end or undo
abbrev pub vector_of_xid : (Xid → Vector) → Line → Said Vector
vector_of_xid make words = of make (xid_alone words)

unfoldable pub vector_of_words : List TableRow → List ℕ → Line → Said Vector
vector_of_words tables keyword words =
    if same_bytes keyword (codes "START") then vector_of_xid vectors.Start words
    else if same_bytes keyword (codes "INSERT") then of vectors.Change (change_said tables Insert words)
    else if same_bytes keyword (codes "UPDATE") then of vectors.Change (change_said tables Update words)
    else if same_bytes keyword (codes "DELETE") then of vectors.Change (change_said tables Delete words)
    else if same_bytes keyword (codes "UNDO") then vector_of_xid vectors.Undo words
    else if same_bytes keyword (codes "COMMIT") then vector_of_xid vectors.Commit words
    else if same_bytes keyword (codes "ROLLBACK") then vector_of_xid vectors.Rollback words
    else if same_bytes keyword (codes "TABLE") then of vectors.Table (definition_said words)
    else if same_bytes keyword (codes "DICTEND") then at_end words vectors.DictEnd
    else Err faults.Words

unfoldable pub vector_said : List TableRow → Line → Said Vector
vector_said tables [] = Err faults.Words
vector_said tables (keyword ∷ words) = vector_of_words tables keyword words

-- the vector that a line says, where these tables are known
abbrev pub vector_of_line : List TableRow → List ℕ → Said Vector
vector_of_line tables line = vector_said tables (split space line)
