-- The contents of a log: one line for each vector but those of the dictionary.
--   SCN REC.VEC XID START, COMMIT or ROLLBACK
--   SCN REC.VEC XID UNDO REC.VEC                                  with the position of the change that is taken back
--   SCN REC.VEC XID INSERT, UPDATE or DELETE SCHEMA.NAME SQL_REDO | SQL_UNDO
-- After the rows of V$LOGMNR_CONTENTS (Database Utilities, LogMiner); the spelling is this project's own.
use Rattle.std.specs.Prelude.{ℕ, List, [], ◌∷◌, ◌++◌, codes, Option, Some, None}
use Rattle.std.specs.Option.{option_map_or}
use Rattle.std.specs.Fmt.{decimal}
use Rattle.rl_value.specs.declared.pos.Pos.{Pos}
use Rattle.rl_value.specs.declared.xid.Xid.{Xid}
use Rattle.rl_value.specs.Literal.{xid_text}
use Rattle.redo_vec.specs.declared.change.Op.{Op}
use Rattle.redo_vec.specs.declared.change.Op.TheVariants.{Insert, Update, Delete}
use Rattle.redo_vec.specs.declared.change.Change.{Change}
use Rattle.redo_vec.specs.declared.table.TableRow.{TableRow}
use Rattle.redo_vec.specs.declared.vector.Vector.{Vector}
use Rattle.redo_vec.specs.declared.vector.Vector.TheVariants.{Start, Change as OfChange, Undo, Commit, Rollback, Table, DictEnd}
use Rattle.redo_spec.specs.History.{Placed}
use Rattle.redo_spec.specs.Lines.{Line, words, pos_text, table_name}
use Rattle.sql_text.specs.SqlText.{redo_text, undo_text, sql_redo, sql_undo}

-- the first three words of each line: the SCN of the vector's record, its position and its transaction
abbrev pub lead : ℕ → Pos → Xid → List (List ℕ)
lead scn at x = decimal scn ∷ pos_text at ∷ xid_text x ∷ []

-- a line of these three and one word
abbrev pub word_line : List ℕ → ℕ → Pos → Xid → Line
word_line word scn at x = words (lead scn at x ++ word ∷ [])

abbrev pub op_word : Op → List ℕ
op_word Insert = codes "INSERT"
op_word Update = codes "UPDATE"
op_word Delete = codes "DELETE"

-- the table and both texts of a change
abbrev pub texts_by : List TableRow → Change → List (List ℕ)
texts_by tables c = table_name tables c.table ∷ sql_redo tables c ∷ codes "|" ∷ sql_undo tables c ∷ []

-- both texts of a change of this table
abbrev pub texts_of : TableRow → Change → List (List ℕ)
texts_of t c = redo_text t c.op c.old c.new ∷ codes "|" ∷ undo_text t c.op c.old c.new ∷ []

-- the words of a change behind its position and its transaction
abbrev pub change_words : List TableRow → Change → List (List ℕ)
change_words tables c = op_word c.op ∷ texts_by tables c

-- the line of a change at its position
abbrev pub change_line : List TableRow → ℕ → Placed → Line
change_line tables scn (at, c) = words (lead scn at c.xid ++ change_words tables c)

-- the line of an UNDO, and the position that it takes back
abbrev pub undo_line : ℕ → Pos → Xid → Option Pos → Line
undo_line scn at x taken = words (lead scn at x ++ codes "UNDO" ∷ option_map_or pos_text taken [] ∷ [])

-- the line of a vector at a position in a record of this SCN; none of TABLE and DICTEND
abbrev pub vector_line : List TableRow → ℕ → Pos → Option Pos → Vector → Option Line
vector_line tables scn at taken (Start x) = Some (word_line (codes "START") scn at x)
vector_line tables scn at taken (OfChange c) = Some (change_line tables scn (at, c))
vector_line tables scn at taken (Undo x) = Some (undo_line scn at x taken)
vector_line tables scn at taken (Commit x) = Some (word_line (codes "COMMIT") scn at x)
vector_line tables scn at taken (Rollback x) = Some (word_line (codes "ROLLBACK") scn at x)
vector_line tables scn at taken (Table t) = None
vector_line tables scn at taken DictEnd = None
