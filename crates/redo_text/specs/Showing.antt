-- A log as the text that is printed for it: its header, and each record with its vectors. Each line ends with LF.
use Rattle.std.specs.Prelude.{ℕ, List, [], ◌∷◌, ◌++◌, codes}
use Rattle.std.specs.Fmt.{decimal}
use Rattle.redo_vec.specs.declared.redo_rec.RedoRec.{RedoRec}
use Rattle.redo_vec.specs.declared.table.TableRow.{TableRow}
use Rattle.redo_vec.specs.declared.vector.Vector.{Vector}
use Rattle.redo_spec.specs.declared.header.Header.{Header}
use Rattle.redo_spec.specs.Log.{Log}
use Rattle.line_fields.specs.Known.{known_after}
use Rattle.redo_lines.specs.Printing.{line_of_vector}
use Rattle.line_fields.specs.Words.{joined, space}

-- a line as it is written
abbrev pub with_end : List ℕ → List ℕ
with_end line = line ++ 10 ∷ []

-- a keyword and a number
abbrev pub number_line : List ℕ → ℕ → List ℕ
number_line keyword n = joined space (keyword ∷ decimal n ∷ [])

-- the lines of the header
unfoldable pub heading_text : Header → List ℕ
heading_text h =
    with_end (number_line (codes "LOG") h.seq) ++ (with_end (number_line (codes "DBID") h.dbid)
    ++ (with_end (number_line (codes "FIRST") h.first) ++ with_end (number_line (codes "NEXT") h.next)))

-- the lines of vectors, where these tables are known
abbrev pub vectors_text : List TableRow → List Vector → List ℕ
vectors_text tables [] = []
vectors_text tables (v ∷ vs) = with_end (line_of_vector tables v) ++ vectors_text (known_after tables v) vs

-- the tables that are known behind them
abbrev pub known_behind : List TableRow → List Vector → List TableRow
known_behind tables [] = tables
known_behind tables (v ∷ vs) = known_behind (known_after tables v) vs

-- the lines of a record
unfoldable pub record_text : List TableRow → RedoRec → List ℕ
record_text tables r = with_end (number_line (codes "RECORD") r.scn) ++ vectors_text tables r.vectors

abbrev pub records_text : List TableRow → List RedoRec → List ℕ
records_text tables [] = []
records_text tables (r ∷ rs) = record_text tables r ++ records_text (known_behind tables r.vectors) rs

-- the text of a log
unfoldable pub text_of_log : Log → List ℕ
text_of_log l = heading_text l.head ++ records_text [] l.records
