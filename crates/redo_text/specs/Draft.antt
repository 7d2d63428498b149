-- A log as a text says it line by line. What becomes of the records that are whole is left open: a list of them gives the log
-- that the text says (Text.antt), and their spelling is what the program keeps.
use Rattle.std.specs.Prelude.{ℕ, ◌+◌, List, [], ◌∷◌, ◌++◌, length, Bool, true, ◌==◌, nat_le, nat_lt, if◌then◌else◌, Option, Some, None, Ok, Err, codes}
use Rattle.std.specs.List.{flat_map}
use Rattle.rl_value.specs.Order.{same_bytes}
use Rattle.rl_value.specs.Outcome.{◌>>=◌}
use Rattle.redo_vec.specs.declared.redo_rec.RedoRec.{RedoRec}
use Rattle.redo_vec.specs.declared.table.TableRow.{TableRow}
use Rattle.redo_vec.specs.declared.vector.Vector.{Vector}
use Rattle.redo_vec.specs.Spelling.{vector, record_bytes}
use Rattle.redo_spec.specs.declared.header.Header.{Header}
use Rattle.line_fields.specs.declared.fault.LineFault.TheVariants as faults
use Rattle.redo_text.specs.declared.heading.Heading.{Heading}
use Rattle.redo_text.specs.declared.heading.Begun.{Begun}
use Rattle.line_fields.specs.Fields.{Said}
use Rattle.redo_text.specs.Heading.{no_heading, heading_said, is_heading_word, scn_said, begun_after, number_there, header_said}
use Rattle.line_fields.specs.Known.{known_after}
use Rattle.redo_lines.specs.Reading.{Line, vector_of_words}
use Rattle.line_fields.specs.Words.{split, space}

-- the heading, how far the records have come, the tables that are known, the vectors of the last record, and what was made of
-- the records before it
pub record Draft (R : Type 0) : Type 0 where
  pub heading : Heading
  pub begun : Option Begun
  pub tables : List TableRow
  pub vectors : List Vector
  pub done : R

-- before the first line
abbrev pub beginning : {R : Type 0} → R → Draft R
beginning nothing = record { heading = no_heading; begun = None; tables = []; vectors = []; done = nothing }

-- a record is put behind the others; and so is its spelling
abbrev pub add_record : List RedoRec → RedoRec → List RedoRec
add_record records r = records ++ r ∷ []

abbrev pub add_bytes : List ℕ → RedoRec → List ℕ
add_bytes bytes r = bytes ++ record_bytes r

-- ---- the last record

-- the bytes of a record of these vectors
abbrev pub size_of : List Vector → ℕ
size_of vectors = 14 + length (flat_map vector vectors)

-- a record has a vector
abbrev pub with_record : {R : Type 0} → (R → RedoRec → R) → ℕ → List Vector → Draft R → Said (Draft R)
with_record add scn [] d = Err faults.Empty
with_record add scn (v ∷ vs) d = Ok (record d { vectors = []; done = add d.done (record { scn = scn; vectors = v ∷ vs }) })

abbrev pub closed_at : {R : Type 0} → (R → RedoRec → R) → Option Begun → Draft R → Said (Draft R)
closed_at add None d = Ok d
closed_at add (Some b) d = with_record add b.scn d.vectors d

-- the last record is whole, if there is one
unfoldable pub closed : {R : Type 0} → (R → RedoRec → R) → Draft R → Said (Draft R)
closed add d = closed_at add d.begun d

-- one vector more
unfoldable pub with_vector : {R : Type 0} → Draft R → Vector → Said (Draft R)
with_vector d v =
    if nat_le 255 (length d.vectors) then Err faults.Many
    else if nat_lt 65536 (size_of d.vectors + length (vector v)) then Err faults.Long
    else Ok (record d { tables = known_after d.tables v; vectors = d.vectors ++ v ∷ [] })

-- ---- lines

-- the words behind RECORD
unfoldable pub record_line : {R : Type 0} → (R → RedoRec → R) → Draft R → Line → Said (Draft R)
record_line add d words = do
  c ← closed add d
  dbid ← number_there c.heading.dbid
  scn ← scn_said c.heading c.begun words
  b ← begun_after c.begun scn
  Ok (record c { begun = Some b })

-- a line of the heading before the first record, and of a vector behind it
unfoldable pub other_line : {R : Type 0} → Option Begun → Draft R → List ℕ → Line → Said (Draft R)
other_line None d keyword words = heading_said d.heading keyword words >>= λ h. Ok (record d { heading = h })
other_line (Some b) d keyword words =
    if is_heading_word keyword then Err faults.Order else (vector_of_words d.tables keyword words >>= λ v. with_vector d v)

unfoldable pub line_of_words : {R : Type 0} → (R → RedoRec → R) → Draft R → Line → Said (Draft R)
line_of_words add d [] = Err faults.Words
line_of_words add d (keyword ∷ words) =
    if same_bytes keyword (codes "RECORD") then record_line add d words else other_line d.begun d keyword words

-- an empty line and one that begins with # say nothing
abbrev pub says_nothing : List ℕ → Bool
says_nothing [] = true
says_nothing (b ∷ bytes) = b == 35

-- the draft after a line
unfoldable pub line_taken : {R : Type 0} → (R → RedoRec → R) → Draft R → List ℕ → Said (Draft R)
line_taken add d line = if says_nothing line then Ok d else line_of_words add d (split space line)

-- ---- the end

abbrev pub finished_at : {R : Type 0} → (R → RedoRec → R) → Option Begun → Draft R → Said (Header × R)
finished_at add None d = Err faults.Empty
finished_at add (Some b) d = do
  c ← closed add d
  h ← header_said c.heading b
  Ok (h, c.done)

-- the header, and all records
unfoldable pub finished : {R : Type 0} → (R → RedoRec → R) → Draft R → Said (Header × R)
finished add d = finished_at add d.begun d
