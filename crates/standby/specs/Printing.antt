-- The printed text of a fold as the program puts it together: words behind spaces, and lines with their LF.
-- What is printed is that of the definitions (`Lines` of redo_spec), joined otherwise.
use Rattle.std.specs.Prelude.{ℕ, List, [], ◌∷◌, ◌++◌, length, Bool, if◌then◌else◌, codes}
use Rattle.std.specs.List.{flat_map}
use Rattle.std.specs.Fmt.{decimal}
use Rattle.rl_value.specs.declared.value.Value.{Value}
use Rattle.rl_value.specs.Literal.{row_text}
use Rattle.rl_value.specs.declared.verdict.Verdict.{Verdict}
use Rattle.redo_vec.specs.declared.table.TableRow.{TableRow}
use Rattle.redo_spec.specs.Skips.{full_name}
use Rattle.redo_spec.specs.Tables.{Rows, RowsById, rows_by}
use Rattle.redo_spec.specs.Lines.{words, end_line, verdict_text}

-- each word with a space before it
abbrev pub spaced_words : List (List ℕ) → List ℕ
spaced_words words = flat_map (λ word. 32 ∷ word) words

-- a line as it is written, with its LF
abbrev pub with_end : List ℕ → List ℕ
with_end line = line ++ 10 ∷ []

abbrev pub applied_text : ℕ → List ℕ
applied_text scn = with_end (words (codes "APPLIED_SCN" ∷ decimal scn ∷ []))

abbrev pub row_line : List Value → List ℕ
row_line row = with_end (words (codes "ROW" ∷ row_text row ∷ []))

abbrev pub table_line : TableRow → ℕ → List ℕ
table_line t count = with_end (words (codes "TABLE" ∷ full_name t ∷ decimal count ∷ []))

abbrev pub rows_text : Rows → List ℕ
rows_text rows = flat_map (λ r. row_line r.1) rows

-- a table with its rows
abbrev pub table_text : RowsById → TableRow → List ℕ
table_text by t = table_line t (length (rows_by by t.id)) ++ rows_text (rows_by by t.id)

-- the tables of the dictionary that are shown: none where it was not whole
abbrev pub definitions_shown : Bool → List TableRow → List TableRow
definitions_shown whole tables = if whole then tables else []

-- the words of the END line, joined word by word
abbrev pub end_words : List TableRow → ℕ → ℕ → Verdict → List ℕ
end_words tables scn n verdict = codes "END" ++ spaced_words (decimal scn ∷ decimal n ∷ verdict_text tables verdict)

abbrev pub end_text : List TableRow → ℕ → ℕ → Verdict → List ℕ
end_text tables scn n verdict = with_end (end_line tables scn n verdict)
