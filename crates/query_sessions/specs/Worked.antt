-- Worked examples: HR.EMP with two rows, what it is asked, and a query that waits. `src/worked.rt` states what they say as
-- theorems that hold by computing.
use Rattle.std.specs.Prelude.{ℕ, List, [], ◌∷◌, codes, Some, None}
use Rattle.rl_value.specs.declared.value.Value.TheVariants.{Null, Text}
use Rattle.redo_spec.specs.Lines.{Line}
use Rattle.redo_spec.specs.Tables.{Tables}
use Rattle.redo_spec.specs.Worked.{emp, n}
use Rattle.query_sessions.specs.declared.query.Form.{Form}
use Rattle.query_sessions.specs.declared.query.Form.TheVariants.{Count}
use Rattle.query_sessions.specs.declared.query.Query.{Query}
use Rattle.query_sessions.specs.declared.asks.Ask.{Ask}
use Rattle.query_sessions.specs.Answers.{answer_of}
use Rattle.query_sessions.specs.AnswerLines.{answer_lines}

-- HR.EMP with the rows 1 and 5
abbrev pub two_rows : Tables
two_rows = record {
  row = emp;
  rows = (n 1 ∷ [], n 1 ∷ Text (codes "N") ∷ Null ∷ []) ∷ (n 5 ∷ [], n 5 ∷ Text (codes "A") ∷ Null ∷ []) ∷ [];
} ∷ []

abbrev pub query_of : ℕ → Form → Query
query_of table form = record { table = table; form = form }

-- the lines of an answer with so many rows at most, to session S at SCN 104
abbrev pub lines_asked : ℕ → ℕ → Form → List Line
lines_asked most table form = answer_lines (codes "S") 104 (answer_of two_rows (query_of table form) most)

-- a query of session S at this line, from this SCN on, for the number of rows
abbrev pub ask_of : ℕ → ℕ → Ask
ask_of line scn = record {
  line = line;
  session = codes "S";
  floor = 0;
  scn = scn;
  query = query_of 1 Count;
  answer = None;
}

-- the same with the answer of those tables, behind commit 2 at SCN 104
abbrev pub answered_ask : ℕ → ℕ → Ask
answered_ask line scn = record (ask_of line scn) { answer = Some (104, 2, answer_of two_rows (query_of 1 Count) 4096) }
