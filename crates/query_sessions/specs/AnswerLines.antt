-- The lines of an answer: the session's name, the SCN of the tables that gave it, and how many rows match.
--   ANSWER SESSION SCN COUNT     and behind it COUNT lines ROW VALUE .., in order of their primary keys
--   COUNT SESSION SCN COUNT
--   MANY SESSION SCN COUNT       where more rows match than may be answered
-- Words have one space between them. The spelling is this project's own.
use Rattle.std.specs.Prelude.{ℕ, List, [], ◌∷◌, map, length, codes, Option, Some, None}
use Rattle.std.specs.List.{flat_map}
use Rattle.std.specs.Fmt.{decimal}
use Rattle.rl_value.specs.declared.value.Value.{Value}
use Rattle.rl_value.specs.Literal.{row_text}
use Rattle.redo_spec.specs.Lines.{Line, words}
use Rattle.table_store.specs.declared.view.View.{View}
use Rattle.query_sessions.specs.declared.limits.TheConstants.{MAX_ROWS_DURING}
use Rattle.query_sessions.specs.declared.answer.Answer.{Answer}
use Rattle.query_sessions.specs.declared.answer.Answer.TheVariants.{Rows, Count, Many}
use Rattle.query_sessions.specs.declared.asks.Ask.{Ask}
use Rattle.query_sessions.specs.Answers.{answer_of}
use Rattle.query_sessions.specs.Asks.{Given}

abbrev pub head_line : List ℕ → List ℕ → ℕ → ℕ → Line
head_line word session scn count = words (word ∷ session ∷ decimal scn ∷ decimal count ∷ [])

abbrev pub row_line : List Value → Line
row_line row = words (codes "ROW" ∷ row_text row ∷ [])

-- the lines of rows
abbrev pub rows_lines : List ℕ → ℕ → List (List Value) → List Line
rows_lines session scn rows = head_line (codes "ANSWER") session scn (length rows) ∷ map row_line rows

-- the lines of an answer to the session of this name, given by tables of this SCN
abbrev pub answer_lines : List ℕ → ℕ → Answer → List Line
answer_lines session scn (Rows rows) = rows_lines session scn rows
answer_lines session scn (Count count) = head_line (codes "COUNT") session scn count ∷ []
answer_lines session scn (Many count) = head_line (codes "MANY") session scn count ∷ []

-- the lines of the answer that a query of this session has; without one there are none
abbrev pub given_lines : List ℕ → Option Given → List Line
given_lines session None = []
given_lines session (Some given) = answer_lines session given.0 given.2

-- the lines of the answers that these queries have, in the order of their statements
abbrev pub lines_of_asks : List Ask → List Line
lines_of_asks asks = flat_map (λ a. given_lines a.session a.answer) asks

-- the lines of these queries, where the tables of the view answer each of them
abbrev pub lines_by : View → List Ask → List Line
lines_by view asks =
    flat_map (λ a. answer_lines a.session view.scn (answer_of view.tables.tables a.query MAX_ROWS_DURING)) asks
