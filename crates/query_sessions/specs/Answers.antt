-- What a query is answered over tables: which rows match it, and what is answered where at most so many rows may be.
-- The tables are those behind some commit. A table that is not maintained has its local rows there, and is asked like any other;
-- one that is not there has no row. This project's own.
use Rattle.std.specs.Prelude.{ℕ, List, map, length, nat_lt, if◌then◌else◌}
use Rattle.std.specs.Option.{option_to_list}
use Rattle.std.specs.FinMap.Entries as entries
use Rattle.rl_value.specs.declared.value.Value.{Value}
use Rattle.rl_value.specs.Order.{row_cmp}
use Rattle.redo_spec.specs.Tables.{Tables}
use Rattle.redo_spec.specs.Work.{rows_of}
use Rattle.query_sessions.specs.declared.query.Form.{Form}
use Rattle.query_sessions.specs.declared.query.Form.TheVariants as forms
use Rattle.query_sessions.specs.declared.query.Query.{Query}
use Rattle.query_sessions.specs.declared.answer.Answer.{Answer}
use Rattle.query_sessions.specs.declared.answer.Answer.TheVariants as answers

-- the rows of the table of this id, in order of their primary keys
abbrev pub rows_in : Tables → ℕ → List (List Value)
rows_in tables id = map (λ r. r.1) (rows_of tables id)

-- the row of the table at a primary key, or no row
abbrev pub row_of_key : Tables → ℕ → List Value → List (List Value)
row_of_key tables id key = option_to_list (entries.find row_cmp key (rows_of tables id))

-- the rows of the table that match a form
abbrev pub matching : Form → Tables → ℕ → List (List Value)
matching forms.All tables id = rows_in tables id
matching forms.Count tables id = rows_in tables id
matching (forms.Key key) tables id = row_of_key tables id key

-- these rows as an answer; their number, where more match than may be answered
abbrev pub rows_within : ℕ → List (List Value) → Answer
rows_within most rows = if nat_lt most (length rows) then answers.Many (length rows) else answers.Rows rows

-- so many rows as an answer, of which no more than these may be answered: their number, which says too where they are more
abbrev pub count_within : ℕ → ℕ → Answer
count_within most count = if nat_lt most count then answers.Many count else answers.Count count

-- the answer to a form that these rows match
abbrev pub answer_to : Form → ℕ → List (List Value) → Answer
answer_to forms.All most rows = rows_within most rows
answer_to forms.Count most rows = count_within most (length rows)
answer_to (forms.Key key) most rows = rows_within most rows

-- the answer of a query over these tables, where at most so many rows may be answered
abbrev pub answer_of : Tables → Query → ℕ → Answer
answer_of tables q most = answer_to q.form most (matching q.form tables q.table)
