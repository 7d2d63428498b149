-- Queries that wait for a run.
-- A query is due at tables of its SCN or a later one, and at the end of the run in any case. It is answered once, by the tables
-- behind some commit, and the answer stands with that commit's SCN and count. This project's own.
use Rattle.std.specs.Prelude.{ℕ, List, [], ◌∷◌, map, Bool, true, ◌&&◌, nat_le, Option, Some, None, is_none}
use Rattle.table_store.specs.declared.view.View.{View}
use Rattle.query_sessions.specs.declared.limits.TheConstants.{MAX_ROWS_DURING}
use Rattle.query_sessions.specs.declared.query.Query.{Query}
use Rattle.query_sessions.specs.declared.answer.Answer.{Answer}
use Rattle.query_sessions.specs.declared.asks.Ask.{Ask}
use Rattle.query_sessions.specs.Answers.{answer_of}

-- an answer, with the SCN and the count of the tables that gave it
abbrev pub Given : Type 0
Given = ℕ × ℕ × Answer

-- the query is due at tables of this SCN
abbrev pub is_due : Ask → ℕ → Bool
is_due a scn = nat_le a.scn scn

-- the answer that a query has, or else the one of these tables
abbrev pub given_by : View → Query → Option Given → Option Given
given_by view q (Some given) = Some given
given_by view q None = Some (view.scn, view.n, answer_of view.tables.tables q MAX_ROWS_DURING)

-- a query with the answer that it has, or else with the one of these tables
abbrev pub with_answer : View → Ask → Ask
with_answer view a = record a { answer = given_by view a.query a.answer }

-- the same of each of these queries
abbrev pub with_answers : View → List Ask → List Ask
with_answers view asks = map (with_answer view) asks

-- none of these queries has an answer
abbrev pub are_open : List Ask → Bool
are_open [] = true
are_open (a ∷ asks) = is_none a.answer && are_open asks
