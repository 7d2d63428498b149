-- Queries without an answer have the lines of the view that answers them.
use Rattle.std.proofs.Common.{◌≡◌, ℕ, List, [], ◌∷◌, ◌++◌, refl, true, Option, Some, None}
use Rattle.std.specs.Prelude.{IsTrue, is_none}
use Rattle.std.proofs.lemmas.Bool.{and_parts}
use Rattle.table_store.specs.declared.view.View.{View}
use Rattle.query_sessions.specs.declared.asks.Ask.{Ask}
use Rattle.query_sessions.specs.declared.limits.TheConstants.{MAX_ROWS_DURING}
use Rattle.query_sessions.specs.declared.query.Query.{Query}
use Rattle.query_sessions.specs.AnswerLines.{answer_lines, given_lines, lines_by, lines_of_asks}
use Rattle.query_sessions.specs.Answers.{answer_of}
use Rattle.query_sessions.specs.Asks.{Given, are_open, given_by, with_answers}

one : (view : View) (q : Query) (session : List ℕ) (answer : Option Given) → is_none answer ≡ true →
    given_lines session (given_by view q answer) ≡
    answer_lines session view.scn (answer_of view.tables.tables q MAX_ROWS_DURING)
one view q session None h = refl
one view q session (Some given) h = absurd (cc)

both : (a b c d : List (List ℕ)) → a ≡ b → c ≡ d → a ++ c ≡ b ++ d
both a b c d first second = λ i. first i ++ second i

pub open_lines : (view : View) (asks : List Ask) → IsTrue (are_open asks) →
    lines_of_asks (with_answers view asks) ≡ lines_by view asks
open_lines view [] h = refl
open_lines view (a ∷ asks) h =
    let parts = and_parts (is_none a.answer) (are_open asks) h in
    both (given_lines a.session (given_by view a.query a.answer))
    (answer_lines a.session view.scn (answer_of view.tables.tables a.query MAX_ROWS_DURING))
    (lines_of_asks (with_answers view asks)) (lines_by view asks)
    (one view a.query a.session a.answer parts.0) (open_lines view asks parts.1)
