-- The grammar: which statement a line is, if it is one. This project's own; docs/FORMATS.md, "Script".
--   CREATE dbid seq                              QUERY name [DURING scn] table form
--   ROW table value ..                           PUT name table value ..
--   REGISTER seq                                 APPLY preparers appliers [CACHE c] [EAGER e]
--   SKIP TABLE pattern                           REPLAY appliers [CACHE c] [EAGER e] event ..
--   SKIP TRANSACTION xid                         VIEW PROGRESS | LOG | STATE | SKIP | EVENTS
--   GUARD ALL | STANDBY                          MARK distance
--   SESSION name                                 GROUP count
--                                                CHECK
-- A form is ALL, COUNT or KEY value ..; a table is SCHEMA.NAME; `..` is one or more words.
-- A pattern is any one word here: whether it is a pattern is asked when the statement is done.
use Rattle.std.specs.Prelude.{ℕ, List, [], ◌∷◌, if◌then◌else◌, codes, Option, Some, None}
use Rattle.std.specs.Option.{option_map, option_and_then, option_zip}
use Rattle.rl_value.specs.Outcome.{is_empty}
use Rattle.rl_base.specs.Lines.{is_line}
use Rattle.rl_base.specs.declared.which.Which.{Which}
use Rattle.rl_base.specs.declared.which.Which.TheVariants.{Progress, Log, State, Skip, Events}
use Rattle.skip_guard.specs.declared.guard.Level.{Level}
use Rattle.skip_guard.specs.declared.guard.Level.TheVariants as levels
use Rattle.script_words.specs.Numbers.{number_in, of_32_bits, of_64_bits, sequence}
use Rattle.script_words.specs.Parts.{both, all_three, name_of, xid_of}
use Rattle.script_words.specs.Words.{words_of}
use Rattle.script.specs.declared.statement.TableName.{TableName}
use Rattle.script.specs.declared.statement.Asked.{Asked}
use Rattle.script.specs.declared.statement.Statement.{Statement}
use Rattle.script.specs.declared.statement.Statement.TheVariants.{Create, Row, Register, SkipTable, SkipTransaction, Guard, Session, Query, Put, Apply, Replay, View, Mark, Group, Check}
use Rattle.script.specs.Fields.{is, table_of, values_of, form_of}
use Rattle.script.specs.Events.{events_of}
use Rattle.script.specs.Settings.{Set, workers, settings_of}

-- the views by their words
abbrev pub view_of : List ℕ → Option Which
view_of word =
    if is (codes "PROGRESS") word then Some Progress
    else if is (codes "LOG") word then Some Log
    else if is (codes "STATE") word then Some State
    else if is (codes "SKIP") word then Some Skip
    else if is (codes "EVENTS") word then Some Events
    else None

-- the levels of the guard by their words
abbrev pub level_of : List ℕ → Option Level
level_of word = if is (codes "ALL") word then Some levels.All else if is (codes "STANDBY") word then Some levels.Standby else None

-- ---- the statements, each by the words behind its own

unfoldable pub create_of : List (List ℕ) → Option Statement
create_of (dbid ∷ seq ∷ []) = both Create (of_32_bits dbid) (sequence seq)
create_of other = None

unfoldable pub row_of : List (List ℕ) → Option Statement
row_of [] = None
row_of (table ∷ values) = both Row (table_of table) (values_of values)

unfoldable pub register_of : List (List ℕ) → Option Statement
register_of (seq ∷ []) = option_map Register (sequence seq)
register_of other = None

-- no word of a line has a line end in it
abbrev pub skip_table : List ℕ → Option Statement
skip_table pattern = if is_line pattern then Some (SkipTable pattern) else None

unfoldable pub skip_of : List (List ℕ) → Option Statement
skip_of (what ∷ which ∷ []) =
    if is (codes "TABLE") what then skip_table which
    else if is (codes "TRANSACTION") what then option_map SkipTransaction (xid_of which)
    else None
skip_of other = None

unfoldable pub guard_of : List (List ℕ) → Option Statement
guard_of (level ∷ []) = option_map Guard (level_of level)
guard_of other = None

unfoldable pub session_of : List (List ℕ) → Option Statement
session_of (name ∷ []) = option_map Session (name_of name)
session_of other = None

-- a query at once, or during a run
abbrev pub asking : Option ℕ → List ℕ → TableName → Asked → Statement
asking during session table form = Query session during table form

-- the session's query of a table, with its form behind it
unfoldable pub query_asked : List ℕ → Option ℕ → List (List ℕ) → Option Statement
query_asked session during [] = None
query_asked session during (table ∷ form) = all_three (asking during) (name_of session) (table_of table) (form_of form)

unfoldable pub query_during : List ℕ → List (List ℕ) → Option Statement
query_during session [] = None
query_during session (scn ∷ words) = option_and_then (λ n. query_asked session (Some n) words) (of_64_bits scn)

-- DURING is no table, so a line is at most one of the two
unfoldable pub query_with : List ℕ → List (List ℕ) → Option Statement
query_with session [] = None
query_with session (word ∷ words) =
    if is (codes "DURING") word then query_during session words else query_asked session None (word ∷ words)

unfoldable pub query_of : List (List ℕ) → Option Statement
query_of [] = None
query_of (session ∷ words) = query_with session words

unfoldable pub put_of : List (List ℕ) → Option Statement
put_of (session ∷ table ∷ values) = all_three Put (name_of session) (table_of table) (values_of values)
put_of other = None

-- an APPLY of these numbers, with no word behind its settings
abbrev pub apply_with : ℕ → ℕ → Set → Option Statement
apply_with preparers appliers s = if is_empty s.rest then Some (Apply preparers appliers s.cache s.eager) else None

unfoldable pub apply_of : List (List ℕ) → Option Statement
apply_of (preparers ∷ appliers ∷ words) =
    option_and_then
    (λ counts. option_and_then (apply_with counts.0 counts.1) (settings_of counts.1 words))
    (option_zip (workers preparers) (workers appliers))
apply_of other = None

-- a REPLAY of this number, with the events behind its settings
abbrev pub replay_with : ℕ → Set → Option Statement
replay_with appliers s = option_map (Replay appliers s.cache s.eager) (events_of s.rest)

unfoldable pub replay_of : List (List ℕ) → Option Statement
replay_of [] = None
replay_of (appliers ∷ words) =
    option_and_then (λ count. option_and_then (replay_with count) (settings_of count words)) (workers appliers)

unfoldable pub view_statement_of : List (List ℕ) → Option Statement
view_statement_of (which ∷ []) = option_map View (view_of which)
view_statement_of other = None

unfoldable pub mark_of : List (List ℕ) → Option Statement
mark_of (distance ∷ []) = option_map Mark (number_in 1 10000 distance)
mark_of other = None

unfoldable pub group_of : List (List ℕ) → Option Statement
group_of (count ∷ []) = option_map Group (number_in 1 64 count)
group_of other = None

unfoldable pub check_of : List (List ℕ) → Option Statement
check_of [] = Some Check
check_of (word ∷ words) = None

-- ---- a line

-- the statements of users, runs and views
unfoldable pub user_statement : List ℕ → List (List ℕ) → Option Statement
user_statement word words =
    if is (codes "SESSION") word then session_of words
    else if is (codes "QUERY") word then query_of words
    else if is (codes "PUT") word then put_of words
    else if is (codes "APPLY") word then apply_of words
    else if is (codes "REPLAY") word then replay_of words
    else if is (codes "VIEW") word then view_statement_of words
    else if is (codes "CHECK") word then check_of words
    else None

-- the statement of a first word with the words behind it
unfoldable pub statement_with : List ℕ → List (List ℕ) → Option Statement
statement_with word words =
    if is (codes "CREATE") word then create_of words
    else if is (codes "ROW") word then row_of words
    else if is (codes "REGISTER") word then register_of words
    else if is (codes "SKIP") word then skip_of words
    else if is (codes "GUARD") word then guard_of words
    else if is (codes "MARK") word then mark_of words
    else if is (codes "GROUP") word then group_of words
    else user_statement word words

unfoldable pub statement_of_words : List (List ℕ) → Option Statement
statement_of_words [] = None
statement_of_words (word ∷ words) = statement_with word words

-- the statement of a line, without its end
unfoldable pub statement_of : List ℕ → Option Statement
statement_of line = option_and_then statement_of_words (words_of line)
