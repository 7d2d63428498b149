-- What a statement prints, and what it leaves: each refusal in the order of its tests, then what is accepted.
-- All of it is determined but for a run. Refusals of calls that write are those of `standby_spec`, by their words, and what an
-- accepted one makes is its `state_after`. The tests and their order are this project's own; docs/FORMATS.md, "Script".
use Rattle.std.specs.Prelude.{ℕ, List, [], ◌∷◌, ◌++◌, filter, length, Bool, true, false, not, nat_lt, nat_le, codes, Option, Some, None, Result, Ok, Err, is_some, is_none, if◌then◌else◌}
use Rattle.std.specs.Option.{option_map_or, option_or, option_and_then}
use Rattle.std.specs.List.{flat_map}
use Rattle.std.specs.Fmt.{decimal}
use Rattle.rl_value.specs.declared.value.Value.{Value}
use Rattle.rl_value.specs.declared.verdict.Verdict.{Verdict}
use Rattle.rl_value.specs.Outcome.{first_fault}
use Rattle.rl_base.specs.declared.which.Which.{Which}
use Rattle.rl_base.specs.declared.which.Which.TheVariants as views
use Rattle.redo_vec.specs.declared.table.TableRow.{TableRow}
use Rattle.redo_spec.specs.ChangeForm.{is_row_of}
use Rattle.redo_spec.specs.Dictionary.{table_of, id_of}
use Rattle.redo_spec.specs.Fold.{Folded}
use Rattle.redo_spec.specs.Lines.{Line, words, head_word, end_line}
use Rattle.redo_spec.specs.Skips.{Rule, Tables as TablesOf, Skip, is_pattern, is_maintained, full_name}
use Rattle.redo_spec.specs.Tables.{Tables, definitions_of, row_count}
use Rattle.skip_guard.specs.declared.guard.Level.{Level}
use Rattle.skip_guard.specs.declared.guard.Level.TheVariants as levels
use Rattle.log_registry.specs.declared.entry.LogEntry.{LogEntry}
use Rattle.log_registry.specs.declared.fault.RegFault.{RegFault}
use Rattle.log_registry.specs.declared.fault.RegFault.TheVariants as looks
use Rattle.log_registry.specs.Registered.{answer_of_inspect, entry_of}
use Rattle.script.specs.declared.statement.Asked.{Asked}
use Rattle.script.specs.declared.statement.Asked.TheVariants as asked
use Rattle.script.specs.declared.statement.TableName.{TableName}
use Rattle.query_sessions.specs.declared.asks.Ask.{Ask}
use Rattle.query_sessions.specs.declared.query.Form.{Form}
use Rattle.query_sessions.specs.declared.query.Form.TheVariants as forms
use Rattle.query_sessions.specs.declared.query.Query.{Query}
use Rattle.query_sessions.specs.declared.limits.TheConstants.{MAX_ROWS_AT_ONCE, MAX_ROWS_DURING}
use Rattle.query_sessions.specs.Answers.{answer_of}
use Rattle.query_sessions.specs.KeyForm.{is_key_of}
use Rattle.query_sessions.specs.AnswerLines.{answer_lines}
use Rattle.standby_spec.specs.KeptState.{KeptState}
use Rattle.standby_spec.specs.StandbyRedo.{Archived}
use Rattle.standby_spec.specs.Writings.{Writing, AddLog, AddSkip, SetLevel, PutRow, state_after}
use Rattle.standby_spec.specs.Refusals.{Refusal, Exists, Taken, RowLimit, RowLimitAfter, Twice, Limit, NotNext, Early, base_refusal, local_refusal, skip_refusal, log_refusal}
use Rattle.run_spec.specs.Again.{folded_again}
use Rattle.run_spec.specs.Created.{created_by}
use Rattle.view_lines.specs.Views.{numbered, rule_words, level_word, view_lines}
use Rattle.script_spec.specs.ScriptState.{ScriptState, RunEnded, ByVerdict, with_kept, rebased, base_or, with_base, with_event_line, has_session, with_session, answered_at, floor_in, last_word}

-- The lines of a statement, what it leaves, and whether it commits to the durable store.
pub record Said : Type 0 where
  pub lines : List Line
  pub state : ScriptState
  pub commits : Bool

abbrev pub says : List Line → ScriptState → Said
says lines s = record { lines = lines; state = s; commits = false }

abbrev pub commits_and_says : List Line → ScriptState → Said
commits_and_says lines s = record { lines = lines; state = s; commits = true }

-- ---- refusals

-- a refusal by its words
abbrev pub Words : Type 0
Words = List (List ℕ)

abbrev pub one : List ℕ → Words
one word = word ∷ []

-- a refusal is printed and changes nothing
abbrev pub refused : Words → ScriptState → Said
refused ws s = says (words (codes "REFUSED" ∷ ws) ∷ []) s

abbrev pub unless_refused : Option Words → ScriptState → Said → Said
unless_refused (Some ws) s accepted = refused ws s
unless_refused None s accepted = accepted

-- the word of a call's refusal; a statement never meets the last three
abbrev pub refusal_word : Refusal → List ℕ
refusal_word Exists = codes "EXISTS"
refusal_word Taken = codes "TAKEN"
refusal_word RowLimit = codes "ROWLIMIT"
refusal_word Twice = codes "TWICE"
refusal_word Limit = codes "LIMIT"
refusal_word (RowLimitAfter count) = codes "ROWLIMIT"
refusal_word (NotNext n) = codes "NOTNEXT"
refusal_word (Early n) = codes "EARLY"

abbrev pub call_refusal : Option Refusal → Option Words
call_refusal None = None
call_refusal (Some r) = Some (one (refusal_word r))

-- the standby has to be created
abbrev pub if_created : ScriptState → (KeptState → Said) → Option KeptState → Said
if_created s next None = refused (one (codes "NOTCREATED")) s
if_created s next (Some k) = next k

abbrev pub ok : ScriptState → Said
ok s = says (codes "OK" ∷ []) s

-- it is accepted, and makes this of the standby
abbrev pub ok_written : Writing → ScriptState → KeptState → Said
ok_written w s k = commits_and_says (codes "OK" ∷ []) (with_kept (state_after w k) s)

-- the same, and it is an event of this line
abbrev pub ok_noted : Line → Writing → ScriptState → KeptState → Said
ok_noted line w s k = commits_and_says (codes "OK" ∷ []) (with_event_line line (with_kept (state_after w k) s))

-- ---- logs

abbrev pub look_refusal : RegFault → Words
look_refusal looks.NoLog = one (codes "NOLOG")
look_refusal (looks.BadHeader fault) = codes "BADHEADER" ∷ head_word fault ∷ []
look_refusal looks.WrongDb = one (codes "WRONGDB")
look_refusal looks.ArchiveFault = []

-- what a look at a log tells, or its refusal
abbrev pub if_found : ScriptState → (LogEntry → Said) → Result LogEntry RegFault → Said
if_found s next (Err fault) = refused (look_refusal fault) s
if_found s next (Ok entry) = next entry

abbrev pub says_created : ScriptState → KeptState → Said
says_created s k =
    let line = numbered (codes "CREATED") k.base in commits_and_says (line ∷ []) (with_event_line line (rebased k s))

abbrev pub create : Archived → ℕ → ℕ → ScriptState → Option KeptState → Said
create logs dbid seq s (Some k) = refused (one (codes "TWICE")) s
create logs dbid seq s None = if_found s (λ entry. says_created s (created_by logs entry)) (answer_of_inspect seq dbid (logs seq))

abbrev pub register_refusal : ℕ → KeptState → Option Words
register_refusal seq k = option_or (first_fault (
    (nat_lt seq k.first, one (codes "BEFORE"))
    ∷ (is_some (entry_of seq k.logs), one (codes "TWICE"))
    ∷ []))
    (call_refusal (log_refusal k))

abbrev pub register_found : ℕ → ScriptState → KeptState → LogEntry → Said
register_found seq s k entry = ok_noted (numbered (codes "REGISTER") seq) (AddLog entry) s k

abbrev pub register : Archived → ℕ → ScriptState → KeptState → Said
register logs seq s k =
    unless_refused (register_refusal seq k) s
    (if_found s (register_found seq s k) (answer_of_inspect seq k.dbid (logs seq)))

-- ---- rows

-- the id of the table of these names
abbrev pub id_named : KeptState → TableName → Option ℕ
id_named k name = id_of (definitions_of k.tables) name.schema name.name

-- how the table of an id is defined, where there is one
abbrev pub definition_in : KeptState → Option ℕ → Option TableRow
definition_in k id = option_and_then (table_of (definitions_of k.tables)) id

-- a test of the table, where it is there
abbrev pub in_table : (TableRow → Bool) → Option TableRow → Bool
in_table test None = false
in_table test (Some t) = test t

-- the most values of a row
abbrev pub value_limit : ℕ
value_limit = 32

-- it may not be a row of the table; one of more than 32 values never is
abbrev pub is_bad_row : List Value → TableRow → Bool
is_bad_row row t = if nat_lt value_limit (length row) then true else not (is_row_of t.columns row)

abbrev pub id_or_0 : Option TableRow → ℕ
id_or_0 t = option_map_or (λ found. found.id) t 0

abbrev pub is_started : KeptState → Bool
is_started k = if nat_lt 0 k.n then true else is_some k.mark

abbrev pub row_refusal : KeptState → List Value → Option TableRow → Option Words
row_refusal k row t = option_or (first_fault (
    (is_started k, one (codes "STARTED"))
    ∷ (is_none t, one (codes "NOTABLE"))
    ∷ (in_table (is_bad_row row) t, one (codes "BADROW"))
    ∷ []))
    (call_refusal (base_refusal k (id_or_0 t) row))

-- it makes a new base
abbrev pub row_put : List Value → ScriptState → KeptState → Option TableRow → Said
row_put row s k t = commits_and_says (codes "OK" ∷ []) (rebased (state_after (PutRow (id_or_0 t) row) k) s)

abbrev pub row_in : List Value → ScriptState → KeptState → Option TableRow → Said
row_in row s k t = unless_refused (row_refusal k row t) s (row_put row s k t)

-- ---- skip rules and the guard

abbrev pub pattern_refusal : List ℕ → Option Words
pattern_refusal pattern = first_fault ((not (is_pattern pattern), one (codes "BADPATTERN")) ∷ [])

abbrev pub rule_added : Rule → ScriptState → KeptState → Said
rule_added rule s k = ok_noted (words (rule_words rule)) (AddSkip rule) s k

abbrev pub skip_table : List ℕ → ScriptState → KeptState → Said
skip_table pattern s k =
    unless_refused (option_or (pattern_refusal pattern) (call_refusal (skip_refusal k (TablesOf pattern)))) s
    (rule_added (TablesOf pattern) s k)

abbrev pub skip_rule : Rule → ScriptState → KeptState → Said
skip_rule rule s k = unless_refused (call_refusal (skip_refusal k rule)) s (rule_added rule s k)

abbrev pub guard : Level → ScriptState → KeptState → Said
guard level s k = ok_noted (words (codes "GUARD" ∷ level_word level ∷ [])) (SetLevel level) s k

-- ---- sessions and queries

-- the most sessions, and the most queries that wait
abbrev pub session_limit : ℕ
session_limit = 8

abbrev pub ask_limit : ℕ
ask_limit = 64

abbrev pub session_refusal : List ℕ → ScriptState → Option Words
session_refusal name s = first_fault (
    (has_session name s, one (codes "TWICE"))
    ∷ (nat_le session_limit (length s.sessions), one (codes "LIMIT"))
    ∷ [])

abbrev pub session : List ℕ → ScriptState → Said
session name s = unless_refused (session_refusal name s) s (ok (with_session name s))

-- the form of a query as the table is asked
abbrev pub form_asked : Asked → Form
form_asked asked.All = forms.All
form_asked asked.Count = forms.Count
form_asked (asked.Key values) = forms.Key values

-- the values are not those of the table's primary key; more than 32 values never are
abbrev pub is_no_key : List Value → TableRow → Bool
is_no_key values t = if nat_lt value_limit (length values) then true else not (is_key_of t values)

-- a key that is asked for is none of the table
abbrev pub is_bad_key : Asked → TableRow → Bool
is_bad_key asked.All t = false
is_bad_key asked.Count t = false
is_bad_key (asked.Key values) t = is_no_key values t

abbrev pub query_refusal : List ℕ → Asked → ScriptState → Option TableRow → Option Words
query_refusal name form s t = first_fault (
    (not (has_session name s), one (codes "NOSESSION"))
    ∷ (is_none t, one (codes "NOTABLE"))
    ∷ (in_table (is_bad_key form) t, one (codes "BADKEY"))
    ∷ [])

abbrev pub query_on : Asked → Option TableRow → Query
query_on form t = record { table = id_or_0 t; form = form_asked form }

-- a query at once: its answer is that of the visible tables, at their SCN
abbrev pub answer : List ℕ → Query → ScriptState → KeptState → Said
answer name q s k = says (answer_lines name k.scn (answer_of k.tables q MAX_ROWS_AT_ONCE)) (answered_at name k.n s)

abbrev pub query_at_once : List ℕ → Asked → ScriptState → KeptState → Option TableRow → Said
query_at_once name form s k t = unless_refused (query_refusal name form s t) s (answer name (query_on form t) s k)

abbrev pub ask_refusal : ScriptState → Option Words
ask_refusal s = first_fault ((nat_le ask_limit (length s.asks), one (codes "LIMIT")) ∷ [])

abbrev pub ask_of : ℕ → List ℕ → ℕ → ℕ → Query → Ask
ask_of line name floor scn q = record {
  line = line;
  session = name;
  floor = floor;
  scn = scn;
  query = q;
  answer = None;
}

abbrev pub with_ask : Ask → ScriptState → ScriptState
with_ask a s = record s { asks = s.asks ++ a ∷ [] }

abbrev pub query_during : ℕ → List ℕ → ℕ → Asked → ScriptState → Option TableRow → Said
query_during line name scn form s t =
    unless_refused (option_or (query_refusal name form s t) (ask_refusal s)) s
    (ok (with_ask (ask_of line name (floor_in name s.sessions) scn (query_on form t)) s))

abbrev pub query : ℕ → List ℕ → Option ℕ → Asked → ScriptState → KeptState → Option TableRow → Said
query line name None form s k t = query_at_once name form s k t
query line name (Some scn) form s k t = query_during line name scn form s t

-- ---- writes of users

-- users may not write the table
abbrev pub guards : Level → Bool → Bool
guards levels.All maintained = true
guards levels.Standby maintained = maintained

abbrev pub is_guarded : KeptState → TableRow → Bool
is_guarded k t = guards k.level (is_maintained k.skips k.n t)

abbrev pub name_or_none : Option TableRow → List ℕ
name_or_none t = option_map_or full_name t []

abbrev pub put_refusal : List ℕ → List Value → ScriptState → KeptState → Option TableRow → Option Words
put_refusal name row s k t = option_or (first_fault (
    (not (has_session name s), one (codes "NOSESSION"))
    ∷ (is_none t, one (codes "NOTABLE"))
    ∷ (in_table (is_bad_row row) t, one (codes "BADROW"))
    ∷ (in_table (is_guarded k) t, codes "GUARDED" ∷ level_word k.level ∷ name_or_none t ∷ [])
    ∷ []))
    (call_refusal (local_refusal k (id_or_0 t) row))

abbrev pub put : List ℕ → List Value → ScriptState → KeptState → Option TableRow → Said
put name row s k t = unless_refused (put_refusal name row s k t) s (ok_written (PutRow (id_or_0 t) row) s k)

-- ---- views and CHECK

abbrev pub view : Which → ScriptState → Said
view which s = says (view_lines s.kept which (last_word s.last) s.events) s

-- the events are shown without a standby too
abbrev pub view_of : Which → ScriptState → Said
view_of views.Events s = view views.Events s
view_of views.Progress s = if_created s (λ k. view views.Progress s) s.kept
view_of views.Log s = if_created s (λ k. view views.Log s) s.kept
view_of views.State s = if_created s (λ k. view views.State s) s.kept
view_of views.Skip s = if_created s (λ k. view views.Skip s) s.kept

-- how many rows the maintained tables have
abbrev pub maintained_count : List Skip → ℕ → Tables → ℕ
maintained_count skips n tables = row_count (filter (λ t. is_maintained skips n t.row) tables)

-- a fold's count, its SCN, and the rows of its maintained tables
abbrev pub count_line : List Skip → Folded → Line
count_line skips f = words (codes "CHECK" ∷ decimal f.n ∷ decimal f.scn ∷ decimal (maintained_count skips f.n f.tables) ∷ [])

abbrev pub check : Archived → ScriptState → KeptState → Said
check logs s k = says (count_line k.skips (folded_again logs (base_or k s.base) k) ∷ []) s

-- ---- the end of a run

-- the lines of the queries that waited, in the order of their statements: of the tables as the run left them
abbrev pub ask_lines : List Ask → KeptState → List Line
ask_lines asks k = flat_map (λ a. answer_lines a.session k.scn (answer_of k.tables a.query MAX_ROWS_DURING)) asks

-- their sessions were answered at this count
abbrev pub all_answered : List Ask → ℕ → ScriptState → ScriptState
all_answered [] n s = s
all_answered (a ∷ asks) n s = all_answered asks n (answered_at a.session n s)

abbrev pub with_end : RunEnded → Line → KeptState → ScriptState → ScriptState
with_end ended line k s =
    with_event_line line (with_kept k (all_answered s.asks k.n (record s { asks = []; last = Some ended })))

-- a run from one state that left another and ended so, its verdict with the names of these definitions
abbrev pub run_said : List TableRow → Verdict → KeptState → KeptState → ScriptState → Said
run_said names verdict old k s =
    let line = end_line names k.scn k.n verdict in
    commits_and_says (line ∷ ask_lines s.asks k) (with_end (ByVerdict verdict) line k (with_base old s))
