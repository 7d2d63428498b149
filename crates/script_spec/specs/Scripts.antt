-- A script from its bytes to its printed lines, where each run ends exactly as its fold and, behind an apply conflict or the row
-- limit, leaves the mark as it was. Says has what else a run may print and keep.
use Rattle.std.specs.Prelude.{ℕ, List, [], ◌∷◌, ◌++◌, Bool, true, false, not, if◌then◌else◌, Option, Some, None, Result, Ok, Err}
use Rattle.std.specs.Option.{option_map, option_map_or, option_or}
use Rattle.std.specs.List.{list_any, list_all}
use Rattle.rl_value.specs.declared.verdict.Verdict.{Verdict}
use Rattle.rl_value.specs.declared.verdict.Verdict.TheVariants.{Stopped, Mismatch, RowLimit}
use Rattle.rl_value.specs.declared.verdict.Stop.{Stop}
use Rattle.rl_value.specs.declared.verdict.Stop.TheVariants.{Drained, Gap, Malformed}
use Rattle.rl_base.specs.Replay.{is_drain}
use Rattle.rl_base.specs.declared.status.Status.{Status}
use Rattle.rl_base.specs.declared.status.Status.TheVariants as statuses
use Rattle.redo_spec.specs.Fold.{Folded}
use Rattle.redo_spec.specs.Lines.{Line}
use Rattle.redo_spec.specs.Skips.{Transaction}
use Rattle.script.specs.declared.statement.Statement.{Statement}
use Rattle.script.specs.declared.statement.Statement.TheVariants as statements
use Rattle.script.specs.Lines.{script_of}
use Rattle.standby_spec.specs.declared.mark.Mark.{Mark}
use Rattle.standby_spec.specs.KeptState.{KeptState}
use Rattle.standby_spec.specs.StandbyRedo.{Archived}
use Rattle.run_spec.specs.RunEnd.{run_fold, left_by, end_mark}
use Rattle.script_spec.specs.ScriptState.{ScriptState, RunEnded, ByVerdict, Left, loaded_state}
use Rattle.script_spec.specs.Statements.{Said, says, ok, if_created, create, register, id_named, definition_in, row_in, skip_table, skip_rule, guard, session, query, put, view_of, check, run_said}

-- a statement, behind the number of its line
abbrev pub Numbered : Type 0
Numbered = ℕ × Statement

-- ---- a statement

-- the mark that is kept where the fold itself is the run
abbrev pub plain_mark : Archived → KeptState → Verdict → Option Mark
plain_mark logs k (Stopped stop) = Some (end_mark logs k)
plain_mark logs k (Mismatch scn pos table miss) = k.mark
plain_mark logs k (RowLimit scn) = k.mark

abbrev pub plain_run_of : Archived → Folded → ScriptState → KeptState → Said
plain_run_of logs f s k = run_said f.names f.verdict k (left_by f (plain_mark logs k f.verdict) k) s

-- a run that ends exactly as its fold
abbrev pub plain_run : Archived → ScriptState → KeptState → Said
plain_run logs s k = plain_run_of logs (run_fold logs k) s k

-- what the statement at this line prints, and what it leaves
abbrev pub said_of : Archived → ℕ → Statement → ScriptState → Said
said_of logs line (statements.Create dbid seq) s = create logs dbid seq s s.kept
said_of logs line (statements.Row table values) s =
    if_created s (λ k. row_in values s k (definition_in k (id_named k table))) s.kept
said_of logs line (statements.Register seq) s = if_created s (register logs seq s) s.kept
said_of logs line (statements.SkipTable pattern) s = if_created s (skip_table pattern s) s.kept
said_of logs line (statements.SkipTransaction x) s = if_created s (skip_rule (Transaction x) s) s.kept
said_of logs line (statements.Guard level) s = if_created s (guard level s) s.kept
said_of logs line (statements.Session name) s = session name s
said_of logs line (statements.Query name during table form) s =
    if_created s (λ k. query line name during form s k (definition_in k (id_named k table))) s.kept
said_of logs line (statements.Put name table values) s =
    if_created s (λ k. put name values s k (definition_in k (id_named k table))) s.kept
said_of logs line (statements.Apply preparers appliers cache eager) s = if_created s (plain_run logs s) s.kept
said_of logs line (statements.Replay appliers cache eager events) s = if_created s (plain_run logs s) s.kept
said_of logs line (statements.View which) s = view_of which s
said_of logs line (statements.Mark distance) s = ok (record s { distance = distance })
said_of logs line (statements.Group count) s = ok (record s { group = count })
said_of logs line statements.Check s = if_created s (check logs s) s.kept

-- what is said first, and then
abbrev pub said_both : Said → Said → Said
said_both first rest = record { lines = first.lines ++ rest.lines; state = rest.state; commits = rest.commits }

-- what these statements print, one after another
abbrev pub all_said : Archived → List Numbered → ScriptState → Said
all_said logs [] s = says [] s
all_said logs ((line, statement) ∷ more) s =
    let first = said_of logs line statement s in said_both first (all_said logs more first.state)

-- ---- what a script asks for

-- an APPLY, which wants threads
abbrev pub wants_threads : Statement → Bool
wants_threads (statements.Apply preparers appliers cache eager) = true
wants_threads other = false

-- the line of the first APPLY
abbrev pub threads_line : List Numbered → Option ℕ
threads_line [] = None
threads_line ((line, s) ∷ more) = if wants_threads s then Some line else threads_line more

-- a REPLAY with an event that is not built yet
abbrev pub is_unbuilt : Statement → Bool
is_unbuilt (statements.Replay appliers cache eager events) = not (list_all (λ e. is_drain e.0) events)
is_unbuilt other = false

abbrev pub has_unbuilt : List Numbered → Bool
has_unbuilt script = list_any (λ item. is_unbuilt item.1) script

abbrev pub if_unbuilt : Bool → Option Status
if_unbuilt true = Some statuses.NotBuilt
if_unbuilt false = None

-- the first thing that stands against a script's statements before any is done
abbrev pub against_statements : List Numbered → Option Status
against_statements script = option_or (option_map statuses.NeedsThreads (threads_line script)) (if_unbuilt (has_unbuilt script))

abbrev pub against_read : Result (List Numbered) ℕ → Option Status
against_read (Err line) = Some (statuses.BadStatement line)
against_read (Ok script) = against_statements script

-- the first thing that stands against a script, by its bytes
abbrev pub against_script : List ℕ → Option Status
against_script input = against_read (script_of input)

-- ---- the status

abbrev pub stop_status : Stop → Status
stop_status Drained = statuses.Done
stop_status (Gap low high) = statuses.Gap
stop_status (Malformed rec cause) = statuses.Malformed

abbrev pub verdict_status : Verdict → Status
verdict_status (Stopped stop) = stop_status stop
verdict_status (Mismatch scn pos table miss) = statuses.Mismatch
verdict_status (RowLimit scn) = statuses.RowLimit

abbrev pub ended_status : RunEnded → Status
ended_status (ByVerdict verdict) = verdict_status verdict
ended_status Left = statuses.Done

-- the status of a script is that of its last run
abbrev pub last_status : Option RunEnded → Status
last_status last = option_map_or ended_status last statuses.Done

-- ---- the whole, where no device fails and memory is enough

pub record Printed : Type 0 where
  pub lines : List Line
  pub status : Status

abbrev pub printed_said : Said → Printed
printed_said said = record { lines = said.lines; status = last_status said.state.last }

abbrev pub printed_unless : Option Status → Printed → Printed
printed_unless (Some status) p = record { lines = []; status = status }
printed_unless None p = p

abbrev pub printed_read : Archived → Option KeptState → Result (List Numbered) ℕ → Printed
printed_read logs kept (Err line) = record { lines = []; status = statuses.BadStatement line }
printed_read logs kept (Ok script) =
    printed_unless (against_statements script) (printed_said (all_said logs script (loaded_state kept)))

-- the lines and the status of a script over archived logs and what is kept
abbrev pub printed_by : Archived → List ℕ → Option KeptState → Printed
printed_by logs input kept = printed_read logs kept (script_of input)
