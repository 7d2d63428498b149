-- The five views of a standby, line by line, from what its publisher shows.
--   PROGRESS   APPLIED_SCN SCN, RESTART_SCN SCN, MINING_SCN SCN, LATEST_SCN SCN
--   LOG        LOG SEQUENCE FIRST NEXT RECORDS, and GAP LOW HIGH where sequences are missing between two of them
--   STATE      GUARD LEVEL, COMMITS COUNT, ROWS COUNT, LAST WORD
--   SKIP       SKIP TABLE PATTERN FROM, SKIP TRANSACTION XID FROM
--   EVENTS     EVENT NUMBER LINE
-- PROGRESS has the SCNs of SQL Apply's V$LOGSTDBY_PROGRESS; the lines are this project's own.
use Rattle.std.specs.Prelude.{ℕ, ◌+◌, ◌-◌, max, List, [], ◌∷◌, ◌++◌, map, nat_lt, if◌then◌else◌, codes, Option, Some, None}
use Rattle.std.specs.Option.{option_map_or}
use Rattle.std.specs.Fmt.{decimal}
use Rattle.rl_value.specs.Literal.{xid_text}
use Rattle.rl_base.specs.declared.which.Which.{Which}
use Rattle.rl_base.specs.declared.which.Which.TheVariants as views
use Rattle.rl_base.specs.Events.{Noted}
use Rattle.redo_spec.specs.declared.header.Header.{Header}
use Rattle.redo_spec.specs.Lines.{Line, words}
use Rattle.redo_spec.specs.Skips.{Rule, Tables, Transaction, Skip}
use Rattle.redo_spec.specs.Tables.{row_count}
use Rattle.skip_guard.specs.declared.guard.Level.{Level}
use Rattle.skip_guard.specs.declared.guard.Level.TheVariants as levels
use Rattle.log_registry.specs.declared.entry.LogEntry.{LogEntry}
use Rattle.standby_spec.specs.declared.mark.Mark.{Mark}
use Rattle.standby_spec.specs.KeptState.{KeptState}
use Rattle.standby_spec.specs.Publishing.{shown_logs, shown_skips, shown_level, shown_mark, shown_tables, shown_count, shown_scn}

-- a word with a number behind it
abbrev pub numbered : List ℕ → ℕ → Line
numbered word n = words (word ∷ decimal n ∷ [])

-- ---- PROGRESS

-- the SCN before the greatest next change of the registered logs
abbrev pub latest_scn : List LogEntry → ℕ
latest_scn [] = 0
latest_scn (e ∷ es) = max (e.head.next - 1) (latest_scn es)

-- the SCN of the kept checkpoint's restart record, and of its mining record; the base SCN where none is kept
abbrev pub restart_scn : ℕ → Option Mark → ℕ
restart_scn base None = base
restart_scn base (Some mark) = mark.q_scn

abbrev pub mining_scn : ℕ → Option Mark → ℕ
mining_scn base None = base
mining_scn base (Some mark) = mark.m_scn

-- of this applied SCN, this base SCN, this checkpoint and these logs
abbrev pub progress_lines : ℕ → ℕ → Option Mark → List LogEntry → List Line
progress_lines scn base mark logs =
    numbered (codes "APPLIED_SCN") scn
    ∷ numbered (codes "RESTART_SCN") (restart_scn base mark)
    ∷ numbered (codes "MINING_SCN") (mining_scn base mark)
    ∷ numbered (codes "LATEST_SCN") (latest_scn logs)
    ∷ []

-- ---- LOG

abbrev pub log_line : Header → Line
log_line h = words (codes "LOG" ∷ decimal h.seq ∷ decimal h.first ∷ decimal h.next ∷ decimal h.count ∷ [])

abbrev pub gap_line : ℕ → ℕ → Line
gap_line low high = words (codes "GAP" ∷ decimal low ∷ decimal high ∷ [])

-- the gap before a log of this sequence, where another sequence was expected
abbrev pub gap_lines : Option ℕ → ℕ → List Line
gap_lines None seq = []
gap_lines (Some next) seq = if nat_lt next seq then gap_line next (seq - 1) ∷ [] else []

-- these logs, of which the first was expected to have this sequence
abbrev pub log_lines_from : Option ℕ → List LogEntry → List Line
log_lines_from expected [] = []
log_lines_from expected (e ∷ es) = gap_lines expected e.head.seq ++ log_line e.head ∷ log_lines_from (Some (e.head.seq + 1)) es

abbrev pub log_lines : List LogEntry → List Line
log_lines logs = log_lines_from None logs

-- ---- STATE

abbrev pub level_word : Level → List ℕ
level_word levels.All = codes "ALL"
level_word levels.Standby = codes "STANDBY"

-- of this level of the guard, so many commits and rows, and this word of how the last run of the call ended
abbrev pub state_lines : Level → ℕ → ℕ → List ℕ → List Line
state_lines level commits rows last =
    words (codes "GUARD" ∷ level_word level ∷ [])
    ∷ numbered (codes "COMMITS") commits
    ∷ numbered (codes "ROWS") rows
    ∷ words (codes "LAST" ∷ last ∷ [])
    ∷ []

-- ---- SKIP

-- the words of a rule, as the statement has them that gives it
abbrev pub rule_words : Rule → List (List ℕ)
rule_words (Tables pattern) = codes "SKIP" ∷ codes "TABLE" ∷ pattern ∷ []
rule_words (Transaction x) = codes "SKIP" ∷ codes "TRANSACTION" ∷ xid_text x ∷ []

abbrev pub rule_line : Rule → Line
rule_line rule = words (rule_words rule)

-- a rule with the count of commits behind which it was given
abbrev pub skip_line : Skip → Line
skip_line s = words (rule_words s.rule ++ decimal s.from ∷ [])

abbrev pub skip_lines : List Skip → List Line
skip_lines skips = map skip_line skips

-- ---- EVENTS

abbrev pub event_line : ℕ × List ℕ → Line
event_line e = words (codes "EVENT" ∷ decimal e.0 ∷ e.1 ∷ [])

abbrev pub event_lines : Noted → List Line
event_lines events = map event_line events.lines

-- ---- all of them

-- the base SCN that is shown
abbrev pub shown_base : Option KeptState → ℕ
shown_base state = option_map_or (λ s. s.base) state 0

-- the lines of a view of the state that is shown, where the last run of the call ended so
abbrev pub view_lines : Option KeptState → Which → List ℕ → Noted → List Line
view_lines state views.Progress last events =
    progress_lines (shown_scn state) (shown_base state) (shown_mark state) (shown_logs state)
view_lines state views.Log last events = log_lines (shown_logs state)
view_lines state views.State last events =
    state_lines (shown_level state) (shown_count state) (row_count (shown_tables state)) last
view_lines state views.Skip last events = skip_lines (shown_skips state)
view_lines state views.Events last events = event_lines events
