-- What a script has come to: the standby, where one is created, and what the call itself remembers.
use Rattle.std.specs.Prelude.{ℕ, ◌∷◌, List, [], ◌++◌, map, Bool, Option, Some, None, unwrap_or, if◌then◌else◌, codes}
use Rattle.std.specs.List.{list_any}
use Rattle.rl_value.specs.Order.{same_bytes}
use Rattle.rl_value.specs.declared.verdict.Stop.{Stop}
use Rattle.rl_value.specs.declared.verdict.Stop.TheVariants.{Drained, Gap, Malformed}
use Rattle.rl_value.specs.declared.verdict.Verdict.{Verdict}
use Rattle.rl_value.specs.declared.verdict.Verdict.TheVariants.{Stopped, Mismatch, RowLimit}
use Rattle.rl_base.specs.Events as events
use Rattle.query_sessions.specs.declared.asks.Ask.{Ask}
use Rattle.query_sessions.specs.declared.session.Session.{Session}
use Rattle.query_sessions.specs.Sessions.{new_session, session_after}
use Rattle.redo_spec.specs.Fold.{Base}
use Rattle.standby_spec.specs.KeptState.{KeptState, base_of}

-- how a run ended: by a verdict, or left before any
pub data RunEnded : Type 0 where
  ByVerdict : Verdict → RunEnded
  Left : RunEnded

-- The standby; what CHECK folds from, where a run has begun since the loading, CREATE or the last ROW, and else what is kept;
-- the sessions, the first that was opened first; the queries that wait for a run; the events; the distance of marks; how many
-- commits may be made at once; and how the last run ended.
-- Between the loading, CREATE or ROW and the first run nothing changes that CHECK counts: local rows, rules, logs and the guard
-- alone.
pub record ScriptState : Type 0 where
  pub kept : Option KeptState
  pub base : Option Base
  pub sessions : List Session
  pub asks : List Ask
  pub events : events.Noted
  pub distance : ℕ
  pub group : ℕ
  pub last : Option RunEnded

-- as a script begins, over what was loaded
abbrev pub loaded_state : Option KeptState → ScriptState
loaded_state kept = record {
  kept = kept;
  base = None;
  sessions = [];
  asks = [];
  events = events.no_events;
  distance = 100;
  group = 1;
  last = None;
}

-- with another state of the standby
abbrev pub with_kept : KeptState → ScriptState → ScriptState
with_kept k s = record s { kept = Some k }

-- with another one that CHECK folds from
abbrev pub rebased : KeptState → ScriptState → ScriptState
rebased k s = record s { kept = Some k; base = None }

-- what CHECK folds from, where this is kept
abbrev pub base_or : KeptState → Option Base → Base
base_or k base = unwrap_or base (base_of k)

-- as a run begins over this
abbrev pub with_base : KeptState → ScriptState → ScriptState
with_base k s = record s { base = Some (base_or k s.base) }

-- one event more
abbrev pub with_event_line : List ℕ → ScriptState → ScriptState
with_event_line line s = record s { events = events.with_event line s.events }

-- a session of this name is there
abbrev pub has_session : List ℕ → ScriptState → Bool
has_session name s = list_any (λ r. same_bytes r.name name) s.sessions

abbrev pub with_session : List ℕ → ScriptState → ScriptState
with_session name s = record s { sessions = s.sessions ++ new_session name ∷ [] }

-- this session, where it has this name, once it was answered at this count
abbrev pub if_answered : List ℕ → ℕ → Session → Session
if_answered name n r = if same_bytes r.name name then session_after n r else r

abbrev pub answered_at : List ℕ → ℕ → ScriptState → ScriptState
answered_at name n s = record s { sessions = map (if_answered name n) s.sessions }

-- the floor of a session; 0 where it is not there
abbrev pub floor_in : List ℕ → List Session → ℕ
floor_in name [] = 0
floor_in name (r ∷ rs) = if same_bytes r.name name then r.floor else floor_in name rs

-- ---- the word of how a run ended

abbrev pub stop_word : Stop → List ℕ
stop_word Drained = codes "DRAINED"
stop_word (Gap low high) = codes "GAP"
stop_word (Malformed rec cause) = codes "MALFORMED"

abbrev pub verdict_word : Verdict → List ℕ
verdict_word (Stopped stop) = stop_word stop
verdict_word (Mismatch scn pos table miss) = codes "MISMATCH"
verdict_word (RowLimit scn) = codes "ROWLIMIT"

abbrev pub last_word : Option RunEnded → List ℕ
last_word None = codes "NONE"
last_word (Some (ByVerdict verdict)) = verdict_word verdict
last_word (Some Left) = codes "LEFT"
