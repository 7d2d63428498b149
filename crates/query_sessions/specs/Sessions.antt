-- Sessions: what one has seen, and which tables may answer it.
-- A session reads forward: no answer is of tables older than those of the answer before it. Tables are counted by the commits
-- that made them. Monotonic reads, in the field's words; the rest is this project's own.
use Rattle.std.specs.Prelude.{ℕ, List, Bool, nat_le}
use Rattle.query_sessions.specs.declared.session.Session.{Session}

-- a session of this name that has no answer yet
abbrev pub new_session : List ℕ → Session
new_session name = record { name = name; floor = 0 }

-- the tables of this count are not older than those that gave the session's last answer
abbrev pub may_see : Session → ℕ → Bool
may_see s n = nat_le s.floor n

-- the session behind an answer that tables of this count gave
abbrev pub session_after : ℕ → Session → Session
session_after n s = record s { floor = n }
