-- What a work keeps: attempts that wrote or were passed over, in parts that several works may share, then the one that missed,
-- and those that wait behind it.
use Rattle.std.specs.Prelude.{ℕ, ◌-◌, List, [], ◌∷◌, ◌++◌, map, take, length, Option, Some, None}
use Rattle.rl_value.specs.declared.pos.Pos.{Pos}
use Rattle.rl_value.specs.declared.miss.Miss.{Miss}
use Rattle.redo_spec.specs.Fold.{Missed}
use Rattle.redo_spec.specs.Work.{Written}
use Rattle.row_apply.specs.declared.writes.Write.{Write}
use Rattle.row_apply.specs.Written.{put_writes}
use Rattle.eager_work.specs.declared.did.Did.{Did}
use Rattle.eager_work.specs.declared.waiting.Waiting.{Waiting}
use Rattle.eager_work.specs.declared.waiting.Conflict.{Conflict}
use Rattle.eager_work.specs.Attempts.{Tried, Wrote, Passed, Missing, Waits, Attempt}

-- ---- as attempts

abbrev pub came_by : Option (List Write) → Tried
came_by None = Passed
came_by (Some ws) = Wrote ws

abbrev pub done_attempt : Did → Attempt
done_attempt d = record { pos = d.pos; table = d.table; n = d.n; came = came_by d.wrote }

abbrev pub conflict_attempts : Option Conflict → List Attempt
conflict_attempts None = []
conflict_attempts (Some c) = record { pos = c.pos; table = c.table; n = c.n; came = Missing c.miss } ∷ []

abbrev pub waiting_attempt : Waiting → Attempt
waiting_attempt w = record { pos = w.pos; table = w.table; n = w.n; came = Waits }

-- the changes of all parts
abbrev pub joined : List (List Did) → List Did
joined [] = []
joined (p ∷ ps) = p ++ joined ps

-- so many of the changes of the parts stand
abbrev pub attempts_kept : List (List Did) → ℕ → Option Conflict → List Waiting → List Attempt
attempts_kept parts standing conflict waiting =
    map done_attempt (take standing (joined parts)) ++ (conflict_attempts conflict ++ map waiting_attempt waiting)

-- ---- where it is stuck

abbrev pub missed_by : Pos → ℕ → Miss → Missed
missed_by at table miss = record { pos = at; table = table; miss = miss }

-- ---- what it writes, part by part

abbrev pub writes_by : Option (List Write) → List Write
writes_by None = []
writes_by (Some ws) = ws

abbrev pub put_dids : List Written → List Did → List Written
put_dids last [] = last
put_dids last (d ∷ ds) = put_dids (put_writes last (writes_by d.wrote)) ds

-- the writes of so many of the changes of the parts
abbrev pub put_parts : List Written → List (List Did) → ℕ → List Written
put_parts last [] standing = last
put_parts last (p ∷ ps) standing = put_parts (put_dids last (take standing p)) ps (standing - length p)
