-- Attempts: what an applier makes of a transaction's changes, one after another, ahead of its commit.
-- Each change is tried at a count, over the tables of that count with the rows in place that the attempts before it wrote. A
-- change that a rule passes over, or that the dictionary of that count doesn't accept, writes nothing. At the first miss the
-- work is stuck, and the changes behind it wait: they count as done, and write nothing. An UNDO takes the last attempt back,
-- whatever it was. This project's own.
use Rattle.std.specs.Prelude.{ℕ, ◌≡◌, List, [], ◌∷◌, ◌++◌, map, length, ◌||◌, if◌then◌else◌, Option, Some, None, is_some, Result, Ok, Err}
use Rattle.std.specs.Option.{option_or}
use Rattle.rl_value.specs.declared.pos.Pos.{Pos}
use Rattle.rl_value.specs.declared.miss.Miss.{Miss}
use Rattle.rl_value.specs.Order.{key_set}
use Rattle.redo_vec.specs.declared.change.Change.{Change}
use Rattle.redo_vec.specs.declared.table.TableRow.{TableRow}
use Rattle.redo_spec.specs.ChangeForm.{change_fault}
use Rattle.redo_spec.specs.ConflictKeys.{conflict_keys}
use Rattle.redo_spec.specs.History.{Placed}
use Rattle.redo_spec.specs.Skips.{Skip, is_skipped}
use Rattle.redo_spec.specs.Survivors.{after_undo}
use Rattle.redo_spec.specs.Tables.{Tables, definitions_of}
use Rattle.redo_spec.specs.Effect.{effect}
use Rattle.redo_spec.specs.Fold.{Missed}
use Rattle.redo_spec.specs.Work.{Done, writes_of}
use Rattle.row_apply.specs.declared.writes.Write.{Write}
use Rattle.row_apply.specs.Overlaid.{overlaid}
use Rattle.row_apply.specs.Written.{writes_in, put_writes}

-- what came of a change: it wrote, was passed over, missed, or waits behind a miss
pub data Tried : Type 0 where
  Wrote : List Write → Tried
  Passed : Tried
  Missing : Miss → Tried
  Waits : Tried

-- a change by its position and its table, the count at which it was done, and what came of it
pub record Attempt : Type 0 where
  pub pos : Pos
  pub table : ℕ
  pub n : ℕ
  pub came : Tried

-- ---- what attempts have written

abbrev pub writes_tried : Tried → List Write
writes_tried (Wrote ws) = ws
writes_tried Passed = []
writes_tried (Missing miss) = []
writes_tried Waits = []

-- all that they wrote, in order
abbrev pub all_written : List Attempt → List Write
all_written [] = []
all_written (a ∷ attempts) = writes_tried a.came ++ all_written attempts

-- the writes that they leave: one for each row key, in rising order
abbrev pub writes : List Attempt → List Write
writes attempts = writes_in (put_writes [] (all_written attempts))

-- ---- where they are stuck

abbrev pub missed_at : Pos → ℕ → Tried → Option Missed
missed_at at table (Wrote ws) = None
missed_at at table Passed = None
missed_at at table (Missing miss) = Some (record { pos = at; table = table; miss = miss })
missed_at at table Waits = None

-- the first miss, at which they are stuck
abbrev pub stuck : List Attempt → Option Missed
stuck [] = None
stuck (a ∷ attempts) = option_or (missed_at a.pos a.table a.came) (stuck attempts)

-- ---- trying changes

-- what a change leaves at the row keys that it touches: one write for each, in rising order
abbrev pub left_by : List TableRow → Change → Tables → List Write
left_by rows c after = writes_in (writes_of (key_set (conflict_keys rows c)) after)

-- what an effect comes to: its writes, or the miss
abbrev pub came_of : List TableRow → Change → Result Tables Miss → Tried
came_of rows c (Ok after) = Wrote (left_by rows c after)
came_of rows c (Err miss) = Missing miss

-- a change is tried over these tables with the writes in place, unless it is not accepted or passed over
abbrev pub tried : List TableRow → List Skip → ℕ → Tables → List Write → Placed → Tried
tried rows skips n base ws p =
    if is_some (change_fault rows p.1) || is_skipped skips rows n p then Passed
    else came_of rows p.1 (effect (overlaid base ws) p.1)

abbrev pub tried_unless : Option Missed → Tried → Tried
tried_unless None came = came
tried_unless (Some missed) came = Waits

abbrev pub attempt_of : ℕ → Placed → Tried → Attempt
attempt_of n p came = record { pos = p.0; table = p.1.table; n = n; came = came }

-- one attempt more, at this count and over its tables
abbrev pub next_attempt : List TableRow → List Skip → ℕ → Tables → List Attempt → Placed → Attempt
next_attempt rows skips n base attempts p =
    attempt_of n p (tried_unless (stuck attempts) (tried rows skips n base (writes attempts) p))

abbrev pub attempted : List TableRow → List Skip → ℕ → Tables → List Attempt → Placed → List Attempt
attempted rows skips n base attempts p = attempts ++ next_attempt rows skips n base attempts p ∷ []

-- the attempts after a chunk of changes, all at one count
abbrev pub attempted_all : List TableRow → List Skip → ℕ → Tables → List Attempt → List Placed → List Attempt
attempted_all rows skips n base attempts [] = attempts
attempted_all rows skips n base attempts (p ∷ ps) =
    attempted_all rows skips n base (attempted rows skips n base attempts p) ps

-- the attempts after an UNDO
abbrev pub attempts_undone : List Attempt → List Attempt
attempts_undone attempts = after_undo attempts

-- which change an attempt is of, and at which count, whatever came of it
pub record Marked : Type 0 where
  pub pos : Pos
  pub table : ℕ
  pub n : ℕ

abbrev pub mark_of : Attempt → Marked
mark_of a = record { pos = a.pos; table = a.table; n = a.n }

abbrev pub marks : List Attempt → List Marked
marks attempts = map mark_of attempts

-- the marks of changes that are tried at one count
abbrev pub placed_marks : ℕ → List Placed → List Marked
placed_marks n ps = map (λ (p : Placed). mark_of (attempt_of n p Passed)) ps

-- ---- the work of a transaction

-- one attempt more at the tables of its count, if it has any, and with the dictionary that they have
abbrev pub attempted_over : List Skip → ℕ → Result Tables Missed → List Attempt → Placed → List Attempt
attempted_over skips n (Ok base) attempts p = attempted (definitions_of base) skips n base attempts p
attempted_over skips n (Err missed) attempts p = attempts

abbrev pub worked_on : (ℕ → Result Tables Missed) → List Skip → List Attempt → List Done → List Attempt
worked_on at skips attempts [] = attempts
worked_on at skips attempts (d ∷ more) = worked_on at skips (attempted_over skips d.1 (at d.1) attempts d.0) more

-- What comes of changes that are done at the counts beside them, where `at` gives the tables of a count.
abbrev pub worked : (ℕ → Result Tables Missed) → List Skip → List Done → List Attempt
worked at skips done = worked_on at skips [] done

-- changes, each with the count of its attempt
abbrev pub done_at : List Placed → List Attempt → List Done
done_at [] attempts = []
done_at (p ∷ ps) [] = []
done_at (p ∷ ps) (a ∷ attempts) = (p, a.n) ∷ done_at ps attempts

-- These attempts are the work of these changes: one of each, in order, and each what comes of its change at its count.
pub record IsWork (at : ℕ → Result Tables Missed) (skips : List Skip) (ps : List Placed) (attempts : List Attempt) : Type 0 where
  pub each : length attempts ≡ length ps
  pub comes : attempts ≡ worked at skips (done_at ps attempts)
