-- Mark: where a run may begin again, so that it goes on as the whole redo does.
-- A mark is three numbers: a restart record q, a mining record m and an applied count n. The run reads from record q + 1
-- on, knows that the records up to m are well, and has applied the commits up to n. After the two SCNs of a checkpoint,
-- RESTART_SCN and MINING_SCN; this project's own.
use Rattle.std.specs.Prelude.{ℕ, ◌≡◌, ◌≤◌, ◌<◌, List, [], take, drop, length, None}
use Rattle.std.specs.List.{AllByRecursion}
use Rattle.redo_spec.specs.History.{Entry, commits_after, commit_count, no_history}
use Rattle.redo_spec.specs.Standing.{Standing, beginning}
use Rattle.redo_spec.specs.Law.{Admitted, admission}

-- the admission of the first k records, in a redo whose first log has this sequence and follows this SCN
abbrev pub front : ℕ → ℕ → List Entry → ℕ → Admitted
front first base entries k = admission (beginning first base) (no_history 0) (take k entries)

-- There are m records or more, the first m are well, and q is at most m. Each transaction that is open behind record m,
-- or whose commit is numbered above n, began behind record q.
pub record MarkFits (first base : ℕ) (entries : List Entry) (q m n : ℕ) : Type 0 where
  pub order : q ≤ m
  pub there : m ≤ length entries
  pub well : (front first base entries m).fault ≡ None
  pub behind : AllByRecursion (λ t. q < t.start.rec) (front first base entries m).history.active
  pub above : AllByRecursion (λ c. q < c.txn.start.rec) (commits_after (front first base entries m).history.commits n)

-- what is left of a standing for a run that begins behind it: no transaction is open, and up to record m those may go on
-- that began before
abbrev pub from_mark : Standing → ℕ → Standing
from_mark s m = record s { known = m; active = [] }

-- the admission of the records from q + 1 on, by a run that begins there
abbrev pub resumed : ℕ → ℕ → List Entry → ℕ → ℕ → Admitted
resumed first base entries q m =
    let a = front first base entries q in admission (from_mark a.standing m) (no_history (commit_count a.history.commits))
    (drop q entries)
