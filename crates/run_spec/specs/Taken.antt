-- The records that a run has taken, and what they leave: by the law of the redo that begins at the run's mark, and by the
-- reference evaluator that begins there with the run's rows.
use Rattle.std.specs.Prelude.{ℕ, ◌≡◌, ◌≤◌, ◌<◌, ◌+◌, ◌-◌, List, length, take, drop, filter, Bool, true, false, nat_lt}
use Rattle.std.specs.List.{AllByRecursion, list_any}
use Rattle.rl_value.specs.declared.xid.Xid.{Xid}
use Rattle.rl_value.specs.declared.verdict.Verdict.{Verdict}
use Rattle.redo_vec.specs.declared.table.TableRow.{TableRow}
use Rattle.redo_vec.specs.declared.vector.Vector.{Vector}
use Rattle.redo_vec.specs.declared.vector.Vector.TheVariants.{Start, Change as OfChange, Undo, Commit, Rollback, Table, DictEnd}
use Rattle.redo_spec.specs.History.{Entry, Commits, commit_count, no_history, same_xid}
use Rattle.redo_spec.specs.Law.{Admitted, admission}
use Rattle.redo_spec.specs.Fold.{Folded}
use Rattle.redo_spec.specs.Standing.{Standing, OpenTxn}
use Rattle.redo_law.specs.Calls.{standing_of}
use Rattle.primary.specs.Progress.{Progress}
use Rattle.primary.specs.Starts.{progress_after}
use Rattle.standby_spec.specs.KeptState.{KeptState}
use Rattle.standby_spec.specs.StandbyRedo.{Archived, redo_entries, front_at}
use Rattle.run_spec.specs.RunStart.{run_mark, run_start}

-- the records of the redo that the run has taken, once it has come to record k
abbrev pub taken_records : Archived → KeptState → ℕ → List Entry
taken_records logs s k = take (k - (run_mark s).q) (drop (run_mark s).q (redo_entries logs s))

-- what these records leave, by a run that began at its mark
abbrev pub run_admitted : Archived → KeptState → ℕ → Admitted
run_admitted logs s k =
    admission (standing_of (run_start s).law) (no_history (run_start s).before) (taken_records logs s k)

-- the evaluator that began with the run's rows, behind these
abbrev pub run_progress : Archived → KeptState → ℕ → Progress
run_progress logs s k = progress_after (run_start s) s.skips (taken_records logs s k)

-- how many commits the first k records have
abbrev pub commits_by : Archived → KeptState → ℕ → ℕ
commits_by logs s k = commit_count (front_at logs s k).history.commits

-- the commits up to number n
abbrev pub commits_up_to : ℕ → Commits → Commits
commits_up_to n cs = record cs { made = take (n - cs.before) cs.made }

-- a count is that of the commits so far, or the one with which a run began
pub record IsCount (n made was : ℕ) : Type 0 where
  pub most : made ≤ n
  pub least : was ≤ n
  pub same : was < n → n ≡ made

-- the open transactions that began behind this record
abbrev pub open_behind : ℕ → List OpenTxn → List OpenTxn
open_behind q ts = filter (λ t. nat_lt q t.start.rec) ts

-- a standing as a run has it that knows the records up to m and none of the transactions that began up to record q
abbrev pub standing_behind : ℕ → ℕ → Standing → Standing
standing_behind q m t = record t { known = m; active = open_behind q t.active }

-- the open transactions behind a record began in some record up to it, and each id is open once
pub record AreOpen (k : ℕ) (t : Standing) : Type 0 where
  pub rec : t.rec ≡ k
  pub begun : AllByRecursion (λ u. u.start.rec < k + 1) t.active
  pub some : AllByRecursion (λ u. 0 < u.start.rec) t.active
  pub single : (x : Xid) → length (filter (λ u. same_xid u.xid x) t.active) ≤ 1

-- a COMMIT
abbrev pub is_commit : Vector → Bool
is_commit (Start x) = false
is_commit (OfChange c) = false
is_commit (Undo x) = false
is_commit (Commit x) = true
is_commit (Rollback x) = false
is_commit (Table t) = false
is_commit DictEnd = false

-- one of the vectors is
abbrev pub has_commit : List Vector → Bool
has_commit vs = list_any is_commit vs

-- what a state shows, as the fold that ends so
abbrev pub fold_left : KeptState → Verdict → List TableRow → Folded
fold_left s verdict names = record { n = s.n; scn = s.scn; tables = s.tables; names = names; verdict = verdict }
