-- What is handed to be published in a run: the next commits of the redo, whoever made their writes.
-- A serial run makes them by the effects of the kept changes, one after the other, and work ahead of a commit by its own rows;
-- both meet the same words (`standby_spec`, NextCommit).
use Rattle.std.specs.Prelude.{◌≡◌, ◌+◌, ◌≤◌, ◌<◌, ◌^◌, List, length, true}
use Rattle.std.specs.List.{AllByRecursion}
use Rattle.redo_spec.specs.Fold.{Base}
use Rattle.redo_spec.specs.History.{commit_count}
use Rattle.standby_spec.specs.KeptState.{KeptState}
use Rattle.standby_spec.specs.StandbyRedo.{Archived, commits_of}
use Rattle.standby_spec.specs.Writable.{can_be_written}
use Rattle.standby_spec.specs.HasLayout.{IsWholeWrite, AreWhole}
use Rattle.standby_spec.specs.NextCommit.{IsNextCommit, AreNextCommits}
use Rattle.eager_work.specs.declared.commit.Commit.{Commit}
use Rattle.publisher.specs.Groups.{parts_of}

-- the commit behind the state's count, with writes that may be put in place
pub record IsHandedNext (b : Base) (logs : Archived) (s : KeptState) (c : Commit) : Type 0 where
  pub next : IsNextCommit b s.skips (commits_of logs s) s.n c.scn c.writes
  pub there : s.n + 1 ≤ commit_count (commits_of logs s)
  pub count : s.n + 1 < 2 ^ 62
  pub scn : c.scn < 2 ^ 64
  pub whole : AllByRecursion IsWholeWrite c.writes
  pub placed : can_be_written s.tables c.writes ≡ true

-- the commits behind it, one after the other
pub record AreHandedNext (b : Base) (logs : Archived) (s : KeptState) (commits : List Commit) : Type 0 where
  pub next : AreNextCommits b s.skips (commits_of logs s) s.n (parts_of commits)
  pub there : s.n + length commits ≤ commit_count (commits_of logs s)
  pub count : s.n + length commits < 2 ^ 62
  pub whole : AreWhole (parts_of commits) s
