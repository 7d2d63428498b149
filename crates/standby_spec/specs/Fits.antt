-- Fits: what a standby shows is the fold at its count.
-- The base is that of the fold (`redo_spec`, Fold); the local rows stand in it, since no commit changes them. A run begins at
-- a count, from which on the live rows are counted; between runs that is the state's own count.
use Rattle.std.specs.Prelude.{ℕ, ◌≡◌, ◌≤◌, List, None, Ok, IfSome}
use Rattle.std.specs.List.{AllByRecursion}
use Rattle.rl_value.specs.Outcome.{map_ok}
use Rattle.redo_spec.specs.History.{Commits, commit_count}
use Rattle.redo_spec.specs.Skips.{Skip}
use Rattle.redo_spec.specs.Tables.{Tables}
use Rattle.redo_spec.specs.Fold.{Base, tables_at, scn_at, visible_tables, stop_at}
use Rattle.standby_spec.specs.KeptState.{KeptState}
use Rattle.standby_spec.specs.StandbyRedo.{Archived, commits_of}
use Rattle.standby_spec.specs.Checkpoint.{IsMarkOf}

-- What is shown at a count: so many commits are there, and the tables, with the local rows, and the SCN are those of the fold.
pub record Shows (b : Base) (skips : List Skip) (commits : Commits) (n at_scn : ℕ) (tables : Tables) : Type 0 where
  pub made : n ≤ commit_count commits
  pub shown : map_ok (visible_tables skips n b.local) (tables_at b skips commits n) ≡ Ok tables
  pub scn : at_scn ≡ scn_at b commits n

-- The state is that of the fold over this base, by a run that began at this count: it shows the tables and the SCN of its count,
-- none of its commits is kept from being applied, a mark that is kept is right for its count, and each skip rule counts from the
-- run's beginning or before.
pub record Fits (b : Base) (logs : Archived) (begun : ℕ) (s : KeptState) : Type 0 where
  pub base : b.n ≤ begun
  pub run : begun ≤ s.n
  pub shows : Shows b s.skips (commits_of logs s) s.n s.scn s.tables
  pub applied : (i : ℕ) → begun ≤ i → i ≤ s.n → stop_at b s.skips (commits_of logs s) i ≡ None
  pub mark : IfSome s.mark (IsMarkOf logs s s.n)
  pub skips : AllByRecursion (λ skip. skip.from ≤ begun) s.skips

-- the same between runs
abbrev pub FitsStill : Base → Archived → KeptState → Type 0
FitsStill b logs s = Fits b logs s.n s

-- the base with these rows as the local ones
abbrev pub with_local : Tables → Base → Base
with_local tables b = record b { local = tables }
