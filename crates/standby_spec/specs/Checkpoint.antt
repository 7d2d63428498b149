-- The mark of a run: which one is kept, and when a mark is right for the redo.
-- A run from a mark begins behind record q and passes over what began before. q is one less than the least record with the
-- START of a live transaction: one that is open, or whose commit is numbered above the count that was told. So nothing of a
-- live transaction stands before q. After the two SCNs of a checkpoint; this project's own.
use Rattle.std.specs.Prelude.{ℕ, ◌≡◌, ◌-◌, List, [], ◌∷◌, ◌++◌, map, take, drop, max, min}
use Rattle.std.specs.Option.{option_map_or}
use Rattle.redo_spec.specs.History.{Txn, History, commits_after, commit_count, no_history}
use Rattle.redo_spec.specs.Law.{admission}
use Rattle.redo_spec.specs.Mark.{MarkFits, from_mark}
use Rattle.redo_reader.specs.Ahead.{first_place}
use Rattle.redo_reader.specs.Behind.{place_ahead}
use Rattle.redo_reader.specs.declared.place.Place.{Place}
use Rattle.standby_spec.specs.declared.mark.Mark.{Mark}
use Rattle.standby_spec.specs.KeptState.{KeptState}
use Rattle.standby_spec.specs.StandbyRedo.{Archived, redo_entries, front_at}

-- the place behind the first k records of the registered logs
abbrev pub place_at : Archived → KeptState → ℕ → Place
place_at logs s k = place_ahead logs s.logs (first_place s.first 0) k

-- ---- a mark that is right

-- The mark fits at a count, and each of its numbers is that of the redo: the commits of the first q records, the place, the
-- SCN and the last commit's SCN behind record q, and the SCN of record m.
pub record IsMarkOf (logs : Archived) (s : KeptState) (n : ℕ) (k : Mark) : Type 0 where
  pub fits : MarkFits s.first s.base (redo_entries logs s) k.q k.m n
  pub before : k.before ≡ commit_count (front_at logs s k.q).history.commits
  pub place : k.place ≡ place_at logs s k.q
  pub q_scn : k.q_scn ≡ (front_at logs s k.q).standing.scn
  pub m_scn : k.m_scn ≡ (front_at logs s k.m).standing.scn
  pub commit_scn : k.commit_scn ≡ (front_at logs s k.q).standing.commit_scn

-- ---- the mark with which a run begins

-- where none is kept, with the first log, the base SCN and the count
abbrev pub first_mark : ℕ → ℕ → ℕ → Mark
first_mark first base n = record {
  q = 0;
  m = 0;
  before = 0;
  place = first_place first 0;
  q_scn = base;
  m_scn = base;
  commit_scn = base;
  n = n;
}

-- a mark at this count
abbrev pub at_count : ℕ → Mark → Mark
at_count n k = record k { n = n }

-- the kept mark, or that of no record, at the count with which the run begins
abbrev pub begin_of : KeptState → Mark
begin_of s = option_map_or (at_count s.n) s.mark (first_mark s.first s.base s.n)

-- ---- the mark that a run keeps

-- the history of the records that a run from this mark has built, up to this one
abbrev pub built_history : Archived → KeptState → Mark → ℕ → History
built_history logs s begin built =
    (admission (from_mark (front_at logs s begin.q).standing begin.m) (no_history begin.before)
    (take (built - begin.q) (drop begin.q (redo_entries logs s)))).history

-- those that are open, and those whose commits are numbered above the told count
abbrev pub live_transactions : History → ℕ → List Txn
live_transactions h n = h.active ++ map (λ c. c.txn) (commits_after h.commits n)

-- one less than the least record with a START of one of these, and the records built where there is none
abbrev pub restart_record : ℕ → List Txn → ℕ
restart_record built [] = built
restart_record built (t ∷ ts) = min (t.start.rec - 1) (restart_record built ts)

-- a mark at these records, where so many commits were told
abbrev pub mark_of : Archived → KeptState → ℕ → ℕ → ℕ → Mark
mark_of logs s q m n = record {
  q = q;
  m = m;
  before = commit_count (front_at logs s q).history.commits;
  place = place_at logs s q;
  q_scn = (front_at logs s q).standing.scn;
  m_scn = (front_at logs s m).standing.scn;
  commit_scn = (front_at logs s q).standing.commit_scn;
  n = n;
}

-- The mark of a run that began with a mark, has built the records up to this one, and was told this count. With m the
-- records of both are known.
abbrev pub mark_at : Archived → KeptState → Mark → ℕ → ℕ → Mark
mark_at logs s begin built n =
    mark_of logs s (restart_record built (live_transactions (built_history logs s begin built) n)) (max built begin.m) n
