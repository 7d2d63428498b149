-- Where a plain fold begins, and what it gives: `folded` of redo_spec, over the tables that the rows show there.
use Rattle.std.specs.Prelude.{ℕ, ◌≤◌, List, [], None}
use Rattle.rl_value.specs.declared.verdict.Stop.{Stop}
use Rattle.redo_spec.specs.Dictionary.{no_dictionary}
use Rattle.redo_spec.specs.History.{Entry, no_history}
use Rattle.redo_spec.specs.Standing.{Standing}
use Rattle.redo_spec.specs.Law.{Admitted, admission}
use Rattle.redo_spec.specs.Skips.{Skip}
use Rattle.redo_spec.specs.Fold.{Base, Folded, folded, redo_end, named_by}
use Rattle.redo_law.specs.Calls.{standing_of}
use Rattle.row_apply.specs.Soundness.{AreSound}
use Rattle.primary.specs.declared.plain.Plain.{Plain}
use Rattle.primary.specs.declared.plain.Folded.{Folded as Plainly}
use Rattle.primary.specs.Progress.{tables_shown, waiting_until, Progress, FoldState, Going, progress_after_records}

-- what a plain fold says
abbrev pub folded_of : Plainly → Folded
folded_of f = record {
  n = f.n;
  scn = f.scn;
  tables = tables_shown f.whole f.dict.tables f.tables;
  names = f.dict.tables;
  verdict = f.end;
}

-- the base of a fold that begins so, by the dictionary that its records leave
abbrev pub base_of : Plain → Standing → Base
base_of start s = record {
  tables = tables_shown s.dictionary.finished s.dictionary.tables start.tables;
  n = start.n;
  scn = start.scn;
  local = [];
}

abbrev pub fold_admitted : Plain → List Skip → Stop → Admitted → Folded
fold_admitted start skips stop a = named_by a.left.tables
    (folded (base_of start a.standing) skips a.history.commits (redo_end a stop))

-- the fold of these records from there on
abbrev pub fold_from : Plain → List Skip → List Entry → Stop → Folded
fold_from start skips entries stop = fold_admitted start skips stop
    (admission (standing_of start.law) (no_history start.before) entries)

-- These records may be folded from there on: the rows are sound tables of the dictionary that they leave, and no more commits
-- stand before than the count has.
pub record IsStart (start : Plain) (entries : List Entry) : Type 0 where
  pub sound : AreSound (base_of start (admission (standing_of start.law) (no_history start.before) entries).standing).tables
  pub counted : start.before ≤ start.n

-- what a fold goes on with that begins so
abbrev pub first_state : Plain → FoldState
first_state start = record {
  standing = standing_of start.law;
  live = [];
  made = start.before;
  n = start.n;
  scn = start.scn;
  waiting = waiting_until start.law.dict.finished start.tables;
  tables = tables_shown start.law.dict.finished start.law.dict.tables start.tables;
}

-- the progress of a fold that begins so, before its first record
abbrev pub first_progress : Plain → Progress
first_progress start = Going (first_state start)

-- the progress of a fold that began so, after these records
abbrev pub progress_after : Plain → List Skip → List Entry → Progress
progress_after start skips entries = progress_after_records skips entries (first_progress start)

-- the start before the first record of a redo whose first log has this sequence and follows this SCN, over empty tables
abbrev pub first_start : ℕ → ℕ → Plain
first_start first base = record {
  law = record {
    first = first;
    base = base;
    dict = no_dictionary;
    head = None;
    rec = 0;
    known = 0;
    scn = base;
    commit_scn = base;
  };
  before = 0;
  n = 0;
  scn = base;
  tables = [];
}
