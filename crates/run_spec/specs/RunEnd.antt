-- A run that goes on to the end: how it ends, what it leaves, and which mark it keeps.
-- It ends as the fold of the redo does that begins with the tables, the count and the SCN that the run found. The redo is that of
-- the registered logs, from the first record on: a run from a mark goes as far (`redo_spec`, Mark). What is free is the owner
-- that is shown of a taken value, and the mark behind an apply conflict or the row limit. This project's own.
use Rattle.std.specs.Prelude.{ℕ, ◌≡◌, ◌≤◌, ◌+◌, ◌-◌, ◌*◌, ◌/◌, ⊤, nat_lt, if◌then◌else◌, Option, Some, None, slice_get}
use Rattle.std.specs.Option.{option_map_or}
use Rattle.rl_value.specs.declared.verdict.Stop.{Stop}
use Rattle.rl_value.specs.declared.verdict.Verdict.{Verdict}
use Rattle.rl_value.specs.declared.verdict.Verdict.TheVariants.{Stopped, Mismatch, RowLimit}
use Rattle.redo_spec.specs.Alike.{AreAlikeVerdicts}
use Rattle.redo_spec.specs.Fold.{Folded, folded_from, folded_to, named_by, redo_end, visible_tables}
use Rattle.redo_spec.specs.History.{Commits}
use Rattle.redo_spec.specs.Law.{Admitted}
use Rattle.standby_spec.specs.declared.mark.Mark.{Mark}
use Rattle.standby_spec.specs.KeptState.{KeptState, base_of}
use Rattle.standby_spec.specs.StandbyRedo.{Archived, standby_redo, admitted_redo, commits_of}
use Rattle.standby_spec.specs.Checkpoint.{IsMarkOf, begin_of, mark_at}

-- ---- how it ends

abbrev pub fold_over : KeptState → Stop → Admitted → Folded
fold_over s stop a = named_by a.left.tables (folded_from (base_of s) s.skips a.history.commits (redo_end a stop) s.n)

-- the fold of the redo from a state on
abbrev pub run_fold : Archived → KeptState → Folded
run_fold logs s = fold_over s (standby_redo logs s).stop (admitted_redo logs s)

-- the fold from a state on, up to a count that it comes to
abbrev pub fold_up_to : Archived → KeptState → ℕ → Folded
fold_up_to logs s n =
    folded_to (base_of s) s.skips (commits_of logs s) (standby_redo logs s).stop (record { n = n; stop = None })

-- the state with a fold's tables, count and SCN, and this mark
abbrev pub left_by : Folded → Option Mark → KeptState → KeptState
left_by f mark s = record s { tables = visible_tables s.skips f.n s.tables f.tables; n = f.n; scn = f.scn; mark = mark }

-- ---- marks

-- the mark at the end of the redo: all good records are built, and all commits were told
abbrev pub end_mark : Archived → KeptState → Mark
end_mark logs s = mark_at logs s (begin_of s) (admitted_redo logs s).standing.rec (run_fold logs s).n

-- no mark, where none was kept before; or one that is right at this count
abbrev pub IsMarkOrNone : Archived → KeptState → ℕ → Option Mark → Type 0
IsMarkOrNone logs s n None = s.mark ≡ None
IsMarkOrNone logs s n (Some mark) = IsMarkOf logs s n mark

-- the last commit from the one behind `from` up to n whose number is a multiple of the distance, if there is one
abbrev pub last_multiple : ℕ → ℕ → ℕ → Option ℕ
last_multiple distance from n = let number = distance * (n / distance) in if nat_lt from number then Some number else None

-- the record of this commit's COMMIT
abbrev pub commit_record : Commits → ℕ → ℕ
commit_record cs number = option_map_or (λ c. c.at.rec) (slice_get cs.made (number - (cs.before + 1))) 0

-- the mark is at least as far as this commit's COMMIT
abbrev pub IsPast : Commits → Option ℕ → Option Mark → Type 0
IsPast cs None mark = ⊤
IsPast cs (Some number) None = ⊥
IsPast cs (Some number) (Some mark) = commit_record cs number ≤ mark.m

-- A mark that is right, as far as the last of these commits that had to leave one. One is owed for each commit up to `owed` whose
-- number is a multiple of the distance.
pub record IsFreeMark (logs : Archived) (distance : ℕ) (s : KeptState) (n owed : ℕ) (mark : Option Mark) : Type 0 where
  pub is_mark : IsMarkOrNone logs s n mark
  pub past : IsPast (commits_of logs s) (last_multiple distance s.n owed) mark

-- the mark that a run keeps, by its end
abbrev pub IsMarkLeft : Archived → ℕ → KeptState → Folded → Verdict → Option Mark → Type 0
IsMarkLeft logs distance s f (Stopped stop) mark = mark ≡ Some (end_mark logs s)
IsMarkLeft logs distance s f (Mismatch scn pos table miss) mark = IsFreeMark logs distance s f.n f.n mark
IsMarkLeft logs distance s f (RowLimit scn) mark = IsFreeMark logs distance s f.n f.n mark

-- ---- runs

-- A run over these logs, with marks at this distance, from one state to another; its end is that of the fold.
pub record RunsTo (logs : Archived) (distance : ℕ) (old new : KeptState) (verdict : Verdict) : Type 0 where
  pub ends : AreAlikeVerdicts (run_fold logs old).verdict verdict
  pub mark : Option Mark
  pub kept : IsMarkLeft logs distance old (run_fold logs old) (run_fold logs old).verdict mark
  pub leaves : new ≡ left_by (run_fold logs old) mark old

-- What a run that was broken off has made: the fold up to some count that it would have come to, and a mark that is right there.
-- Only the mark of the last commit may still be owed.
pub record IsOnTheWay (logs : Archived) (distance : ℕ) (old new : KeptState) : Type 0 where
  pub n : ℕ
  pub from : old.n ≤ n
  pub upto : n ≤ (run_fold logs old).n
  pub mark : Option Mark
  pub kept : IsFreeMark logs distance old n (n - 1) mark
  pub leaves : new ≡ left_by (fold_up_to logs old n) mark old
