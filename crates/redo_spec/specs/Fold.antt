-- The fold: commits one after another over a base, how far they come, and why they come no further.
-- This is what a standby has to show: at a count n the maintained tables are the base with the kept changes of the
-- commits up to n, in the order of the commits. Nothing here knows of workers, caches or early work.
use Rattle.std.specs.Prelude.{ℕ, ◌+◌, ◌-◌, ◌^◌, List, [], ◌∷◌, map, take, nat_lt, ◌==◌, if◌then◌else◌, Option, Some, None, Result, Ok, Err, slice_get, unwrap_or}
use Rattle.std.specs.List.{find}
use Rattle.std.specs.Option.{option_map_or}
use Rattle.rl_value.specs.declared.pos.Pos.{Pos}
use Rattle.rl_value.specs.declared.miss.Miss.{Miss}
use Rattle.rl_value.specs.declared.cause.Cause.TheVariants as causes
use Rattle.rl_value.specs.declared.verdict.Stop.{Stop}
use Rattle.rl_value.specs.declared.verdict.Stop.TheVariants.{Malformed}
use Rattle.rl_value.specs.declared.verdict.Verdict.{Verdict}
use Rattle.rl_value.specs.declared.verdict.Verdict.TheVariants.{Stopped, Mismatch, RowLimit}
use Rattle.rl_value.specs.Outcome.{◌>>=◌, map_err, map_ok}
use Rattle.redo_vec.specs.declared.table.TableRow.{TableRow}
use Rattle.redo_spec.specs.Tables.{Table, Tables, row_count, definitions_of, empty_tables}
use Rattle.redo_spec.specs.Effect.{effect}
use Rattle.redo_spec.specs.History.{Entry, Placed, Committed, Commits, commits_after, no_history}
use Rattle.redo_spec.specs.Standing.{Standing, beginning}
use Rattle.redo_spec.specs.Law.{Admitted, admission}
use Rattle.redo_spec.specs.Skips.{Skip, is_maintained, kept_changes}

-- where a fold begins: the tables, after this many commits, at this SCN, and the tables that show local rows
pub record Base : Type 0 where
  pub tables : Tables
  pub n : ℕ
  pub scn : ℕ
  pub local : Tables

-- the change that misses
pub record Missed : Type 0 where
  pub pos : Pos
  pub table : ℕ
  pub miss : Miss

-- ---- the tables at a count

-- the effects of changes in order, or the first that misses
abbrev pub effects : Tables → List Placed → Result Tables Missed
effects tables [] = Ok tables
effects tables ((at, c) ∷ ps) =
    map_err (λ miss. record { pos = at; table = c.table; miss = miss }) (effect tables c) >>= λ after. effects after ps

-- the tables after the kept changes of the commit after n
abbrev pub commit_effect : List Skip → ℕ → Tables → Committed → Result Tables Missed
commit_effect skips n tables c = effects tables (kept_changes skips (definitions_of tables) n c)

-- the same, where there may be a miss before
abbrev pub with_commit : List Skip → ℕ → Committed → Result Tables Missed → Result Tables Missed
with_commit skips n c before = before >>= λ tables. commit_effect skips n tables c

-- the tables after these commits, the first of which is the one after n
abbrev pub commit_effects : List Skip → ℕ → Tables → List Committed → Result Tables Missed
commit_effects skips n tables [] = Ok tables
commit_effects skips n tables (c ∷ cs) = commit_effect skips n tables c >>= λ after. commit_effects skips (n + 1) after cs

-- the tables at count n: the base with the kept changes of the commits after it, up to n
abbrev pub tables_at : Base → List Skip → Commits → ℕ → Result Tables Missed
tables_at b skips cs n = commit_effects skips b.n b.tables (take (n - b.n) (commits_after cs b.n))

-- the SCN of commit n, or the base's at the base's count
abbrev pub scn_at : Base → Commits → ℕ → ℕ
scn_at b cs n = if n == b.n then b.scn else option_map_or (λ c. c.scn) (slice_get cs.made (n - (cs.before + 1))) b.scn

-- ---- what is visible

-- the most rows that may be live
abbrev pub live_row_limit : ℕ
live_row_limit = 2 ^ 20

-- a table that is not maintained shows its local rows, where there are any
abbrev pub visible_table : List Skip → ℕ → Tables → Table → Table
visible_table skips n local t = if is_maintained skips n t.row then t else unwrap_or (find (λ u. u.row.id == t.row.id) local) t

-- the tables as a query sees them at count n
abbrev pub visible_tables : List Skip → ℕ → Tables → Tables → Tables
visible_tables skips n local tables = map (visible_table skips n local) tables

-- ---- how far a fold comes

-- a commit is not applied where a change misses, or where more rows than the limit would be live
abbrev pub stop_of_commit : ℕ → Result ℕ Missed → Option Verdict
stop_of_commit scn (Err m) = Some (Mismatch scn m.pos m.table m.miss)
stop_of_commit scn (Ok rows) = if nat_lt live_row_limit rows then Some (RowLimit scn) else None

-- what keeps commit n from being applied, if anything does
abbrev pub stop_at : Base → List Skip → Commits → ℕ → Option Verdict
stop_at b skips cs n = stop_of_commit (scn_at b cs n) (map_ok (λ tables. row_count (visible_tables skips n b.local tables))
    (tables_at b skips cs n))

-- how far a fold comes, and what stops it there
pub record Reached : Type 0 where
  pub n : ℕ
  pub stop : Option Verdict

abbrev pub reached_or : Option Verdict → ℕ → Reached → Reached
reached_or (Some stop) n later = record { n = n; stop = Some stop }
reached_or None n later = later

-- how far a fold comes from count n on, where these commits follow
abbrev pub reached : Base → List Skip → Commits → ℕ → List Committed → Reached
reached b skips cs n [] = record { n = n; stop = None }
reached b skips cs n (c ∷ more) = reached_or (stop_at b skips cs (n + 1)) n (reached b skips cs (n + 1) more)

-- how far a run comes that begins at count n
abbrev pub reached_from : Base → List Skip → Commits → ℕ → Reached
reached_from b skips cs n = reached b skips cs n (commits_after cs n)

-- the end of the redo: its first bad record, or what ends its records
abbrev pub redo_end : Admitted → Stop → Stop
redo_end a stop = option_map_or (λ fault. Malformed (a.standing.rec + 1) (causes.Law fault)) a.fault stop

-- why a run ends: a miss or the row limit goes before any end of the redo
abbrev pub verdict_of : Option Verdict → Stop → Verdict
verdict_of None stop = Stopped stop
verdict_of (Some v) stop = v

-- A fold's count and SCN, its tables, and why it goes no further; and the definitions that name the tables of that
-- reason. Where the dictionary is whole they are those of the tables; else those that the records have left so far, to
-- which the vectors of a bad record before its bad one count.
pub record Folded : Type 0 where
  pub n : ℕ
  pub scn : ℕ
  pub tables : Tables
  pub names : List TableRow
  pub verdict : Verdict

abbrev pub tables_or_base : Base → Result Tables Missed → Tables
tables_or_base b (Ok tables) = tables
tables_or_base b (Err m) = b.tables

abbrev pub folded_to : Base → List Skip → Commits → Stop → Reached → Folded
folded_to b skips cs stop r = record {
  n = r.n;
  scn = scn_at b cs r.n;
  tables = tables_or_base b (tables_at b skips cs r.n);
  names = definitions_of b.tables;
  verdict = verdict_of r.stop stop;
}

-- the fold over a base by a run that begins at count n, where the redo ends so
abbrev pub folded_from : Base → List Skip → Commits → Stop → ℕ → Folded
folded_from b skips cs stop n = folded_to b skips cs stop (reached_from b skips cs n)

-- the fold of these commits over the base
abbrev pub folded : Base → List Skip → Commits → Stop → Folded
folded b skips cs stop = folded_from b skips cs stop b.n

-- ---- from the first log on, over empty tables

-- the tables of the dictionary, which are known once it is whole
abbrev pub known_tables : Standing → Tables
known_tables s = if s.dictionary.finished then empty_tables s.dictionary.tables else []

-- empty tables at count 0
abbrev pub empty_base : ℕ → Standing → Base
empty_base base s = record { tables = known_tables s; n = 0; scn = base; local = [] }

-- a fold whose reason names tables by these definitions
abbrev pub named_by : List TableRow → Folded → Folded
named_by names f = record f { names = names }

abbrev pub fold_of_admitted : ℕ → Stop → Admitted → Folded
fold_of_admitted base stop a = named_by a.left.tables (folded (empty_base base a.standing) [] a.history.commits (redo_end a stop))

-- the fold of a redo over empty tables, whose first log has this sequence and follows this SCN
abbrev pub fold_of_redo : ℕ → ℕ → List Entry → Stop → Folded
fold_of_redo first base entries stop = fold_of_admitted base stop (admission (beginning first base) (no_history 0) entries)
