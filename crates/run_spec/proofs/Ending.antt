-- A run's evaluator ends as the fold of the whole redo does.
use Rattle.std.proofs.Common.{◌≡◌, ℕ, ◌+◌, ◌-◌, ◌≤◌, List, [], ◌∷◌, take, drop, true, cond, refl, sym, ap, ◌∙◌, subst, Result, Ok, Err, slice_get, arith}
use Rattle.std.specs.Prelude.{◌==◌}
use Rattle.std.specs.Option.{option_map_or}
use Rattle.std.specs.List.{AllByRecursion}
use Rattle.std.proofs.lemmas.Bool.Decides.{nat_tests}
use Rattle.rl_value.specs.declared.cause.LawFault.{LawFault}
use Rattle.rl_value.specs.declared.cause.Cause.TheVariants as causes
use Rattle.rl_value.specs.declared.verdict.Stop.{Stop}
use Rattle.rl_value.specs.declared.verdict.Stop.TheVariants.{Malformed}
use Rattle.rl_value.specs.Outcome.{map_ok}
use Rattle.redo_spec.specs.Dictionary.{Dictionary}
use Rattle.redo_spec.specs.History.{Entry, Committed, Commits, commits_after, commit_count, no_history}
use Rattle.redo_spec.specs.Law.{Admitted, admission}
use Rattle.redo_spec.specs.Mark.{MarkFits, from_mark, resumed}
use Rattle.redo_spec.specs.Skips.{Skip}
use Rattle.redo_spec.specs.Standing.{Standing, beginning}
use Rattle.redo_spec.specs.Tables.{Tables, row_count, definitions_of}
use Rattle.redo_spec.specs.Fold.{Base, Missed, Reached, commit_effects, tables_at, scn_at, visible_tables, stop_of_commit, stop_at, reached, reached_or, verdict_of, tables_or_base, folded_to, folded_from, folded, redo_end, named_by}
use Rattle.redo_spec.proofs.MarkLaws.{resumed_alike, resumed_standing, resumed_commits}
use Rattle.redo_law.specs.Calls.{standing_of}
use Rattle.redo_reader.specs.Ahead.{redo_ahead, first_place}
use Rattle.primary.specs.Progress.{tables_shown, end_of}
use Rattle.primary.specs.Starts.{base_of as base_by, fold_admitted, progress_after}
use Rattle.primary.proofs.FoldsLaw.{progress_folds}
use Rattle.primary.proofs.WalkLaws.{walk, seen, walk_is_fold}
use Rattle.standby_spec.specs.KeptState.{KeptState, base_of}
use Rattle.standby_spec.specs.StandbyRedo.{Archived, standby_redo, redo_entries, admitted_redo, front_at}
use Rattle.standby_spec.specs.Lawful.{Belongs}
use Rattle.standby_spec.proofs.FitsLaws.{FindsItself, finds-itself}
use Rattle.standby_spec.proofs.OverLaws.{admitted-before}
use Rattle.run_spec.specs.RunEnd.{run_fold}
use Rattle.run_spec.specs.RunStart.{run_mark, run_start, rows_by_id}
use Rattle.run_spec.proofs.Shown.{AreOld, AreLeft, AreLeftBy, commits-left, visible-left, visible-without}
use Rattle.run_spec.proofs.Starting.{well_before, rec_at, first_at, dictionary_is, head_is, shown_kept}
use Rattle.run_spec.proofs.Marks.{run-right, run-first, run-few}

-- ---- where it begins

start_standing : (logs : Archived) (s : KeptState) → Belongs logs s →
    redo_ahead logs s.logs (first_place s.first 0) ≡ standby_redo logs s →
    standing_of (run_start s).law ≡ from_mark (front_at logs s (run_mark s).q).standing (run_mark s).m
start_standing logs s b redo =
    let k = run_mark s in
    let right = run-right logs s b in
    let first = run-first s in
    let es = redo_entries logs s in
    let order = right.fits.order in
    let there = right.fits.there in
    let well = well_before s.first s.base es k.q k.m order right.fits.well in
    let log = first_at (take k.q es) (beginning s.first s.base) (no_history 0) in
    let rec = rec_at s.first s.base es k.q (omega (arith, order, there)) well in
    let head = head_is logs s s.n k b right first redo in
    let dictionary = dictionary_is logs s s.n k b right first in
    let scn = right.q_scn in
    let commit_scn = right.commit_scn in
    λ i. record {
      first = sym log i;
      known = k.m;
      rec = sym rec i;
      head = head i;
      scn = scn i;
      commit_scn = commit_scn i;
      dictionary = dictionary i;
      active = [];
    }

-- the records behind the mark are admitted by a run that begins there as by one of the redo
pub start_resumes : (logs : Archived) (s : KeptState) → Belongs logs s →
    redo_ahead logs s.logs (first_place s.first 0) ≡ standby_redo logs s → (es : List Entry) →
    admission (standing_of (run_start s).law) (no_history (run_start s).before) es ≡
    admission (from_mark (front_at logs s (run_mark s).q).standing (run_mark s).m)
    (no_history (commit_count (front_at logs s (run_mark s).q).history.commits)) es
start_resumes logs s b redo es =
    let standing = start_standing logs s b redo in
    let before = (run-right logs s b).before in
    λ i. admission (standing i) (no_history (before i)) es

-- ---- local rows

-- the base of the fold, with these as the local rows
abbrev pub base_with : KeptState → Tables → Base
base_with s local = record { tables = s.tables; n = s.n; scn = s.scn; local = local }

-- the tables of each count are visible as they are
pub run-shows : (logs : Archived) (s : KeptState) (cs : Commits) (n : ℕ) (ts : Tables) → Belongs logs s → s.n ≤ n →
    tables_at (base_of s) s.skips cs n ≡ Ok ts → visible_tables s.skips n s.tables ts ≡ ts
run-shows logs s cs n ts b le is =
    let old : AreOld s.n s.skips = b.fits.skips in
    let begins : AreLeft s.skips s.n s.tables s.tables = first_left s.tables s.tables (finds-itself 0 s.tables b.layout.ids) in
    let left : AreLeftBy s.skips s.n s.tables (tables_at (base_of s) s.skips cs n) =
    commits-left s.skips s.n s.n s.tables s.tables (take (n - s.n) (commits_after cs s.n)) old (omega arith) begins in
    visible-left s.skips s.n n s.tables ts old le (subst (λ r. AreLeftBy s.skips s.n s.tables r) is left)
  where
    first_left : (all us : Tables) → AllByRecursion (FindsItself all) us → AreLeft s.skips s.n all us
    first_left all [] is = tt
    first_left all (u ∷ us) is = (λ other. is.0, first_left all us is.1)

stops-alike : (logs : Archived) (s : KeptState) (cs : Commits) (n : ℕ) → Belongs logs s → s.n ≤ n →
    stop_at (base_with s []) s.skips cs n ≡ stop_at (base_of s) s.skips cs n
stops-alike logs s cs n b le =
    let scn = scn_at (base_of s) cs n in
    elim (tables_at (base_of s) s.skips cs n) as (λ r. tables_at (base_of s) s.skips cs n ≡ r →
    stop_of_commit scn (map_ok (λ ts. row_count (visible_tables s.skips n [] ts)) r) ≡
    stop_of_commit scn (map_ok (λ ts. row_count (visible_tables s.skips n s.tables ts)) r)) [
      | Ok ts ↦ λ is. ap (λ us. stop_of_commit scn (Ok (row_count us)))
          (visible-without s.skips n ts ∙ sym (run-shows logs s cs n ts b le is))
      | Err missed ↦ λ is. refl
    ] refl

reaches-alike : (logs : Archived) (s : KeptState) (cs : Commits) (n : ℕ) (more : List Committed) → Belongs logs s → s.n ≤ n →
    reached (base_with s []) s.skips cs n more ≡ reached (base_of s) s.skips cs n more
reaches-alike logs s cs n [] b le = refl
reaches-alike logs s cs n (c ∷ more) b le =
    let stop = stops-alike logs s cs (n + 1) b (omega (arith, le)) in
    let later = reaches-alike logs s cs (n + 1) more b (omega (arith, le)) in
    λ i. reached_or (stop i) n (later i)

tables-alike : (s : KeptState) (r : Result Tables Missed) → tables_or_base (base_with s []) r ≡ tables_or_base (base_of s) r
tables-alike s (Ok ts) = refl
tables-alike s (Err missed) = refl

folds-alike : (logs : Archived) (s : KeptState) (cs : Commits) (stop : Stop) → Belongs logs s →
    folded (base_with s []) s.skips cs stop ≡ folded_from (base_of s) s.skips cs stop s.n
folds-alike logs s cs stop b =
    let far = reaches-alike logs s cs s.n (commits_after cs s.n) b (omega arith) in
    ap (λ (r : Reached). folded_to (base_with s []) s.skips cs stop r) far ∙
    to (reached (base_of s) s.skips cs s.n (commits_after cs s.n))
  where
    to : (r : Reached) → folded_to (base_with s []) s.skips cs stop r ≡ folded_to (base_of s) s.skips cs stop r
    to r = let tables = tables-alike s (tables_at (base_of s) s.skips cs r.n) in
        λ i. record {
          n = r.n;
          scn = scn_at (base_of s) cs r.n;
          tables = tables i;
          names = definitions_of s.tables;
          verdict = verdict_of r.stop stop;
        }

-- ---- by the commits behind the count alone

fold_walks : (b : Base) (skips : List Skip) (cs : Commits) (stop : Stop) → b.local ≡ [] → cs.before ≤ b.n →
    folded b skips cs stop ≡ seen (definitions_of b.tables) stop (walk skips b.n b.scn b.tables (commits_after cs b.n))
fold_walks b skips cs stop none first =
    let here : b.n - b.n ≡ 0 = omega arith in
    let level : (b.n == b.n) ≡ true = grind (arith, nat_tests) in
    walk_is_fold b skips cs stop none first (commits_after cs b.n) b.n b.scn b.tables (omega arith) refl
    (ap (λ (m : ℕ). commit_effects skips b.n b.tables (take m (commits_after cs b.n))) here)
    (ap (λ e. cond e b.scn (option_map_or (λ d. d.scn) (slice_get cs.made (b.n - (cs.before + 1))) b.scn)) level)

-- ---- the whole

pub run-ends : (logs : Archived) (s : KeptState) → Belongs logs s →
    redo_ahead logs s.logs (first_place s.first 0) ≡ standby_redo logs s →
    end_of (standby_redo logs s).stop (progress_after (run_start s) s.skips (drop (run_mark s).q (redo_entries logs s)))
    ≡ run_fold logs s
run-ends logs s b redo =
    let k = run_mark s in
    let right = run-right logs s b in
    let es = redo_entries logs s in
    let start = run_start s in
    let stop = (standby_redo logs s).stop in
    let fits : MarkFits s.first s.base es k.q k.m s.n = right.fits in
    let r = resumed s.first s.base es k.q k.m in
    let a = admitted_redo logs s in
    let alike = resumed_alike s.first s.base es k.q k.m s.n fits in
    let fault : r.fault ≡ a.fault = ap (λ (x : Admitted). x.fault) alike in
    let names : r.left.tables ≡ a.left.tables = ap (λ (x : Admitted). x.left.tables) alike in
    let standing = resumed_standing s.first s.base es k.q k.m s.n fits in
    let rec : r.standing.rec ≡ a.standing.rec = ap (λ (x : Standing). x.rec) standing in
    let dictionary : r.standing.dictionary ≡ a.standing.dictionary = ap (λ (x : Standing). x.dictionary) standing in
    let later = resumed_commits s.first s.base es k.q k.m s.n fits in
    let ends : redo_end r stop ≡ redo_end a stop =
    (λ i. option_map_or (λ (f : LawFault). Malformed (rec i + 1) (causes.Law f)) (fault i) stop) in
    let tables : tables_shown r.standing.dictionary.finished r.standing.dictionary.tables (rows_by_id s.tables) ≡ s.tables =
    ap (λ (d : Dictionary). tables_shown d.finished d.tables (rows_by_id s.tables)) dictionary ∙ shown_kept logs s b in
    let base : base_by start r.standing ≡ base_with s [] =
    ap (λ (ts : Tables). record { tables = ts; n = s.n; scn = s.scn; local = [] }) tables in
    let few = run-few logs s b in
    let count = right.before in
    let first : r.history.commits.before ≤ s.n =
    omega (
      arith,
      few,
      count,
      admitted-before (from_mark (front_at logs s k.q).standing k.m)
          (no_history (commit_count (front_at logs s k.q).history.commits)) (drop k.q es),
    ) in
    let none : a.history.commits.before ≤ s.n =
    omega (arith, admitted-before (beginning s.first s.base) (no_history 0) es) in
    let walks : folded (base_with s []) s.skips r.history.commits (redo_end r stop) ≡
    folded (base_with s []) s.skips a.history.commits (redo_end a stop) =
    fold_walks (base_with s []) s.skips r.history.commits (redo_end r stop) refl first
    ∙ (λ i. seen (definitions_of s.tables) (ends i) (walk s.skips s.n s.scn s.tables (later i)))
    ∙ sym (fold_walks (base_with s []) s.skips a.history.commits (redo_end a stop) refl none) in
    progress_folds start s.skips (drop k.q es) stop few
    ∙ ap (fold_admitted start s.skips stop) (start_resumes logs s b redo (drop k.q es))
    ∙ ap (λ (x : Base). named_by r.left.tables (folded x s.skips r.history.commits (redo_end r stop))) base
    ∙ (λ i. named_by (names i) (walks i))
    ∙ ap (named_by a.left.tables) (folds-alike logs s a.history.commits (redo_end a stop) b)
