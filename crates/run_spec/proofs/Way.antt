-- How far a run has come: a state that fits over the one with which it began is the fold's at its count.
use Rattle.std.proofs.Common.{◌≡◌, ℕ, suc, ◌+◌, ◌-◌, ◌≤◌, ◌<◌, List, [], ◌∷◌, length, true, false, refl, sym, ap, ◌∙◌, subst, None, Ok, arith}
use Rattle.std.specs.Prelude.{nat_lt}
use Rattle.std.proofs.lemmas.Bool.Decides.{nat_tests}
use Rattle.std.proofs.lemmas.List.{length-drop}
use Rattle.rl_value.specs.declared.miss.Miss.{Miss}
use Rattle.rl_value.specs.declared.miss.Miss.TheVariants.{Absent, Differs, Exists, Taken}
use Rattle.rl_value.specs.declared.verdict.Verdict.{Verdict}
use Rattle.rl_value.specs.declared.verdict.Verdict.TheVariants.{Stopped, Mismatch, RowLimit}
use Rattle.redo_vec.specs.declared.table.TableRow.{TableRow}
use Rattle.redo_spec.specs.Alike.{AreAlike, AreAlikeVerdicts}
use Rattle.redo_spec.specs.History.{Committed, Commits, commits_after, no_history}
use Rattle.redo_spec.specs.Skips.{Skip}
use Rattle.redo_spec.specs.Standing.{beginning}
use Rattle.redo_spec.specs.Fold.{Base, Folded, tables_at, scn_at, visible_tables, stop_at, reached, reached_or, tables_or_base, redo_end}
use Rattle.redo_spec.proofs.ReachLaws.{fold_tables}
use Rattle.standby_spec.specs.KeptState.{KeptState, base_of}
use Rattle.standby_spec.specs.StandbyRedo.{Archived, standby_redo, redo_entries, admitted_redo, commits_of}
use Rattle.standby_spec.specs.Fits.{Fits}
use Rattle.standby_spec.specs.Lawful.{Belongs}
use Rattle.standby_spec.specs.Publishing.{in_run}
use Rattle.standby_spec.proofs.OverLaws.{admitted-before, given}
use Rattle.run_spec.specs.RunEnd.{run_fold, IsFreeMark, IsMarkLeft, RunsTo, IsOnTheWay}
use Rattle.run_spec.specs.Taken.{fold_left}
use Rattle.run_spec.proofs.Ending.{run-shows}
use Rattle.run_spec.proofs.Prefix.{reached-least}

-- ---- how far a fold reaches

reached-past : (b : Base) (skips : List Skip) (cs : Commits) (n : ℕ) (more : List Committed) (k : ℕ) → k ≤ n + length more →
    ((i : ℕ) → n < i → i ≤ k → stop_at b skips cs i ≡ None) → k ≤ (reached b skips cs n more).n
reached-past b skips cs n [] k within none = omega (arith, within)
reached-past b skips cs n (c ∷ more) k within none =
    elim (nat_lt n k) as (λ w. nat_lt n k ≡ w → k ≤ (reached b skips cs n (c ∷ more)).n) [
      | true ↦ λ is.
          let above : n < k = grind (arith, nat_tests, is) in
          let first = none (n + 1) (omega arith) (omega (arith, above)) in
          let long : length (c ∷ more) ≡ suc (length more) = refl in
          let later = reached-past b skips cs (n + 1) more k (omega (arith, within, long))
          (λ i from to. none i (omega (arith, from)) to) in
          subst (λ o. k ≤ (reached_or o n (reached b skips cs (n + 1) more)).n) (sym first) later
      | false ↦ λ is.
          let low : k ≤ n = grind (arith, nat_tests, is) in
          let least = reached-least b skips cs n (c ∷ more) in
          omega (arith, low, least)
    ] refl

-- ---- some of the way

pub some-way : (logs : Archived) (distance : ℕ) (old new : KeptState) → Fits (base_of old) logs old.n new → new ≡ in_run old new →
    IsFreeMark logs distance old new.n (new.n - 1) new.mark → IsOnTheWay logs distance old new
some-way logs distance old new fits same mark =
    let f : Fits (base_of old) logs old.n (in_run old new) =
    subst (λ (s : KeptState). Fits (base_of old) logs old.n s) same fits in
    let cs = commits_of logs old in
    let run = f.run in
    let made = f.shows.made in
    let none : cs.before ≡ 0 = admitted-before (beginning old.first old.base) (no_history 0) (redo_entries logs old) in
    let long = length-drop (old.n - cs.before) cs.made in
    let g = given (visible_tables old.skips new.n old.tables) (tables_at (base_of old) old.skips cs new.n) new.tables
    f.shows.shown in
    let rows : new.tables ≡ visible_tables old.skips new.n old.tables
    (tables_or_base (base_of old) (tables_at (base_of old) old.skips cs new.n)) =
    sym g.1.1 ∙ ap (λ r. visible_tables old.skips new.n old.tables (tables_or_base (base_of old) r)) (sym g.1.0) in
    let scn : new.scn ≡ scn_at (base_of old) cs new.n = f.shows.scn in
    record {
      n = new.n;
      from = run;
      upto = reached-past (base_of old) old.skips cs old.n (commits_after cs old.n) new.n (omega (arith, run, made, none, long))
          (λ i above to. f.applied i (omega (arith, above)) to);
      mark = new.mark;
      kept = mark;
      leaves = same ∙ (λ i. record old { tables = rows i; n = new.n; scn = scn i; mark = new.mark });
    }

-- ---- all of it

alike-miss : (miss : Miss) → AreAlike miss miss
alike-miss (Absent k) = refl
alike-miss (Differs column logged found) = refl
alike-miss (Exists k) = refl
alike-miss (Taken index owner) = (owner, refl)

alike-verdict : (v : Verdict) → AreAlikeVerdicts v v
alike-verdict (Stopped stop) = refl
alike-verdict (Mismatch scn pos table miss) = (miss, alike-miss miss, refl)
alike-verdict (RowLimit scn) = refl

pub all-way : (logs : Archived) (distance : ℕ) (old new : KeptState) (verdict : Verdict) (names : List TableRow) →
    Belongs logs old →
    new ≡ in_run old new → run_fold logs old ≡ fold_left new verdict names →
    IsMarkLeft logs distance old (run_fold logs old) verdict new.mark → RunsTo logs distance old new verdict
all-way logs distance old new verdict names b same ends mark =
    let f = run_fold logs old in
    let cs = commits_of logs old in
    let stop = redo_end (admitted_redo logs old) (standby_redo logs old).stop in
    let verdicts : f.verdict ≡ verdict = ap (λ (x : Folded). x.verdict) ends in
    let counts : f.n ≡ new.n = ap (λ (x : Folded). x.n) ends in
    let scns : f.scn ≡ new.scn = ap (λ (x : Folded). x.scn) ends in
    let tables : f.tables ≡ new.tables = ap (λ (x : Folded). x.tables) ends in
    let at : tables_at (base_of old) old.skips cs f.n ≡ Ok f.tables = fold_tables (base_of old) old.skips cs stop in
    let least : old.n ≤ f.n = reached-least (base_of old) old.skips cs old.n (commits_after cs old.n) in
    let shown : visible_tables old.skips f.n old.tables f.tables ≡ f.tables = run-shows logs old cs f.n f.tables b least at in
    let rows : new.tables ≡ visible_tables old.skips f.n old.tables f.tables = sym tables ∙ sym shown in
    record {
      ends = subst (λ (v : Verdict). AreAlikeVerdicts f.verdict v) verdicts (alike-verdict f.verdict);
      mark = new.mark;
      kept = subst (λ (v : Verdict). IsMarkLeft logs distance old f v new.mark) (sym verdicts) mark;
      leaves = same ∙ (λ i. record old { tables = rows i; n = sym counts i; scn = sym scns i; mark = new.mark });
    }
