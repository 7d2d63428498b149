-- The commits of the first records are the first commits of the redo, and where there is one the dictionary is whole.
use Rattle.std.proofs.Common.{◌≡◌, ℕ, ◌-◌, ◌<◌, List, ◌++◌, take, length, true, refl, sym, ◌∙◌, None, arith}
use Rattle.std.proofs.Math.Seq.{take-append_seam}
use Rattle.redo_spec.specs.History.{Committed, no_history}
use Rattle.redo_spec.specs.Standing.{beginning}
use Rattle.standby_spec.specs.KeptState.{KeptState}
use Rattle.standby_spec.specs.StandbyRedo.{Archived, redo_entries, commits_of, front_at}
use Rattle.standby_spec.proofs.OverLaws.{admitted-before}
use Rattle.run_spec.specs.Taken.{commits_by, commits_up_to}
use Rattle.run_spec.proofs.Starting.{early_at, finished_where}
use Rattle.run_spec.proofs.Beside.{front_sound}
use Rattle.run_spec.proofs.MarksOn.{front-grown}

first-made : (n : ℕ) (first all more : List Committed) → n ≡ length first → all ≡ first ++ more → take n all ≡ first
first-made n first all more count is =
    (λ i. take (count i) (is i)) ∙ take-append_seam first more

pub first-commits : (logs : Archived) (s : KeptState) (k : ℕ) → (front_at logs s k).fault ≡ None →
    commits_up_to (commits_by logs s k) (commits_of logs s) ≡ (front_at logs s k).history.commits
first-commits logs s k well =
    let es = redo_entries logs s in
    let fc = (front_at logs s k).history.commits in
    let cs = commits_of logs s in
    let g = front-grown logs s k well in
    let none_k : fc.before ≡ 0 = (front_sound s.first s.base es k).before in
    let none : cs.before ≡ 0 = admitted-before (beginning s.first s.base) (no_history 0) es in
    let before : cs.before ≡ fc.before = none ∙ sym none_k in
    let made : take (commits_by logs s k - cs.before) cs.made ≡ fc.made =
    first-made (commits_by logs s k - cs.before) fc.made cs.made g.more (omega (arith, none_k, none)) g.is in
    λ i. record { before = before i; made = made i }

-- where the first records have a commit, the dictionary is whole behind them
pub first-whole : (logs : Archived) (s : KeptState) (k : ℕ) → 0 < commits_by logs s k →
    (front_at logs s k).standing.dictionary.finished ≡ true
first-whole logs s k some =
    let es = redo_entries logs s in
    let f = front_at logs s k in
    finished_where f.standing f.history (front_sound s.first s.base es k).before
    (early_at (take k es) (beginning s.first s.base) (no_history 0) (λ part. refl)) some
