-- How far a fold comes: to the first commit that may not be applied, and the tables that it shows are those of its count.
use Rattle.std.proofs.Common.{◌≡◌, ℕ, ◌+◌, ◌-◌, ◌≤◌, ◌<◌, suc, List, [], ◌∷◌, take, length, sym, ap, ◌∙◌, refl, Option, Some, None, Result, Ok, Err, arith, ⊎_elim}
use Rattle.std.proofs.lemmas.Bool.{cases_lt}
use Rattle.std.proofs.lemmas.List.{length-drop}
use Rattle.rl_value.specs.declared.verdict.Stop.{Stop}
use Rattle.rl_value.specs.declared.verdict.Verdict.{Verdict}
use Rattle.rl_value.specs.declared.verdict.Verdict.TheVariants.{Stopped}
use Rattle.rl_value.specs.Outcome.{map_ok}
use Rattle.redo_spec.specs.Tables.{Tables, row_count}
use Rattle.redo_spec.specs.History.{Committed, Commits, commits_after, commit_count}
use Rattle.redo_spec.specs.Skips.{Skip}
use Rattle.redo_spec.specs.Fold.{Base, Missed, Reached, commit_effects, tables_at, scn_at, visible_tables, stop_of_commit, stop_at, reached, reached_or, verdict_of, tables_or_base, folded}

-- ---- the tables

-- where nothing stops there are tables
unstopped : (scn : ℕ) (rows : Tables → ℕ) (r : Result Tables Missed) → stop_of_commit scn (map_ok rows r) ≡ None →
    (t : Tables) × (r ≡ Ok t)
unstopped scn rows (Ok t) e = (t, refl)
unstopped scn rows (Err m) e = absurd (cc)

tables_or : (b : Base) (skips : List Skip) (cs : Commits) (n : ℕ) (o : Option Verdict) (later : Reached) → (t : Tables) ×
    (tables_at b skips cs n ≡ Ok t) →
    (o ≡ None → (t : Tables) × (tables_at b skips cs later.n ≡ Ok t)) → (t : Tables) ×
    (tables_at b skips cs (reached_or o n later).n ≡ Ok t)
tables_or b skips cs n None later here more = more refl
tables_or b skips cs n (Some stop) later here more = here

reached_tables : (b : Base) (skips : List Skip) (cs : Commits) (n : ℕ) (more : List Committed) → (t : Tables) ×
    (tables_at b skips cs n ≡ Ok t) →
    (t : Tables) × (tables_at b skips cs (reached b skips cs n more).n ≡ Ok t)
reached_tables b skips cs n [] here = here
reached_tables b skips cs n (c ∷ more) here =
    tables_or b skips cs n (stop_at b skips cs (n + 1)) (reached b skips cs (n + 1) more) here
    (λ none.
    reached_tables b skips cs (n + 1) more (unstopped (scn_at b cs (n + 1))
    (λ tables. row_count (visible_tables skips (n + 1) b.local tables)) (tables_at b skips cs (n + 1)) none))

-- a fold shows the tables of its count
pub fold_tables : (b : Base) (skips : List Skip) (cs : Commits) (stop : Stop) →
    tables_at b skips cs (folded b skips cs stop).n ≡ Ok (folded b skips cs stop).tables
fold_tables b skips cs stop =
    let none : b.n - b.n ≡ 0 = omega arith in
    let first : tables_at b skips cs b.n ≡ Ok b.tables =
    ap (λ k. commit_effects skips b.n b.tables (take k (commits_after cs b.n))) none in
    let found = reached_tables b skips cs b.n (commits_after cs b.n) (b.tables, first) in
    found.1 ∙ sym (ap (λ (r : Result Tables Missed). Ok (tables_or_base b r)) found.1)

-- ---- the first commit that may not be applied

before_or : (b : Base) (skips : List Skip) (cs : Commits) (n k : ℕ) (o : Option Verdict) (later : Reached) →
    stop_at b skips cs (n + 1) ≡ o → n ≤ k → k < (reached_or o n later).n →
    (n + 1 ≤ k → k < later.n → stop_at b skips cs (k + 1) ≡ None) → stop_at b skips cs (k + 1) ≡ None
before_or b skips cs n k (Some stop) later is from before more = absurd (omega (arith, from, before))
before_or b skips cs n k None later is from before more =
    ⊎_elim (λ low. more (omega (arith, low)) before)
    (λ high. let same : k ≡ n = omega (arith, high, from) in ap (λ j. stop_at b skips cs (j + 1)) same ∙ is)
    (cases_lt n k)

reached_before : (b : Base) (skips : List Skip) (cs : Commits) (n : ℕ) (more : List Committed) (k : ℕ) → n ≤ k →
    k < (reached b skips cs n more).n → stop_at b skips cs (k + 1) ≡ None
reached_before b skips cs n [] k from before = absurd (omega (arith, from, before))
reached_before b skips cs n (c ∷ more) k from before =
    before_or b skips cs n k (stop_at b skips cs (n + 1)) (reached b skips cs (n + 1) more) refl from before
    (λ next lower. reached_before b skips cs (n + 1) more k next lower)

-- no commit up to its count stops a fold
pub fold_before : (b : Base) (skips : List Skip) (cs : Commits) (stop : Stop) (k : ℕ) → b.n ≤ k → k < (folded b skips cs stop).n →
    stop_at b skips cs (k + 1) ≡ None
fold_before b skips cs stop k from before = reached_before b skips cs b.n (commits_after cs b.n) k from before

there_or : (b : Base) (skips : List Skip) (cs : Commits) (stop : Stop) (n : ℕ) (o : Option Verdict) (later : Reached) →
    stop_at b skips cs (n + 1) ≡ o →
    (o ≡ None → stop_at b skips cs (later.n + 1) ≡ Some (verdict_of later.stop stop)) →
    stop_at b skips cs ((reached_or o n later).n + 1) ≡ Some (verdict_of (reached_or o n later).stop stop)
there_or b skips cs stop n (Some found) later is more = is
there_or b skips cs stop n None later is more = more refl

lower_or : (n count : ℕ) (o : Option Verdict) (later : Reached) → (reached_or o n later).n < count → o ≡ None → later.n < count
lower_or n count None later low is = low
lower_or n count (Some found) later low is = absurd (cc)

reached_there : (b : Base) (skips : List Skip) (cs : Commits) (stop : Stop) (n : ℕ) (more : List Committed) →
    commit_count cs ≤ n + length more → (reached b skips cs n more).n < commit_count cs →
    stop_at b skips cs ((reached b skips cs n more).n + 1) ≡ Some (verdict_of (reached b skips cs n more).stop stop)
reached_there b skips cs stop n [] all low = absurd (omega (arith, all, low))
reached_there b skips cs stop n (c ∷ more) all low =
    let later = reached b skips cs (n + 1) more in
    let long : length (c ∷ more) ≡ suc (length more) = refl in
    there_or b skips cs stop n (stop_at b skips cs (n + 1)) later refl
    (λ none. reached_there b skips cs stop (n + 1) more (omega (arith, all, long))
    (lower_or n (commit_count cs) (stop_at b skips cs (n + 1)) later low none))

rest_count : (b : Base) (cs : Commits) → cs.before ≤ b.n → commit_count cs ≤ b.n + length (commits_after cs b.n)
rest_count b cs first = omega (arith, first, length-drop (b.n - cs.before) cs.made)

-- the next commit stops a fold that has not come to the last one
pub fold_there : (b : Base) (skips : List Skip) (cs : Commits) (stop : Stop) → cs.before ≤ b.n →
    (folded b skips cs stop).n < commit_count cs →
    stop_at b skips cs ((folded b skips cs stop).n + 1) ≡ Some (folded b skips cs stop).verdict
fold_there b skips cs stop first low = reached_there b skips cs stop b.n (commits_after cs b.n) (rest_count b cs first) low

all_or : (n count : ℕ) (o : Option Verdict) (later : Reached) → n < count → count ≤ (reached_or o n later).n →
    (count ≤ later.n → later.stop ≡ None) → (reached_or o n later).stop ≡ None
all_or n count None later low high more = more high
all_or n count (Some found) later low high more = absurd (omega (arith, low, high))

reached_last : (b : Base) (skips : List Skip) (cs : Commits) (n : ℕ) (more : List Committed) → n + length more ≤ commit_count cs →
    commit_count cs ≤ (reached b skips cs n more).n →
    (reached b skips cs n more).stop ≡ None
reached_last b skips cs n [] all high = refl
reached_last b skips cs n (c ∷ more) all high =
    let long : length (c ∷ more) ≡ suc (length more) = refl in
    all_or n (commit_count cs) (stop_at b skips cs (n + 1)) (reached b skips cs (n + 1) more) (omega (arith, all, long)) high
    (λ higher. reached_last b skips cs (n + 1) more (omega (arith, all, long)) higher)

-- a fold that comes to the last commit ends as the redo does
pub fold_last : (b : Base) (skips : List Skip) (cs : Commits) (stop : Stop) → cs.before ≤ b.n → b.n ≤ commit_count cs →
    commit_count cs ≤ (folded b skips cs stop).n →
    (folded b skips cs stop).verdict ≡ Stopped stop
fold_last b skips cs stop first some high =
    let all : b.n + length (commits_after cs b.n) ≤ commit_count cs =
    omega (arith, first, some, length-drop (b.n - cs.before) cs.made) in
    ap (λ o. verdict_of o stop) (reached_last b skips cs b.n (commits_after cs b.n) all high)
