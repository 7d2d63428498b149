-- A run on its way: behind each record that it has taken it shows the tables and the SCN of the fold at its count, and its count
-- is that of the commits so far, or the one with which it began.
use Rattle.std.proofs.Common.{◌≡◌, ℕ, zero, suc, ◌+◌, ◌-◌, ◌≤◌, ◌<◌, nat_lt, List, [], ◌∷◌, ◌++◌, take, drop, length, map, append_assoc, slice_get, true, false, refl, sym, ap, ◌∙◌, subst, Option, Some, None, Result, Ok, Err, arith}
use Rattle.std.specs.Prelude.{◌==◌, if◌then◌else◌}
use Rattle.std.specs.Option.{option_map_or}
use Rattle.std.proofs.lemmas.Bool.Decides.{nat_tests}
use Rattle.std.proofs.lemmas.Option.{slice_get_past}
use Rattle.std.proofs.lemmas.List.{append-nil, length-drop, drop-take, take-append-le, take-append-drop}
use Rattle.rl_value.specs.declared.pos.Pos.{Pos}
use Rattle.rl_value.specs.declared.cause.LawFault.{LawFault}
use Rattle.rl_value.specs.declared.cause.Cause.TheVariants as causes
use Rattle.rl_value.specs.declared.verdict.Stop.{Stop}
use Rattle.rl_value.specs.declared.verdict.Stop.TheVariants.{Malformed}
use Rattle.rl_value.specs.declared.verdict.Verdict.{Verdict}
use Rattle.rl_value.specs.declared.verdict.Verdict.TheVariants.{Stopped, RowLimit}
use Rattle.rl_value.specs.Outcome.{map_ok}
use Rattle.redo_vec.specs.declared.vector.Vector.{Vector}
use Rattle.redo_vec.specs.declared.vector.Vector.TheVariants.{Start, Change as OfChange, Undo, Commit, Rollback, Table, DictEnd}
use Rattle.redo_spec.specs.Dictionary.{Dictionary}
use Rattle.redo_spec.specs.History.{Entry, Committed, Commits, History, commits_after, commit_count, no_history, txns_ended_by, after_vector, after_vectors, history_after}
use Rattle.redo_spec.specs.Law.{Admitted, admission}
use Rattle.redo_spec.specs.Mark.{resumed}
use Rattle.redo_spec.specs.Skips.{Skip}
use Rattle.redo_spec.specs.Standing.{Standing, beginning}
use Rattle.redo_spec.specs.Tables.{Tables, row_count}
use Rattle.redo_spec.specs.Fold.{Base, Folded, Missed, live_row_limit, commit_effects, tables_at, scn_at, visible_tables, stop_of_commit, stop_at, reached, reached_or, folded, redo_end}
use Rattle.redo_spec.proofs.AdmissionLaws.{append_well}
use Rattle.redo_spec.proofs.MarkLaws.{resumed_commits}
use Rattle.redo_spec.proofs.MarkStandings.{behind}
use Rattle.redo_spec.proofs.MarkHistories.{committed}
use Rattle.redo_spec.proofs.ReachLaws.{fold_tables, fold_there}
use Rattle.redo_law.specs.Calls.{standing_of}
use Rattle.redo_reader.specs.Ahead.{redo_ahead, first_place}
use Rattle.primary.specs.declared.plain.Plain.{Plain}
use Rattle.primary.specs.Progress.{FoldState, Progress, Going, tables_shown, held_at, end_of}
use Rattle.primary.specs.Starts.{base_of as base_by, fold_from}
use Rattle.primary.proofs.FoldsLaw.{progress_folds}
use Rattle.standby_spec.specs.KeptState.{KeptState, base_of}
use Rattle.standby_spec.specs.StandbyRedo.{Archived, standby_redo, redo_entries, commits_of, front_at}
use Rattle.standby_spec.specs.Lawful.{Belongs}
use Rattle.standby_spec.proofs.OverLaws.{admitted-before}
use Rattle.run_spec.specs.RunStart.{run_mark, run_start, rows_by_id, whole_dictionary}
use Rattle.run_spec.specs.Taken.{taken_records, run_admitted, run_progress, commits_by, IsCount}
use Rattle.run_spec.proofs.Starting.{assembled-again, whole_front}
use Rattle.run_spec.proofs.Marks.{run-right, run-few}
use Rattle.run_spec.proofs.Beside.{kept, resumed_to, beside, beside_well, beside_count, known_well}
use Rattle.run_spec.proofs.Ending.{start_resumes}

-- ---- commits grow

pub record Grown (xs ys : List Committed) : Type 0 where
  pub more : List Committed
  pub is : ys ≡ xs ++ more

pub grown-none : (xs : List Committed) → Grown xs xs
grown-none xs = record { more = []; is = sym (append-nil xs) }

grown-on : (xs ys zs : List Committed) → Grown xs ys → Grown ys zs → Grown xs zs
grown-on xs ys zs g k = record {
  more = g.more ++ k.more;
  is = k.is ∙ ap (λ (l : List Committed). l ++ k.more) g.is ∙ append_assoc xs g.more k.more;
}

grown-vector : (scn : ℕ) (at : Pos) (v : Vector) (h : History) → Grown h.commits.made (after_vector scn at v h).commits.made
grown-vector scn at (Start x) h = grown-none h.commits.made
grown-vector scn at (OfChange c) h = grown-none h.commits.made
grown-vector scn at (Undo x) h = grown-none h.commits.made
grown-vector scn at (Commit x) h = record {
  more = map (committed at scn) (txns_ended_by at x h.active);
  is = refl;
}
grown-vector scn at (Rollback x) h = grown-none h.commits.made
grown-vector scn at (Table t) h = grown-none h.commits.made
grown-vector scn at DictEnd h = grown-none h.commits.made

grown-vectors : (scn rec vec : ℕ) (vs : List Vector) (h : History) →
    Grown h.commits.made (after_vectors scn rec vec vs h).commits.made
grown-vectors scn rec vec [] h = grown-none h.commits.made
grown-vectors scn rec vec (v ∷ vs) h =
    let at : Pos = record { rec = rec; vec = vec } in
    grown-on h.commits.made (after_vector scn at v h).commits.made
    (after_vectors scn rec (vec + 1) vs (after_vector scn at v h)).commits.made (grown-vector scn at v h)
    (grown-vectors scn rec (vec + 1) vs (after_vector scn at v h))

grown-record : (rec : ℕ) (e : Entry) (h : History) → Grown h.commits.made (history_after rec e h).commits.made
grown-record rec (head, r) h = grown-vectors r.scn rec 1 r.vectors h

pub grown : (es : List Entry) (s : Standing) (h : History) → Grown h.commits.made (admission s h es).history.commits.made
grown es s h =
    kept (λ t g. Grown h.commits.made g.commits.made)
    (λ e t g here fits. grown-on h.commits.made g.commits.made (history_after (t.rec + 1) e g).commits.made here
    (grown-record (t.rec + 1) e g)) es s h (grown-none h.commits.made)

-- ---- lists

slice-drop : {A : Type 0} (i j : ℕ) (xs : List A) → slice_get (drop i xs) j ≡ slice_get xs (i + j)
slice-drop zero j xs = let same : j ≡ 0 + j = omega arith in ap (λ n. slice_get xs n) same
slice-drop (suc i) j [] = slice_get_past [] j (omega arith) ∙ sym (slice_get_past [] (suc i + j) (omega arith))
slice-drop (suc i) j (x ∷ xs) =
    let same : suc (i + j) ≡ suc i + j = omega arith in slice-drop i j xs ∙ ap (λ n. slice_get (x ∷ xs) n) same

pub slice-front : {A : Type 0} (xs ys : List A) (k : ℕ) → k < length xs → slice_get (xs ++ ys) k ≡ slice_get xs k
slice-front [] ys k h = absurd (omega (arith, h))
slice-front (x ∷ xs) ys zero h = refl
slice-front (x ∷ xs) ys (suc k) h = slice-front xs ys k (omega (arith, h))

take-inside : {A : Type 0} (i j : ℕ) (xs ys : List A) → i + j ≤ length xs → take j (drop i (xs ++ ys)) ≡ take j (drop i xs)
take-inside i j xs ys inside =
    sym (drop-take i j (xs ++ ys)) ∙ ap (λ zs. drop i zs) (take-append-le (i + j) xs ys inside) ∙ drop-take i j xs

minus-none : (n : ℕ) → n - 0 ≡ n
minus-none n = omega arith

-- ---- how far a fold reaches

reached-most : (b : Base) (skips : List Skip) (cs : Commits) (n : ℕ) (more : List Committed) →
    (reached b skips cs n more).n ≤ n + length more
reached-most b skips cs n [] = omega arith
reached-most b skips cs n (c ∷ more) =
    let later = reached-most b skips cs (n + 1) more in
    elim (stop_at b skips cs (n + 1)) as (λ o. (reached_or o n (reached b skips cs (n + 1) more)).n ≤ n + length (c ∷ more)) [
      | Some stop ↦ omega arith
      | None ↦ omega (arith, later)
    ]

-- and it is no fewer than where it begins
pub reached-least : (b : Base) (skips : List Skip) (cs : Commits) (n : ℕ) (more : List Committed) →
    n ≤ (reached b skips cs n more).n
reached-least b skips cs n [] = omega arith
reached-least b skips cs n (c ∷ more) =
    let later = reached-least b skips cs (n + 1) more in
    elim (stop_at b skips cs (n + 1)) as (λ o. n ≤ (reached_or o n (reached b skips cs (n + 1) more)).n) [
      | Some stop ↦ omega arith
      | None ↦ omega (arith, later)
    ]

-- no commit ends a fold as the redo's end does
never-stopped : (P : Type 0) (scn : ℕ) (r : Result ℕ Missed) (stop : Stop) → stop_of_commit scn r ≡ Some (Stopped stop) → P
never-stopped P scn (Err m) stop e = absurd (cc)
never-stopped P scn (Ok rows) stop e =
    elim (nat_lt live_row_limit rows) as (λ t. (if t then Some (RowLimit scn) else None) ≡ Some (Stopped stop) → P) [
      | true ↦ λ is. absurd (cc)
      | false ↦ λ is. absurd (cc)
    ] e

-- where a fold ends by the redo's end, it has all commits, if it began with no more
all-made : (b : Base) (skips : List Skip) (cs : Commits) (stop other : Stop) → cs.before ≤ b.n →
    (folded b skips cs stop).verdict ≡ Stopped other → commit_count cs ≤ (folded b skips cs stop).n
all-made b skips cs stop other first ends =
    let f = folded b skips cs stop in
    elim (nat_lt f.n (commit_count cs)) as (λ t. nat_lt f.n (commit_count cs) ≡ t → commit_count cs ≤ f.n) [
      | true ↦ λ is.
          let low : f.n < commit_count cs = grind (arith, nat_tests, is) in
          never-stopped (commit_count cs ≤ f.n) (scn_at b cs (f.n + 1))
          (map_ok (λ tables. row_count (visible_tables skips (f.n + 1) b.local tables)) (tables_at b skips cs (f.n + 1))) other
          (fold_there b skips cs stop first low ∙ ap (λ (v : Verdict). Some v) ends)
      | false ↦ λ is. grind (arith, nat_tests, is)
    ] refl

none-made : (b : Base) (skips : List Skip) (cs : Commits) (stop : Stop) → cs.before ≤ b.n →
    b.n < (folded b skips cs stop).n → (folded b skips cs stop).n ≤ commit_count cs
none-made b skips cs stop first past =
    let most : (folded b skips cs stop).n ≤ b.n + length (commits_after cs b.n) =
    reached-most b skips cs b.n (commits_after cs b.n) in
    let long = length-drop (b.n - cs.before) cs.made in
    omega (arith, first, past, most, long)

-- ---- a run between two records

-- a run from a mark admits what it would from there
run-admitted-is : (logs : Archived) (s : KeptState) (k : ℕ) → Belongs logs s →
    redo_ahead logs s.logs (first_place s.first 0) ≡ standby_redo logs s →
    run_admitted logs s k ≡ resumed_to s.first s.base (redo_entries logs s) (run_mark s).q (run_mark s).m k
run-admitted-is logs s k b redo = start_resumes logs s b redo (taken_records logs s k)

pub run-well : (logs : Archived) (s : KeptState) (k : ℕ) → Belongs logs s →
    redo_ahead logs s.logs (first_place s.first 0) ≡ standby_redo logs s → (run_mark s).q ≤ k →
    k ≤ length (redo_entries logs s) → (run_admitted logs s k).fault ≡ (front_at logs s k).fault
run-well logs s k b redo order there =
    ap (λ (a : Admitted). a.fault) (run-admitted-is logs s k b redo)
    ∙ beside_well s.first s.base (redo_entries logs s) (run_mark s).q (run_mark s).m s.n k (run-right logs s b).fits order there

pub run-counts : (logs : Archived) (s : KeptState) (k : ℕ) → Belongs logs s →
    redo_ahead logs s.logs (first_place s.first 0) ≡ standby_redo logs s → (run_mark s).q ≤ k →
    k ≤ length (redo_entries logs s) → commit_count (run_admitted logs s k).history.commits ≡ commits_by logs s k
run-counts logs s k b redo order there =
    ap (λ (a : Admitted). commit_count a.history.commits) (run-admitted-is logs s k b redo)
    ∙ beside_count s.first s.base (redo_entries logs s) (run_mark s).q (run_mark s).m s.n k (run-right logs s b).fits order there

-- its standing is that of the whole redo, but for the transactions that began up to record q
pub run-standing : (logs : Archived) (s : KeptState) (k : ℕ) → Belongs logs s →
    redo_ahead logs s.logs (first_place s.first 0) ≡ standby_redo logs s → (run_mark s).q ≤ k →
    k ≤ length (redo_entries logs s) →
    (run_admitted logs s k).standing ≡ behind (run_mark s).q (run_mark s).m (front_at logs s k).standing
run-standing logs s k b redo order there =
    let m = run_mark s in
    let es = redo_entries logs s in
    let fits = (run-right logs s b).fits in
    ap (λ (a : Admitted). a.standing) (run-admitted-is logs s k b redo)
    ∙ ap (λ (a : Admitted). a.standing)
    (beside s.first s.base es m.q m.m s.n k fits order there (λ low. known_well s.first s.base es m.q m.m s.n k fits low))

-- what an evaluator that goes on shows, as a fold of the records so far
record Shown (start : Plain) (skips : List Skip) (r : Admitted) (stop : Stop) (a : FoldState) : Type 0 where
  n : (folded (base_by start r.standing) skips r.history.commits stop).n ≡ a.n
  scn : scn_at (base_by start r.standing) r.history.commits a.n ≡ a.scn
  tables : tables_at (base_by start r.standing) skips r.history.commits a.n ≡ Ok a.tables
  ends : (folded (base_by start r.standing) skips r.history.commits stop).verdict ≡ Stopped stop

shown-by : (start : Plain) (skips : List Skip) (es : List Entry) (stop : Stop) (a : FoldState) (p : Progress) →
    let r = admission (standing_of start.law) (no_history start.before) es in
    r.fault ≡ None → p ≡ Going a → end_of stop p ≡ fold_from start skips es stop → Shown start skips r stop a
shown-by start skips es stop a p well goes is =
    let r = admission (standing_of start.law) (no_history start.before) es in
    let b = base_by start r.standing in
    let cs = r.history.commits in
    let f = folded b skips cs stop in
    let end : redo_end r stop ≡ stop = ap
    (λ (o : Option LawFault). option_map_or (λ (f : LawFault). Malformed (r.standing.rec + 1) (causes.Law f)) o stop) well in
    let whole : fold_from start skips es stop ≡ held_at a (Stopped stop) = sym is ∙ ap (end_of stop) goes in
    let n : f.n ≡ a.n = ap (λ (x : Stop). (folded b skips cs x).n) (sym end) ∙ ap (λ (x : Folded). x.n) whole in
    let scn : f.scn ≡ a.scn = ap (λ (x : Stop). (folded b skips cs x).scn) (sym end) ∙ ap (λ (x : Folded). x.scn) whole in
    let tables : f.tables ≡ a.tables = ap (λ (x : Stop). (folded b skips cs x).tables) (sym end) ∙
    ap (λ (x : Folded). x.tables) whole in
    let ends : f.verdict ≡ Stopped stop = ap (λ (x : Stop). (folded b skips cs x).verdict) (sym end) ∙
    ap (λ (x : Folded). x.verdict) whole in
    record {
      n = n;
      scn = ap (λ (j : ℕ). scn_at b cs j) (sym n) ∙ scn;
      tables = ap (λ (j : ℕ). tables_at b skips cs j) (sym n) ∙ fold_tables b skips cs stop ∙
          ap (λ (ts : Tables). Ok ts) tables;
      ends = ends;
    }

run-shown : (logs : Archived) (s : KeptState) (k : ℕ) (a : FoldState) → Belongs logs s → run_progress logs s k ≡ Going a →
    (run_admitted logs s k).fault ≡ None →
    Shown (run_start s) s.skips (run_admitted logs s k) (standby_redo logs s).stop a
run-shown logs s k a b goes well =
    let stop = (standby_redo logs s).stop in
    shown-by (run_start s) s.skips (taken_records logs s k) stop a (run_progress logs s k) well goes
    (progress_folds (run_start s) s.skips (taken_records logs s k) stop (run-few logs s b))

run-before : (logs : Archived) (s : KeptState) (k : ℕ) → Belongs logs s → (run_admitted logs s k).history.commits.before ≤ s.n
run-before logs s k b =
    let few = run-few logs s b in
    omega (
      arith,
      few,
      admitted-before (standing_of (run_start s).law) (no_history (run_start s).before) (taken_records logs s k),
    )

pub run-count : (logs : Archived) (s : KeptState) (k : ℕ) (a : FoldState) → Belongs logs s →
    redo_ahead logs s.logs (first_place s.first 0) ≡ standby_redo logs s → (run_mark s).q ≤ k →
    k ≤ length (redo_entries logs s) → run_progress logs s k ≡ Going a → (run_admitted logs s k).fault ≡ None →
    IsCount a.n (commits_by logs s k) s.n
run-count logs s k a b redo order there goes well =
    let start = run_start s in
    let r = run_admitted logs s k in
    let stop = (standby_redo logs s).stop in
    let base = base_by start r.standing in
    let cs = r.history.commits in
    let sh = run-shown logs s k a b goes well in
    let first = run-before logs s k b in
    let count = run-counts logs s k b redo order there in
    let n = sh.n in
    let made = all-made base s.skips cs stop stop first sh.ends in
    let least : s.n ≤ (folded base s.skips cs stop).n = reached-least base s.skips cs s.n (commits_after cs s.n) in
    record {
      most = omega (arith, n, made, count);
      least = omega (arith, n, least);
      same = λ past.
          let few = none-made base s.skips cs stop first (omega (arith, n, past)) in omega (arith, n, made, few, count);
    }

-- ---- by the commits of the whole redo

-- the commits of a run from its mark to the end of the redo, above the count with which it began, are those of the whole redo
run-commits : (logs : Archived) (s : KeptState) → Belongs logs s →
    commits_after (resumed s.first s.base (redo_entries logs s) (run_mark s).q (run_mark s).m).history.commits s.n ≡
    commits_after (commits_of logs s) s.n
run-commits logs s b =
    resumed_commits s.first s.base (redo_entries logs s) (run_mark s).q (run_mark s).m s.n (run-right logs s b).fits

-- those that it has come to are the first of them
pub run-grown : (logs : Archived) (s : KeptState) (k : ℕ) → Belongs logs s →
    redo_ahead logs s.logs (first_place s.first 0) ≡ standby_redo logs s → (run_admitted logs s k).fault ≡ None →
    Grown (run_admitted logs s k).history.commits.made
    (resumed s.first s.base (redo_entries logs s) (run_mark s).q (run_mark s).m).history.commits.made
run-grown logs s k b redo well =
    let start = run_start s in
    let j = k - (run_mark s).q in
    let es = drop (run_mark s).q (redo_entries logs s) in
    let r = run_admitted logs s k in
    let all : admission (standing_of start.law) (no_history start.before) es ≡ admission r.standing r.history (drop j es) =
    ap (λ (xs : List Entry). admission (standing_of start.law) (no_history start.before) xs) (sym (take-append-drop j es)) ∙
    append_well (take j es) (drop j es) (standing_of start.law) (no_history start.before) well in
    subst (λ (a : Admitted). Grown r.history.commits.made a.history.commits.made)
    (sym all ∙ start_resumes logs s b redo es) (grown (drop j es) r.standing r.history)

before-alike : (logs : Archived) (s : KeptState) (k : ℕ) → Belongs logs s →
    redo_ahead logs s.logs (first_place s.first 0) ≡ standby_redo logs s →
    (resumed s.first s.base (redo_entries logs s) (run_mark s).q (run_mark s).m).history.commits.before ≡
    (run_admitted logs s k).history.commits.before
before-alike logs s k b redo =
    let start = run_start s in
    let es = drop (run_mark s).q (redo_entries logs s) in
    ap (λ (x : Admitted). x.history.commits.before) (sym (start_resumes logs s b redo es))
    ∙ admitted-before (standing_of start.law) (no_history start.before) es
    ∙ sym (admitted-before (standing_of start.law) (no_history start.before) (taken_records logs s k))

-- the commits from a count up to another
same-made : (n m made_n : ℕ) (rs ws : List Committed) → made_n ≤ n → Grown rs ws → (n < m → m ≤ made_n + length rs) →
    take (m - n) (drop (n - made_n) ws) ≡ take (m - n) (drop (n - made_n) rs)
same-made n m made_n rs ws first g inside =
    elim (nat_lt n m) as (λ t. nat_lt n m ≡ t →
    take (m - n) (drop (n - made_n) ws) ≡ take (m - n) (drop (n - made_n) rs)) [
      | true ↦ λ is.
          let past : n < m = grind (arith, nat_tests, is) in
          let few = inside past in
          ap (λ (l : List Committed). take (m - n) (drop (n - made_n) l)) g.is ∙
          take-inside (n - made_n) (m - n) rs g.more (omega (arith, first, past, few))
      | false ↦ λ is.
          let level : m - n ≡ 0 = let low : m ≤ n = grind (arith, nat_tests, is) in omega (arith, low) in
          ap (λ j. take j (drop (n - made_n) ws)) level ∙ sym (ap (λ j. take j (drop (n - made_n) rs)) level)
    ] refl

scn-alike : (n m base made_n : ℕ) (rs ws cs : List Committed) → made_n ≤ n → Grown rs ws → n < m → m ≤ made_n + length rs →
    drop (n - made_n) ws ≡ drop n cs →
    option_map_or (λ c. c.scn) (slice_get rs (m - (made_n + 1))) base ≡ option_map_or (λ c. c.scn) (slice_get cs (m - 1)) base
scn-alike n m base made_n rs ws cs first g past inside same =
    let j = m - (n + 1) in
    let i = n - made_n in
    let low : m - (made_n + 1) ≡ i + j = omega (arith, first, past) in
    let high : n + j ≡ m - 1 = omega (arith, past) in
    ap (λ (o : Option Committed). option_map_or (λ c. c.scn) o base)
    (ap (λ x. slice_get rs x) low
    ∙ sym (slice-front rs g.more (i + j) (omega (arith, first, past, inside)))
    ∙ ap (λ (l : List Committed). slice_get l (i + j)) (sym g.is)
    ∙ sym (slice-drop i j ws)
    ∙ ap (λ (l : List Committed). slice_get l j) same
    ∙ slice-drop n j cs
    ∙ ap (λ x. slice_get cs x) high)

-- Where the dictionary is whole, the tables are those of the fold; and the SCN is the fold's.
pub run-tables : (logs : Archived) (s : KeptState) (k : ℕ) (a : FoldState) → Belongs logs s →
    redo_ahead logs s.logs (first_place s.first 0) ≡ standby_redo logs s → (run_mark s).q ≤ k →
    k ≤ length (redo_entries logs s) → run_progress logs s k ≡ Going a → (run_admitted logs s k).fault ≡ None →
    (front_at logs s k).standing.dictionary.finished ≡ true →
    tables_at (base_of s) s.skips (commits_of logs s) a.n ≡ Ok a.tables
run-tables logs s k a b redo order there goes well whole =
    let start = run_start s in
    let r = run_admitted logs s k in
    let rs = r.history.commits in
    let ws = (resumed s.first s.base (redo_entries logs s) (run_mark s).q (run_mark s).m).history.commits in
    let cs = commits_of logs s in
    let stop = (standby_redo logs s).stop in
    let base = base_by start r.standing in
    let sh = run-shown logs s k a b goes well in
    let first = run-before logs s k b in
    let n = sh.n in
    let front_well : (front_at logs s k).fault ≡ None = sym (run-well logs s k b redo order there) ∙ well in
    let dictionary : r.standing.dictionary ≡ whole_dictionary s.tables =
    ap (λ (t : Standing). t.dictionary) (run-standing logs s k b redo order there) ∙
    sym (whole_front logs s k b front_well whole) in
    let tables : base.tables ≡ s.tables =
    ap (λ (d : Dictionary). tables_shown d.finished d.tables (rows_by_id s.tables)) dictionary ∙
    assembled-again s.tables b.layout.ids in
    let same_before : ws.before ≡ rs.before = before-alike logs s k b redo in
    let made : take (a.n - s.n) (commits_after cs s.n) ≡ take (a.n - s.n) (commits_after rs s.n) =
    ap (λ (l : List Committed). take (a.n - s.n) l) (sym (run-commits logs s b))
    ∙ ap (λ x. take (a.n - s.n) (drop (s.n - x) ws.made)) same_before
    ∙ same-made s.n a.n rs.before rs.made ws.made first (run-grown logs s k b redo well)
    (λ past. let few = none-made base s.skips rs stop first (omega (arith, n, past)) in omega (arith, n, few)) in
    (λ i. commit_effects s.skips s.n (sym tables i) (made i)) ∙ sh.tables

pub run-scn : (logs : Archived) (s : KeptState) (k : ℕ) (a : FoldState) → Belongs logs s →
    redo_ahead logs s.logs (first_place s.first 0) ≡ standby_redo logs s → (run_mark s).q ≤ k →
    k ≤ length (redo_entries logs s) → run_progress logs s k ≡ Going a → (run_admitted logs s k).fault ≡ None →
    a.scn ≡ scn_at (base_of s) (commits_of logs s) a.n
run-scn logs s k a b redo order there goes well =
    let start = run_start s in
    let r = run_admitted logs s k in
    let rs = r.history.commits in
    let ws = (resumed s.first s.base (redo_entries logs s) (run_mark s).q (run_mark s).m).history.commits in
    let cs = commits_of logs s in
    let stop = (standby_redo logs s).stop in
    let base = base_by start r.standing in
    let sh = run-shown logs s k a b goes well in
    let first = run-before logs s k b in
    let n = sh.n in
    let count = run-count logs s k a b redo order there goes well in
    let least = count.least in
    let same_before : ws.before ≡ rs.before = before-alike logs s k b redo in
    let none : cs.before ≡ 0 = admitted-before (beginning s.first s.base) (no_history 0) (redo_entries logs s) in
    let behind_count : drop (s.n - rs.before) ws.made ≡ drop s.n cs.made =
    ap (λ x. drop (s.n - x) ws.made) (sym same_before) ∙ run-commits logs s b ∙
    ap (λ x. drop (s.n - x) cs.made) none ∙ ap (λ x. drop x cs.made) (minus-none s.n) in
    sym sh.scn
    ∙ elim (a.n == s.n) as (λ t. (a.n == s.n) ≡ t →
    (if t then s.scn else option_map_or (λ c. c.scn) (slice_get rs.made (a.n - (rs.before + 1))) s.scn) ≡
    (if t then s.scn else option_map_or (λ c. c.scn) (slice_get cs.made (a.n - (cs.before + 1))) s.scn)) [
      | true ↦ λ is. refl
      | false ↦ λ is.
          let past : s.n < a.n = grind (arith, nat_tests, is, least) in
          let few = none-made base s.skips rs stop first (omega (arith, n, past)) in
          let number : a.n - (cs.before + 1) ≡ a.n - 1 = omega (arith, none) in
          scn-alike s.n a.n s.scn rs.before rs.made ws.made cs.made first (run-grown logs s k b redo well) past
          (omega (arith, n, few)) behind_count
          ∙ ap (λ x. option_map_or (λ c. c.scn) (slice_get cs.made x) s.scn) (sym number)
    ] refl
