-- The mark that a run may keep behind a record: it stands before each transaction that is open for the run.
use Rattle.std.proofs.Common.{◌≡◌, ℕ, zero, suc, ◌+◌, ◌-◌, ◌*◌, ◌/◌, ◌≤◌, ◌<◌, nat_lt, List, [], ◌∷◌, ◌++◌, take, drop, length, map, slice_get, Bool, true, false, cond, refl, sym, ap, ◌∙◌, subst, Option, Some, None, arith}
use Rattle.std.specs.Prelude.{if◌then◌else◌}
use Rattle.std.specs.List.{AllByRecursion}
use Rattle.std.specs.Option.{option_map_or}
use Rattle.std.proofs.lemmas.Bool.Decides.{nat_tests}
use Rattle.std.proofs.lemmas.List.{drop_all, length-append}
use Rattle.std.proofs.Math.Nat.{mul-div-le}
use Rattle.rl_value.specs.declared.pos.Pos.{Pos}
use Rattle.redo_vec.specs.declared.table.TableRow.{TableRow}
use Rattle.redo_vec.specs.declared.vector.Vector.{Vector}
use Rattle.redo_vec.specs.declared.vector.Vector.TheVariants.{Start, Change as OfChange, Undo, Commit, Rollback, Table, DictEnd}
use Rattle.redo_spec.specs.History.{Entry, Txn, Committed, History, commit_count, no_history, txns_ended_by, after_vector, after_vectors, history_after}
use Rattle.redo_spec.specs.Law.{Admitted, admission}
use Rattle.redo_spec.specs.Mark.{MarkFits, front}
use Rattle.redo_spec.specs.Standing.{Standing, OpenTxn, beginning, open_txn, open_txns}
use Rattle.redo_spec.proofs.ListLaws.{all_append, all_weaker}
use Rattle.redo_spec.proofs.AdmissionLaws.{rec_after_record}
use Rattle.redo_spec.proofs.MarkHistories.{committed}
use Rattle.redo_spec.proofs.MarkRanges.{Began, began_after_record}
use Rattle.redo_spec.proofs.MarkLaws.{fits_at_more}
use Rattle.standby_spec.specs.declared.mark.Mark.{Mark}
use Rattle.standby_spec.specs.KeptState.{KeptState}
use Rattle.standby_spec.specs.StandbyRedo.{Archived, standby_redo, redo_entries, commits_of, front_at}
use Rattle.standby_spec.specs.Checkpoint.{IsMarkOf, mark_of}
use Rattle.standby_spec.specs.Lawful.{Belongs}
use Rattle.redo_reader.specs.Ahead.{redo_ahead, first_place}
use Rattle.standby_spec.proofs.OverLaws.{admitted-before}
use Rattle.run_spec.specs.RunEnd.{IsPast, last_multiple, commit_record}
use Rattle.run_spec.specs.RunStart.{run_mark}
use Rattle.run_spec.specs.Taken.{run_admitted, commits_by, open_behind}
use Rattle.run_spec.proofs.Starting.{rec_at, redo_from_front}
use Rattle.run_spec.proofs.Marks.{run-right}
use Rattle.run_spec.proofs.Beside.{kept, front_sound, front_goes_on}
use Rattle.run_spec.proofs.Prefix.{Grown, grown, slice-front, run-standing}

-- ---- what began behind a record, carried on

record Late (R : ℕ → Type 0) (least n : ℕ) (s : Standing) (h : History) : Type 0 where
  past : least ≤ s.rec
  began : Began R n h

late_on : (R : ℕ → Type 0) (least n : ℕ) → ((j : ℕ) → least ≤ j → R (j + 1)) → (es : List Entry) (s : Standing) (h : History) →
    Late R least n s h → Late R least n (admission s h es).standing (admission s h es).history
late_on R least n each =
    kept (Late R least n) (λ e s h here fits.
    let past = here.past in
    let count = rec_after_record e s in
    record {
      past = omega (arith, past, count);
      began = began_after_record R n (s.rec + 1) e h (each s.rec past) here.began;
    })

-- carried from one front to a later one
front-late : (first base : ℕ) (es : List Entry) (R : ℕ → Type 0) (n k m : ℕ) → k ≤ m → k ≤ length es →
    (front first base es k).fault ≡ None → ((j : ℕ) → k ≤ j → R (j + 1)) → Began R n (front first base es k).history →
    Began R n (front first base es m).history
front-late first base es R n k m order there well each began =
    let rec = rec_at first base es k there well in
    let a = front first base es k in
    let on = front_goes_on first base es k m order well in
    subst (λ (x : Admitted). Began R n x.history) (sym on)
    (late_on R k n each (take (m - k) (drop k es)) a.standing a.history
    (record { past = omega (arith, rec); began = began })).began

-- ---- the open transactions of a run

late-by : (tables : List TableRow) (q p : ℕ) (t : Txn) (ts : List Txn) (b : Bool) → nat_lt q t.start.rec ≡ b →
    (AllByRecursion (λ u. p < u.start.rec) (open_behind q (open_txns tables ts)) →
    AllByRecursion (λ u. q < u.start.rec → p < u.start.rec) ts) →
    AllByRecursion (λ u. p < u.start.rec)
    (cond b (open_txn tables t ∷ open_behind q (open_txns tables ts)) (open_behind q (open_txns tables ts))) →
    AllByRecursion (λ u. q < u.start.rec → p < u.start.rec) (t ∷ ts)
late-by tables q p t ts true is later all = (λ past. all.0, later all.1)
late-by tables q p t ts false is later all = (λ past. absurd (grind (arith, nat_tests, is, past)), later all)

late-all : (tables : List TableRow) (q p : ℕ) (ts : List Txn) →
    AllByRecursion (λ t. p < t.start.rec) (open_behind q (open_txns tables ts)) →
    AllByRecursion (λ t. q < t.start.rec → p < t.start.rec) ts
late-all tables q p [] all = tt
late-all tables q p (t ∷ ts) all =
    late-by tables q p t ts (nat_lt q t.start.rec) refl (λ later. late-all tables q p ts later) all

all-both : {A : Type 0} (P Q : A → Type 0) (xs : List A) → AllByRecursion P xs → AllByRecursion (λ x. P x → Q x) xs →
    AllByRecursion Q xs
all-both P Q [] a b = tt
all-both P Q (x ∷ xs) a b = (b.0 a.0, all-both P Q xs a.1 b.1)

-- ---- behind record m each open transaction began behind record q

pub front-behind : (first base : ℕ) (es : List Entry) (q m n k : ℕ) → MarkFits first base es q m n → m ≤ k → k ≤ length es →
    AllByRecursion (λ t. q < t.start.rec) (front first base es k).history.active
front-behind first base es q m n k fits past there =
    let a = front first base es m in
    let order = fits.order in
    let none : a.history.commits.before ≡ 0 = (front_sound first base es m).before in
    let number : n - a.history.commits.before ≡ n = omega (arith, none) in
    (front-late first base es (λ j. q < j) n m k past fits.there fits.well (λ j far. omega (arith, order, far))
    (record {
      active = fits.behind;
      made = subst (λ x. AllByRecursion (λ c. q < c.txn.start.rec) (drop x a.history.commits.made)) number fits.above;
    })).active

-- ---- the mark fits

run-marks : (logs : Archived) (s : KeptState) (k m p n : ℕ) → Belongs logs s →
    redo_ahead logs s.logs (first_place s.first 0) ≡ standby_redo logs s → (run_mark s).q ≤ k →
    k ≤ length (redo_entries logs s) → (front_at logs s k).fault ≡ None → k ≤ m → (run_mark s).m ≤ m →
    m ≤ length (redo_entries logs s) → (front_at logs s m).fault ≡ None → p ≤ k →
    AllByRecursion (λ t. p < t.start.rec) (run_admitted logs s k).standing.active → commits_by logs s k ≤ n → s.n ≤ n →
    MarkFits s.first s.base (redo_entries logs s) p m n
run-marks logs s k m p n b redo order there well_k known later there_m well_m behind_k all count more =
    let es = redo_entries logs s in
    let mark = run_mark s in
    let q = mark.q in
    let fits = fits_at_more s.first s.base es q mark.m s.n n (run-right logs s b).fits more in
    let ak = front_at logs s k in
    let am = front_at logs s m in
    let mk = front_at logs s mark.m in
    let sound = front_sound s.first s.base es k in
    let none_k : ak.history.commits.before ≡ 0 = sound.before in
    let none_m : am.history.commits.before ≡ 0 = (front_sound s.first s.base es m).before in
    let none_q : mk.history.commits.before ≡ 0 = (front_sound s.first s.base es mark.m).before in
    let R : ℕ → Type 0 = λ j. q < j → p < j in
    let active_k : (run_admitted logs s k).standing.active ≡
    open_behind q (open_txns ak.standing.dictionary.tables ak.history.active) =
    ap (λ (t : Standing). t.active) (run-standing logs s k b redo order there) ∙ ap (open_behind q) sound.agrees.same in
    let gone : drop n ak.history.commits.made ≡ [] = drop_all n ak.history.commits.made (omega (arith, none_k, count)) in
    let began_k : Began R n ak.history = record {
      active = late-all ak.standing.dictionary.tables q p ak.history.active
          (subst (λ (ts : List OpenTxn). AllByRecursion (λ t. p < t.start.rec) ts) active_k all);
      made = subst (λ (cs : List Committed). AllByRecursion (λ c. R c.txn.start.rec) cs) (sym gone) tt;
    } in
    let some : Began R n am.history = front-late s.first s.base es R n k m known there well_k
    (λ j past. λ above. omega (arith, behind_k, past)) began_k in
    let mark_order = fits.order in
    let mark_there = fits.there in
    let number_q : n - mk.history.commits.before ≡ n = omega (arith, none_q) in
    let began_q : Began (λ j. q < j) n mk.history = record {
      active = fits.behind;
      made = subst (λ x. AllByRecursion (λ c. q < c.txn.start.rec) (drop x mk.history.commits.made)) number_q fits.above;
    } in
    let late : Began (λ j. q < j) n am.history = front-late s.first s.base es (λ j. q < j) n mark.m m later mark_there fits.well
    (λ j past. omega (arith, mark_order, past)) began_q in
    let number_m : n ≡ n - am.history.commits.before = omega (arith, none_m) in
    record {
      order = omega (arith, behind_k, known);
      there = there_m;
      well = well_m;
      behind = all-both (λ (t : Txn). q < t.start.rec) (λ (t : Txn). p < t.start.rec) am.history.active late.active some.active;
      above = subst (λ x. AllByRecursion (λ c. p < c.txn.start.rec) (drop x am.history.commits.made)) number_m
          (all-both (λ (c : Committed). q < c.txn.start.rec) (λ (c : Committed). p < c.txn.start.rec)
          (drop n am.history.commits.made) late.made some.made);
    }

-- the mark at these records is right
pub run-mark-right : (logs : Archived) (s : KeptState) (k m p n : ℕ) → Belongs logs s →
    redo_ahead logs s.logs (first_place s.first 0) ≡ standby_redo logs s → (run_mark s).q ≤ k →
    k ≤ length (redo_entries logs s) → (front_at logs s k).fault ≡ None → k ≤ m → (run_mark s).m ≤ m →
    m ≤ length (redo_entries logs s) → (front_at logs s m).fault ≡ None → p ≤ k →
    AllByRecursion (λ t. p < t.start.rec) (run_admitted logs s k).standing.active → commits_by logs s k ≤ n → s.n ≤ n →
    IsMarkOf logs s n (mark_of logs s p m n)
run-mark-right logs s k m p n b redo order there well_k known later there_m well_m behind_k all count more = record {
  fits = run-marks logs s k m p n b redo order there well_k known later there_m well_m behind_k all count more;
  before = refl;
  place = refl;
  q_scn = refl;
  m_scn = refl;
  commit_scn = refl;
}

-- ---- as far as the commits that owe one

all-committed : (m scn : ℕ) (at : Pos) (ts : List Txn) → at.rec ≤ m →
    AllByRecursion (λ c. c.at.rec ≤ m) (map (committed at scn) ts)
all-committed m scn at [] within = tt
all-committed m scn at (t ∷ ts) within = (within, all-committed m scn at ts within)

at-vector : (m scn : ℕ) (at : Pos) (v : Vector) (h : History) → at.rec ≤ m →
    AllByRecursion (λ c. c.at.rec ≤ m) h.commits.made → AllByRecursion (λ c. c.at.rec ≤ m) (after_vector scn at v h).commits.made
at-vector m scn at (Start x) h within all = all
at-vector m scn at (OfChange c) h within all = all
at-vector m scn at (Undo x) h within all = all
at-vector m scn at (Commit x) h within all =
    all_append (λ (c : Committed). c.at.rec ≤ m) h.commits.made (map (committed at scn) (txns_ended_by at x h.active)) all
    (all-committed m scn at (txns_ended_by at x h.active) within)
at-vector m scn at (Rollback x) h within all = all
at-vector m scn at (Table t) h within all = all
at-vector m scn at DictEnd h within all = all

at-vectors : (m scn rec vec : ℕ) (vs : List Vector) (h : History) → rec ≤ m → AllByRecursion (λ c. c.at.rec ≤ m) h.commits.made →
    AllByRecursion (λ c. c.at.rec ≤ m) (after_vectors scn rec vec vs h).commits.made
at-vectors m scn rec vec [] h within all = all
at-vectors m scn rec vec (v ∷ vs) h within all =
    let at : Pos = record { rec = rec; vec = vec } in
    at-vectors m scn rec (vec + 1) vs (after_vector scn at v h) within (at-vector m scn at v h within all)

record AreAt (s : Standing) (h : History) : Type 0 where
  all : AllByRecursion (λ c. c.at.rec ≤ s.rec) h.commits.made

at-record : (e : Entry) (s : Standing) (h : History) → AllByRecursion (λ c. c.at.rec ≤ s.rec) h.commits.made →
    AllByRecursion (λ c. c.at.rec ≤ s.rec + 1) (history_after (s.rec + 1) e h).commits.made
at-record (head, r) s h all =
    at-vectors (s.rec + 1) r.scn (s.rec + 1) 1 r.vectors h (omega arith)
    (all_weaker (λ (c : Committed). c.at.rec ≤ s.rec) (λ (c : Committed). c.at.rec ≤ s.rec + 1) (λ c is. omega (arith, is))
    h.commits.made all)

at-all : (es : List Entry) (s : Standing) (h : History) → AreAt s h → AreAt (admission s h es).standing (admission s h es).history
at-all =
    kept AreAt (λ e s h here fits. record {
      all = subst (λ j. AllByRecursion (λ c. c.at.rec ≤ j) (history_after (s.rec + 1) e h).commits.made)
          (sym (rec_after_record e s)) (at-record e s h here.all);
    })

all-slice : (P : Committed → Type 0) (xs : List Committed) (i : ℕ) (c : Committed) → AllByRecursion P xs →
    slice_get xs i ≡ Some c → P c
all-slice P [] i c all e = absurd (cc)
all-slice P (x ∷ xs) zero c all e = let same : x ≡ c = cc in subst P same all.0
all-slice P (x ∷ xs) (suc i) c all e = all-slice P xs i c all.1 e

record-most : (xs : List Committed) (i m : ℕ) → AllByRecursion (λ c. c.at.rec ≤ m) xs →
    option_map_or (λ c. c.at.rec) (slice_get xs i) 0 ≤ m
record-most xs i m all =
    elim (slice_get xs i) as (λ o. slice_get xs i ≡ o → option_map_or (λ c. c.at.rec) o 0 ≤ m) [
      | None ↦ λ is. omega arith
      | Some c ↦ λ is. all-slice (λ (d : Committed). d.at.rec ≤ m) xs i c all is
    ] refl

-- the commits of the first k records are the first of the redo
pub front-grown : (logs : Archived) (s : KeptState) (k : ℕ) → (front_at logs s k).fault ≡ None →
    Grown (front_at logs s k).history.commits.made (commits_of logs s).made
front-grown logs s k well =
    let es = redo_entries logs s in
    let a = front_at logs s k in
    subst (λ (x : Admitted). Grown a.history.commits.made x.history.commits.made)
    (sym (redo_from_front s.first s.base es k well)) (grown (drop k es) a.standing a.history)

pub commits-few : (logs : Archived) (s : KeptState) (k : ℕ) → (front_at logs s k).fault ≡ None →
    commits_by logs s k ≤ commit_count (commits_of logs s)
commits-few logs s k well =
    let es = redo_entries logs s in
    let a = front_at logs s k in
    let cs = commits_of logs s in
    let g = front-grown logs s k well in
    let none_k : a.history.commits.before ≡ 0 = (front_sound s.first s.base es k).before in
    let none : cs.before ≡ 0 = admitted-before (beginning s.first s.base) (no_history 0) es in
    let long : length cs.made ≡ length (a.history.commits.made ++ g.more) = ap (λ (l : List Committed). length l) g.is in
    let both = length-append a.history.commits.made g.more in
    omega (arith, none_k, none, long, both)

-- the COMMIT of each commit that stands in the first k records is one of them
pub commit-within : (logs : Archived) (s : KeptState) (k number : ℕ) → k ≤ length (redo_entries logs s) →
    (front_at logs s k).fault ≡ None → 1 ≤ number → number ≤ commits_by logs s k →
    commit_record (commits_of logs s) number ≤ k
commit-within logs s k number there well some few =
    let es = redo_entries logs s in
    let a = front_at logs s k in
    let cs = commits_of logs s in
    let rec = rec_at s.first s.base es k there well in
    let none_k : a.history.commits.before ≡ 0 = (front_sound s.first s.base es k).before in
    let none : cs.before ≡ 0 = admitted-before (beginning s.first s.base) (no_history 0) es in
    let g : Grown a.history.commits.made cs.made = front-grown logs s k well in
    let are = at-all (take k es) (beginning s.first s.base) (no_history 0) (record { all = tt }) in
    let index : number - (cs.before + 1) ≡ number - 1 = omega (arith, none) in
    let same : slice_get cs.made (number - (cs.before + 1)) ≡ slice_get a.history.commits.made (number - 1) =
    (λ i. slice_get (g.is i) (index i)) ∙
    slice-front a.history.commits.made g.more (number - 1) (omega (arith, none_k, some, few)) in
    subst (λ (o : Option Committed). option_map_or (λ c. c.at.rec) o 0 ≤ k) (sym same)
    (record-most a.history.commits.made (number - 1) k
    (subst (λ j. AllByRecursion (λ c. c.at.rec ≤ j) a.history.commits.made) rec are.all))

past-at : (logs : Archived) (s : KeptState) (number k n : ℕ) (mark : Mark) → k ≤ length (redo_entries logs s) →
    (front_at logs s k).fault ≡ None → number ≤ n → (s.n < n → n ≤ commits_by logs s k) → k ≤ mark.m →
    IsPast (commits_of logs s) (if nat_lt s.n number then Some number else None) (Some mark)
past-at logs s number k n mark there well low few far =
    elim (nat_lt s.n number) as (λ t. nat_lt s.n number ≡ t →
    IsPast (commits_of logs s) (if t then Some number else None) (Some mark)) [
      | true ↦ λ is.
          let above : s.n < number = grind (arith, nat_tests, is) in
          let all = few (omega (arith, above, low)) in
          let within = commit-within logs s k number there well (omega (arith, above)) (omega (arith, low, all)) in
          omega (arith, within, far)
      | false ↦ λ is. tt
    ] refl

-- a mark at record m is as far as the last of the commits up to n that owe one, which stand in the first k records
pub run-past : (logs : Archived) (s : KeptState) (distance k n : ℕ) (mark : Mark) → k ≤ length (redo_entries logs s) →
    (front_at logs s k).fault ≡ None → (s.n < n → n ≤ commits_by logs s k) → k ≤ mark.m →
    IsPast (commits_of logs s) (last_multiple distance s.n n) (Some mark)
run-past logs s distance k n mark there well few far =
    past-at logs s (distance * (n / distance)) k n mark there well (mul-div-le n distance) few far
