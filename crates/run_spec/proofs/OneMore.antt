-- One record more: what it makes of the whole redo, and of a run.
use Rattle.std.proofs.Common.{◌≡◌, ℕ, zero, suc, ◌+◌, ◌-◌, ◌≤◌, ◌<◌, nat_lt, List, [], ◌∷◌, ◌++◌, take, drop, length, map, filter, Bool, true, false, not, ◌&&◌, ◌||◌, cond, refl, sym, ap, ◌∙◌, subst, Some, None, arith}
use Rattle.std.specs.Prelude.{if◌then◌else◌, nat_le, ⊤}
use Rattle.std.specs.List.{AllByRecursion, list_any}
use Rattle.std.proofs.lemmas.Bool.Decides.{nat_tests}
use Rattle.std.proofs.lemmas.List.{length-append, length-map, length-drop, drop-drop, take-append-drop}
use Rattle.rl_value.specs.declared.pos.Pos.{Pos}
use Rattle.rl_value.specs.declared.xid.Xid.{Xid}
use Rattle.rl_value.specs.declared.cause.LawFault.{LawFault}
use Rattle.rl_value.specs.declared.cause.LawFault.TheVariants as faults
use Rattle.rl_value.specs.Outcome.{first_fault, is_empty}
use Rattle.redo_vec.specs.declared.redo_rec.RedoRec.{RedoRec}
use Rattle.redo_vec.specs.declared.table.TableRow.{TableRow}
use Rattle.redo_vec.specs.declared.vector.Vector.{Vector}
use Rattle.redo_vec.specs.declared.vector.Vector.TheVariants.{Start, Change as OfChange, Undo, Commit, Rollback, Table, DictEnd}
use Rattle.redo_spec.specs.declared.header.Header.{Header}
use Rattle.redo_spec.specs.History.{Entry, Txn, History, commit_count, no_history, same_xid, of_xid, has_xid, txn_known_by_commit, txns_ended_by, after_vector, after_vectors, history_after}
use Rattle.redo_spec.specs.Law.{Admitted, breaks_chain, ends_txn, whole_fault, record_fault, dictionary_left, admitted_or, admission}
use Rattle.redo_spec.specs.Skips.{Skip}
use Rattle.redo_spec.specs.Standing.{Standing, OpenTxn, open_txn, open_txns, beginning, standing_after, standing_after_all, standing_at_record, record_after}
use Rattle.redo_spec.specs.Fold.{Folded}
use Rattle.redo_spec.proofs.ListLaws.{all_filter, all_map, filter_swap, filter_fewer, any_left}
use Rattle.redo_spec.proofs.StandingLaws.{filter_seen}
use Rattle.redo_spec.proofs.MarkHistories.{committed}
use Rattle.redo_spec.proofs.AdmissionLaws.{append_well}
use Rattle.redo_law.specs.Calls.{standing_of}
use Rattle.redo_reader.specs.Ahead.{redo_ahead, first_place}
use Rattle.primary.specs.Progress.{Progress, Ended, progress_after_record, progress_after_records, end_of}
use Rattle.primary.specs.Starts.{first_progress, progress_after}
use Rattle.primary.proofs.FitLaws.{none_first}
use Rattle.standby_spec.specs.KeptState.{KeptState}
use Rattle.standby_spec.specs.StandbyRedo.{Archived, standby_redo, redo_entries, front_at}
use Rattle.standby_spec.specs.Lawful.{Belongs}
use Rattle.run_spec.specs.RunEnd.{run_fold}
use Rattle.run_spec.specs.RunStart.{run_mark, run_start}
use Rattle.run_spec.specs.Taken.{taken_records, run_admitted, run_progress, commits_by, is_commit, has_commit, open_behind, standing_behind, AreOpen}
use Rattle.run_spec.proofs.Starting.{rec_at}
use Rattle.run_spec.proofs.Beside.{front_sound, front_within}
use Rattle.run_spec.proofs.Prefix.{run-standing}
use Rattle.run_spec.proofs.Ending.{run-ends}

-- ---- lists

take-next : {A : Type 0} (j : ℕ) (xs : List A) (x : A) (more : List A) → drop j xs ≡ x ∷ more →
    take (suc j) xs ≡ take j xs ++ x ∷ []
take-next zero [] x more e = absurd (cc)
take-next zero (y ∷ []) x more e = let same : y ≡ x = cc in ap (λ z. z ∷ []) same
take-next zero (y ∷ z ∷ zs) x more e = let same : y ≡ x = cc in ap (λ w. w ∷ []) same
take-next (suc j) [] x more e = absurd (cc)
take-next (suc j) (y ∷ ys) x more e = ap (λ l. y ∷ l) (take-next j ys x more e)

front-next : {A : Type 0} (k : ℕ) (xs : List A) (x : A) (more : List A) → drop k xs ≡ x ∷ more →
    take (k + 1) xs ≡ take k xs ++ x ∷ []
front-next k xs x more e =
    let number : k + 1 ≡ suc k = omega arith in ap (λ j. take j xs) number ∙ take-next k xs x more e

-- one element more is behind q of them
behind-next : {A : Type 0} (q k : ℕ) (xs : List A) (x : A) (more : List A) → q ≤ k → drop k xs ≡ x ∷ more →
    take ((k + 1) - q) (drop q xs) ≡ take (k - q) (drop q xs) ++ x ∷ []
behind-next q k xs x more order e =
    let number : (k + 1) - q ≡ suc (k - q) = omega (arith, order) in
    let sum : q + (k - q) ≡ k = omega (arith, order) in
    ap (λ j. take j (drop q xs)) number ∙
    take-next (k - q) (drop q xs) x more (drop-drop (k - q) q xs ∙ ap (λ j. drop j xs) sum ∙ e)

-- there is one more
pub more-there : {A : Type 0} (k : ℕ) (xs : List A) (x : A) (more : List A) → drop k xs ≡ x ∷ more → k + 1 ≤ length xs
more-there k xs x more e =
    let long = length-drop k xs in
    let same : length (drop k xs) ≡ suc (length more) = ap (λ l. length l) e in
    omega (arith, long, same)

-- ---- an admitted record

progress-append : (skips : List Skip) (xs ys : List Entry) (p : Progress) →
    progress_after_records skips (xs ++ ys) p ≡ progress_after_records skips ys (progress_after_records skips xs p)
progress-append skips [] ys p = refl
progress-append skips (x ∷ xs) ys p = progress-append skips xs ys (progress_after_record skips x p)

pub run-goes-on : (logs : Archived) (s : KeptState) (k : ℕ) (e : Entry) (more : List Entry) → (run_mark s).q ≤ k →
    drop k (redo_entries logs s) ≡ e ∷ more →
    run_progress logs s (k + 1) ≡ progress_after_record s.skips e (run_progress logs s k)
run-goes-on logs s k e more order next =
    ap (progress_after (run_start s) s.skips) (behind-next (run_mark s).q k (redo_entries logs s) e more order next) ∙
    progress-append s.skips (taken_records logs s k) (e ∷ []) (first_progress (run_start s))

pub run-more : (logs : Archived) (s : KeptState) (k : ℕ) (e : Entry) (more : List Entry) → (run_mark s).q ≤ k →
    drop k (redo_entries logs s) ≡ e ∷ more → (run_admitted logs s k).fault ≡ None → run_admitted logs s (k + 1) ≡
    admission (run_admitted logs s k).standing (run_admitted logs s k).history (e ∷ [])
run-more logs s k e more order next well =
    let start = run_start s in
    ap (admission (standing_of start.law) (no_history start.before))
    (behind-next (run_mark s).q k (redo_entries logs s) e more order next)
    ∙ append_well (taken_records logs s k) (e ∷ []) (standing_of start.law) (no_history start.before) well

pub front-more : (logs : Archived) (s : KeptState) (k : ℕ) (e : Entry) (more : List Entry) →
    drop k (redo_entries logs s) ≡ e ∷ more → (front_at logs s k).fault ≡ None → front_at logs s (k + 1) ≡
    admission (front_at logs s k).standing (front_at logs s k).history (e ∷ [])
front-more logs s k e more next well =
    ap (admission (beginning s.first s.base) (no_history 0)) (front-next k (redo_entries logs s) e more next)
    ∙ append_well (take k (redo_entries logs s)) (e ∷ []) (beginning s.first s.base) (no_history 0) well

-- what one admitted record leaves
one-admitted : (s : Standing) (h : History) (e : Entry) → record_fault s e ≡ None → admission s h (e ∷ []) ≡
    record {
      standing = record_after e s;
      history = history_after (s.rec + 1) e h;
      fault = None;
      left = (record_after e s).dictionary;
    }
one-admitted s h e fits = ap (λ o. admitted_or o (dictionary_left s e) s h
    (admission (record_after e s) (history_after (s.rec + 1) e h) [])) fits

-- the fault of one record is the reason against it
pub one-fault : (s : Standing) (h : History) (e : Entry) → (admission s h (e ∷ [])).fault ≡ record_fault s e
one-fault s h e =
    elim (record_fault s e) as (λ o. (admitted_or o (dictionary_left s e) s h
    (admission (record_after e s) (history_after (s.rec + 1) e h) [])).fault ≡ o) [
      | None ↦ refl
      | Some fault ↦ refl
    ]

-- where one record is well behind others, it is admitted
one-well : (s : Standing) (h : History) (e : Entry) → (admission s h (e ∷ [])).fault ≡ None → record_fault s e ≡ None
one-well s h e well = sym (one-fault s h e) ∙ well

pub run-more-well : (logs : Archived) (s : KeptState) (k : ℕ) (e : Entry) (more : List Entry) → (run_mark s).q ≤ k →
    drop k (redo_entries logs s) ≡ e ∷ more → (run_admitted logs s k).fault ≡ None →
    record_fault (run_admitted logs s k).standing e ≡ None → (run_admitted logs s (k + 1)).fault ≡ None
run-more-well logs s k e more order next well fits =
    let r = run_admitted logs s k in
    ap (λ (a : Admitted). a.fault) (run-more logs s k e more order next well ∙ one-admitted r.standing r.history e fits)

pub run-more-standing : (logs : Archived) (s : KeptState) (k : ℕ) (e : Entry) (more : List Entry) → (run_mark s).q ≤ k →
    drop k (redo_entries logs s) ≡ e ∷ more → (run_admitted logs s k).fault ≡ None →
    record_fault (run_admitted logs s k).standing e ≡ None →
    (run_admitted logs s (k + 1)).standing ≡ record_after e (run_admitted logs s k).standing
run-more-standing logs s k e more order next well fits =
    let r = run_admitted logs s k in
    ap (λ (a : Admitted). a.standing) (run-more logs s k e more order next well ∙ one-admitted r.standing r.history e fits)

-- ---- a record that commits

third : (a b c : Bool) (x y z : LawFault) → first_fault ((a, x) ∷ (b, y) ∷ (c, z) ∷ []) ≡ None → c ≡ false
third true b c x y z e = absurd (cc)
third false true c x y z e = absurd (cc)
third false false true x y z e = absurd (cc)
third false false false x y z e = refl

-- a record ends no transaction, or has one vector
abbrev pub IsAlone : List Vector → Type 0
IsAlone [] = ⊤
IsAlone (v ∷ []) = ⊤
IsAlone (v ∷ w ∷ vs) = list_any ends_txn (v ∷ w ∷ vs) ≡ false

and-left-false : (a b : Bool) → b ≡ true → (a && b) ≡ false → a ≡ false
and-left-false true true is e = absurd (cc)
and-left-false true false is e = absurd (cc)
and-left-false false b is e = refl

alone-by : (vs : List Vector) → (list_any ends_txn vs && nat_lt 1 (length vs)) ≡ false → IsAlone vs
alone-by [] e = tt
alone-by (v ∷ []) e = tt
alone-by (v ∷ w ∷ vs) e =
    let long : 1 < length (v ∷ w ∷ vs) = omega arith in
    and-left-false (list_any ends_txn (v ∷ w ∷ vs)) (nat_lt 1 (length (v ∷ w ∷ vs))) (grind (arith, nat_tests, long)) e

-- an admitted record does
pub is-alone : (s : Standing) (h : Header) (r : RedoRec) → record_fault s (h, r) ≡ None → IsAlone r.vectors
is-alone s h r fits = alone-by r.vectors
    (third (breaks_chain s.head h) (nat_lt r.scn h.first || nat_le h.next r.scn || nat_lt r.scn s.scn)
    (list_any ends_txn r.vectors && nat_lt 1 (length r.vectors)) faults.Chain faults.Scn faults.Alone
    (none_first (whole_fault s (h, r)) _ fits))

-- a vector that ends no transaction commits none
pub or-first : (a b : Bool) → (a || b) ≡ false → a ≡ false
or-first true b e = absurd (cc)
or-first false b e = refl

pub or-second : (a b : Bool) → (a || b) ≡ false → b ≡ false
or-second true b e = absurd (cc)
or-second false b e = e

ends-commits : (v : Vector) → ends_txn v ≡ false → is_commit v ≡ false
ends-commits (Start x) e = refl
ends-commits (OfChange c) e = refl
ends-commits (Undo x) e = refl
ends-commits (Commit x) e = absurd (cc)
ends-commits (Rollback x) e = absurd (cc)
ends-commits (Table t) e = refl
ends-commits DictEnd e = refl

pub no-commit-in : (vs : List Vector) → list_any ends_txn vs ≡ false → has_commit vs ≡ false
no-commit-in [] e = refl
no-commit-in (v ∷ vs) e = (λ i. ends-commits v (or-first (ends_txn v) (list_any ends_txn vs) e) i ||
    no-commit-in vs (or-second (ends_txn v) (list_any ends_txn vs) e) i)

-- ---- the SCN of the last commit

scn-vector : (vec : ℕ) (v : Vector) (s : Standing) →
    (standing_after vec v s).commit_scn ≡ (if is_commit v then s.scn else s.commit_scn)
scn-vector vec (Start x) s = refl
scn-vector vec (OfChange c) s = refl
scn-vector vec (Undo x) s = refl
scn-vector vec (Commit x) s = refl
scn-vector vec (Rollback x) s = refl
scn-vector vec (Table t) s = refl
scn-vector vec DictEnd s = refl

same-scn : (vec : ℕ) (vs : List Vector) (s : Standing) → (standing_after_all vec vs s).scn ≡ s.scn
same-scn vec [] s = refl
same-scn vec (v ∷ vs) s = same-scn (vec + 1) vs (standing_after vec v s)

pub scn-after : (h : Header) (r : RedoRec) (s : Standing) → (record_after (h, r) s).scn ≡ r.scn
scn-after h r s = same-scn 1 r.vectors (standing_at_record (h, r) s)

quiet-scn : (vec : ℕ) (vs : List Vector) (s : Standing) → list_any ends_txn vs ≡ false →
    (standing_after_all vec vs s).commit_scn ≡ s.commit_scn
quiet-scn vec [] s e = refl
quiet-scn vec (v ∷ vs) s e =
    quiet-scn (vec + 1) vs (standing_after vec v s) (or-second (ends_txn v) (list_any ends_txn vs) e)
    ∙ scn-vector vec v s
    ∙ ap (λ b. if b then s.scn else s.commit_scn) (ends-commits v (or-first (ends_txn v) (list_any ends_txn vs) e))

or-none : (b : Bool) → (b || false) ≡ b
or-none true = refl
or-none false = refl

alone-scn : (vs : List Vector) (s : Standing) → IsAlone vs →
    (standing_after_all 1 vs s).commit_scn ≡ (if has_commit vs then s.scn else s.commit_scn)
alone-scn [] s alone = refl
alone-scn (v ∷ []) s alone = scn-vector 1 v s ∙ ap (λ b. if b then s.scn else s.commit_scn) (sym (or-none (is_commit v)))
alone-scn (v ∷ w ∷ vs) s alone =
    quiet-scn 1 (v ∷ w ∷ vs) s alone ∙
    ap (λ b. if b then s.scn else s.commit_scn) (sym (no-commit-in (v ∷ w ∷ vs) alone))

-- ---- the number of commits

some-of : (x : Xid) (ts : List Txn) → has_xid x ts ≡ true → 1 ≤ length (of_xid x ts)
some-of x ts is = by (of_xid x ts) (sym (any_left (λ t. same_xid t.xid x) ts) ∙ is)
  where
    by : (us : List Txn) → not (is_empty us) ≡ true → 1 ≤ length us
    by [] e = absurd (cc)
    by (u ∷ us) e = omega arith

ended-one : (at : Pos) (x : Xid) (ts : List Txn) → length (of_xid x ts) ≤ 1 → length (txns_ended_by at x ts) ≡ 1
ended-one at x ts one =
    elim (has_xid x ts) as (λ b. has_xid x ts ≡ b → length (if b then of_xid x ts else txn_known_by_commit at x ∷ []) ≡ 1) [
      | true ↦ λ is. let some = some-of x ts is in omega (arith, one, some)
      | false ↦ λ is. refl
    ] refl

quiet-vector : (scn : ℕ) (at : Pos) (v : Vector) (h : History) → ends_txn v ≡ false →
    (after_vector scn at v h).commits ≡ h.commits
quiet-vector scn at (Start x) h e = refl
quiet-vector scn at (OfChange c) h e = refl
quiet-vector scn at (Undo x) h e = refl
quiet-vector scn at (Commit x) h e = absurd (cc)
quiet-vector scn at (Rollback x) h e = absurd (cc)
quiet-vector scn at (Table t) h e = refl
quiet-vector scn at DictEnd h e = refl

quiet-count : (scn rec vec : ℕ) (vs : List Vector) (h : History) → list_any ends_txn vs ≡ false →
    (after_vectors scn rec vec vs h).commits ≡ h.commits
quiet-count scn rec vec [] h e = refl
quiet-count scn rec vec (v ∷ vs) h e =
    let at : Pos = record { rec = rec; vec = vec } in
    quiet-count scn rec (vec + 1) vs (after_vector scn at v h) (or-second (ends_txn v) (list_any ends_txn vs) e)
    ∙ quiet-vector scn at v h (or-first (ends_txn v) (list_any ends_txn vs) e)

one-count : (scn : ℕ) (at : Pos) (v : Vector) (h : History) → ((x : Xid) → length (of_xid x h.active) ≤ 1) →
    commit_count (after_vector scn at v h).commits ≡
    (if is_commit v then commit_count h.commits + 1 else commit_count h.commits)
one-count scn at (Start x) h one = refl
one-count scn at (OfChange c) h one = refl
one-count scn at (Undo x) h one = refl
one-count scn at (Commit x) h one =
    let ended = txns_ended_by at x h.active in
    let count = ended-one at x h.active (one x) in
    let long = length-append h.commits.made (map (committed at scn) ended) in
    let same = length-map ended (committed at scn) in
    omega (arith, long, same, count)
one-count scn at (Rollback x) h one = refl
one-count scn at (Table t) h one = refl
one-count scn at DictEnd h one = refl

alone-count : (scn rec : ℕ) (vs : List Vector) (h : History) → IsAlone vs → ((x : Xid) → length (of_xid x h.active) ≤ 1) →
    commit_count (after_vectors scn rec 1 vs h).commits ≡
    (if has_commit vs then commit_count h.commits + 1 else commit_count h.commits)
alone-count scn rec [] h alone one = refl
alone-count scn rec (v ∷ []) h alone one =
    one-count scn (record { rec = rec; vec = 1 }) v h one ∙
    ap (λ b. if b then commit_count h.commits + 1 else commit_count h.commits) (sym (or-none (is_commit v)))
alone-count scn rec (v ∷ w ∷ vs) h alone one =
    ap commit_count (quiet-count scn rec 1 (v ∷ w ∷ vs) h alone) ∙
    ap (λ b. if b then commit_count h.commits + 1 else commit_count h.commits) (sym (no-commit-in (v ∷ w ∷ vs) alone))

-- ---- one record more of the whole redo, which is well with it

front-fits : (logs : Archived) (s : KeptState) (k : ℕ) (e : Entry) (more : List Entry) → drop k (redo_entries logs s) ≡ e ∷ more →
    (front_at logs s k).fault ≡ None → (front_at logs s (k + 1)).fault ≡ None →
    record_fault (front_at logs s k).standing e ≡ None
front-fits logs s k e more next well after =
    one-well (front_at logs s k).standing (front_at logs s k).history e
    (sym (ap (λ (a : Admitted). a.fault) (front-more logs s k e more next well)) ∙ after)

front-is : (logs : Archived) (s : KeptState) (k : ℕ) (e : Entry) (more : List Entry) → drop k (redo_entries logs s) ≡ e ∷ more →
    (front_at logs s k).fault ≡ None → (front_at logs s (k + 1)).fault ≡ None → front_at logs s (k + 1) ≡
    record {
      standing = record_after e (front_at logs s k).standing;
      history = history_after ((front_at logs s k).standing.rec + 1) e (front_at logs s k).history;
      fault = None;
      left = (record_after e (front_at logs s k).standing).dictionary;
    }
front-is logs s k e more next well after =
    front-more logs s k e more next well ∙
    one-admitted (front_at logs s k).standing (front_at logs s k).history e (front-fits logs s k e more next well after)

pub front-scn : (logs : Archived) (s : KeptState) (k : ℕ) (h : Header) (r : RedoRec) (more : List Entry) →
    drop k (redo_entries logs s) ≡ (h, r) ∷ more → (front_at logs s k).fault ≡ None → (front_at logs s (k + 1)).fault ≡ None →
    (front_at logs s (k + 1)).standing.scn ≡ r.scn
front-scn logs s k h r more next well after =
    ap (λ (a : Admitted). a.standing.scn) (front-is logs s k (h, r) more next well after) ∙
    scn-after h r (front_at logs s k).standing

pub front-commit-scn : (logs : Archived) (s : KeptState) (k : ℕ) (h : Header) (r : RedoRec) (more : List Entry) →
    drop k (redo_entries logs s) ≡ (h, r) ∷ more → (front_at logs s k).fault ≡ None → (front_at logs s (k + 1)).fault ≡ None →
    (front_at logs s (k + 1)).standing.commit_scn ≡
    (if has_commit r.vectors then r.scn else (front_at logs s k).standing.commit_scn)
front-commit-scn logs s k h r more next well after =
    let t = (front_at logs s k).standing in
    ap (λ (a : Admitted). a.standing.commit_scn) (front-is logs s k (h, r) more next well after) ∙
    alone-scn r.vectors (standing_at_record (h, r) t)
    (is-alone t h r (front-fits logs s k (h, r) more next well after))

pub front-count : (logs : Archived) (s : KeptState) (k : ℕ) (h : Header) (r : RedoRec) (more : List Entry) →
    drop k (redo_entries logs s) ≡ (h, r) ∷ more → (front_at logs s k).fault ≡ None → (front_at logs s (k + 1)).fault ≡ None →
    commits_by logs s (k + 1) ≡ (if has_commit r.vectors then commits_by logs s k + 1 else commits_by logs s k)
front-count logs s k h r more next well after =
    let a = front_at logs s k in
    ap (λ (x : Admitted). commit_count x.history.commits) (front-is logs s k (h, r) more next well after) ∙
    alone-count r.scn (a.standing.rec + 1) r.vectors a.history
    (is-alone a.standing h r (front-fits logs s k (h, r) more next well after))
    (front_sound s.first s.base (redo_entries logs s) k).one

-- ---- the end of a run

rest-at : {A : Type 0} (q k : ℕ) (xs : List A) → q ≤ k → drop (k - q) (drop q xs) ≡ drop k xs
rest-at q k xs order =
    let sum : q + (k - q) ≡ k = omega (arith, order) in drop-drop (k - q) q xs ∙ ap (λ j. drop j xs) sum

all-taken : (logs : Archived) (s : KeptState) (k : ℕ) → (run_mark s).q ≤ k →
    progress_after (run_start s) s.skips (drop (run_mark s).q (redo_entries logs s)) ≡
    progress_after_records s.skips (drop k (redo_entries logs s)) (run_progress logs s k)
all-taken logs s k order =
    let q = (run_mark s).q in
    let es = redo_entries logs s in
    ap (progress_after (run_start s) s.skips) (sym (take-append-drop (k - q) (drop q es)))
    ∙ progress-append s.skips (take (k - q) (drop q es)) (drop (k - q) (drop q es)) (first_progress (run_start s))
    ∙ ap (λ xs. progress_after_records s.skips xs (run_progress logs s k)) (rest-at q k es order)

-- a run ends as the fold, from each record on
pub run-ends-from : (logs : Archived) (s : KeptState) (k : ℕ) → Belongs logs s →
    redo_ahead logs s.logs (first_place s.first 0) ≡ standby_redo logs s → (run_mark s).q ≤ k →
    end_of (standby_redo logs s).stop (progress_after_records s.skips (drop k (redo_entries logs s)) (run_progress logs s k)) ≡
    run_fold logs s
run-ends-from logs s k b redo order =
    ap (end_of (standby_redo logs s).stop) (sym (all-taken logs s k order)) ∙ run-ends logs s b redo

ended-stays : (skips : List Skip) (es : List Entry) (f : Folded) → progress_after_records skips es (Ended f) ≡ Ended f
ended-stays skips [] f = refl
ended-stays skips (e ∷ es) f = ended-stays skips es f

-- where no record is left, it ends with what its evaluator has come to
pub run-ended : (logs : Archived) (s : KeptState) (k : ℕ) → Belongs logs s →
    redo_ahead logs s.logs (first_place s.first 0) ≡ standby_redo logs s → (run_mark s).q ≤ k →
    drop k (redo_entries logs s) ≡ [] → run_fold logs s ≡ end_of (standby_redo logs s).stop (run_progress logs s k)
run-ended logs s k b redo order none =
    sym (run-ends-from logs s k b redo order) ∙
    ap (λ es. end_of (standby_redo logs s).stop (progress_after_records s.skips es (run_progress logs s k))) none

-- and where its evaluator ends with a record, with that
pub run-stopped : (logs : Archived) (s : KeptState) (k : ℕ) (e : Entry) (more : List Entry) (f : Folded) → Belongs logs s →
    redo_ahead logs s.logs (first_place s.first 0) ≡ standby_redo logs s → (run_mark s).q ≤ k →
    drop k (redo_entries logs s) ≡ e ∷ more → progress_after_record s.skips e (run_progress logs s k) ≡ Ended f →
    run_fold logs s ≡ f
run-stopped logs s k e more f b redo order next ends =
    let stop = (standby_redo logs s).stop in
    sym (run-ends-from logs s k b redo order)
    ∙ ap (λ es. end_of stop (progress_after_records s.skips es (run_progress logs s k))) next
    ∙ ap (λ p. end_of stop (progress_after_records s.skips more p)) ends
    ∙ ap (end_of stop) (ended-stays s.skips more f)

-- ---- the open transactions of a run

seen-begun : (tables : List TableRow) (q k : ℕ) (ts : List Txn) → AllByRecursion (λ t. t.start.rec ≤ k) ts →
    AllByRecursion (λ t. t.start.rec < k + 1) (open_behind q (open_txns tables ts))
seen-begun tables q k ts all =
    all_filter (λ (t : OpenTxn). t.start.rec < k + 1) (λ t. nat_lt q t.start.rec) (open_txns tables ts)
    (all_map (λ (t : Txn). t.start.rec ≤ k) (λ (t : OpenTxn). t.start.rec < k + 1) (open_txn tables)
    (λ t is. omega (arith, is)) ts all)

seen-some : (q : ℕ) (ts : List OpenTxn) → AllByRecursion (λ t. 0 < t.start.rec) (open_behind q ts)
seen-some q [] = tt
seen-some q (t ∷ ts) =
    elim (nat_lt q t.start.rec) as (λ b. nat_lt q t.start.rec ≡ b →
    AllByRecursion (λ u. 0 < u.start.rec) (cond b (t ∷ open_behind q ts) (open_behind q ts))) [
      | true ↦ λ is. (grind (arith, nat_tests, is), seen-some q ts)
      | false ↦ λ is. seen-some q ts
    ] refl

seen-single : (tables : List TableRow) (q : ℕ) (x : Xid) (ts : List Txn) → length (of_xid x ts) ≤ 1 →
    length (filter (λ t. same_xid t.xid x) (open_behind q (open_txns tables ts))) ≤ 1
seen-single tables q x ts one =
    let us = open_txns tables ts in
    let swap = ap (λ (vs : List OpenTxn). length vs) (filter_swap (λ t. same_xid t.xid x) (λ t. nat_lt q t.start.rec) us) in
    let fewer = filter_fewer (λ t. nat_lt q t.start.rec) (filter (λ t. same_xid t.xid x) us) in
    let view = ap (λ (vs : List OpenTxn). length vs)
    (filter_seen (open_txn tables) (λ t. same_xid t.xid x) (λ t. same_xid t.xid x) (λ t. refl) ts) in
    let same = length-map (of_xid x ts) (open_txn tables) in
    omega (arith, swap, fewer, view, same, one)

-- they began up to the last record, and each id is open once
pub run-open : (logs : Archived) (s : KeptState) (k : ℕ) → Belongs logs s →
    redo_ahead logs s.logs (first_place s.first 0) ≡ standby_redo logs s → (run_mark s).q ≤ k →
    k ≤ length (redo_entries logs s) → (front_at logs s k).fault ≡ None → AreOpen k (run_admitted logs s k).standing
run-open logs s k b redo order there well =
    let es = redo_entries logs s in
    let q = (run_mark s).q in
    let a = front_at logs s k in
    let rec = rec_at s.first s.base es k there well in
    let sound = front_sound s.first s.base es k in
    let within = front_within s.first s.base es k in
    let tables = a.standing.dictionary.tables in
    let active : open_behind q a.standing.active ≡ open_behind q (open_txns tables a.history.active) =
    ap (open_behind q) sound.agrees.same in
    let began : AllByRecursion (λ t. t.start.rec ≤ k) a.history.active =
    subst (λ (j : ℕ). AllByRecursion (λ t. t.start.rec ≤ j) a.history.active) rec within.began.active in
    let own : AreOpen k (standing_behind q (run_mark s).m a.standing) = record {
      rec = rec;
      begun = subst (λ (ts : List OpenTxn). AllByRecursion (λ t. t.start.rec < k + 1) ts) (sym active)
          (seen-begun tables q k a.history.active began);
      some = seen-some q a.standing.active;
      single = λ x. subst (λ (ts : List OpenTxn). length (filter (λ t. same_xid t.xid x) ts) ≤ 1) (sym active)
          (seen-single tables q x a.history.active (sound.one x));
    } in
    subst (λ (t : Standing). AreOpen k t) (sym (run-standing logs s k b redo order there)) own
