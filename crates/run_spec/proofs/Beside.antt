-- A run beside the whole redo: behind each record that it has taken it has the same standing and history, but for the
-- transactions that began up to record q.
use Rattle.std.proofs.Common.{◌≡◌, ℕ, suc, ◌+◌, ◌-◌, ◌≤◌, ◌<◌, nat_lt, List, [], ◌∷◌, take, drop, length, map, filter, refl, sym, ap, ◌∙◌, subst, true, false, Option, Some, None, arith}
use Rattle.std.specs.List.{AllByRecursion}
use Rattle.std.proofs.lemmas.Bool.{le-ltb}
use Rattle.std.proofs.lemmas.Bool.Decides.{nat_tests}
use Rattle.std.proofs.lemmas.List.{length-take-le, length-drop, length-map, take-take, drop-take, drop_all}
use Rattle.rl_value.specs.declared.cause.LawFault.{LawFault}
use Rattle.redo_spec.specs.Dictionary.{Dictionary}
use Rattle.redo_spec.specs.History.{Entry, Txn, Committed, History, commits_after, commit_count, no_history, history_after}
use Rattle.redo_spec.specs.Standing.{Standing, OpenTxn, beginning, open_txn, open_txns, record_after}
use Rattle.redo_spec.specs.Law.{Admitted, record_fault, dictionary_left, admitted_or, admission}
use Rattle.redo_spec.specs.Mark.{MarkFits, front, from_mark}
use Rattle.redo_spec.proofs.ListLaws.{all_take, all_weaker, filter_no}
use Rattle.redo_spec.proofs.StandingLaws.{filter_seen}
use Rattle.redo_spec.proofs.AdmissionLaws.{rec_after_record, fault_first, fault_later, append_well}
use Rattle.redo_spec.proofs.MarkStandings.{behind, behind_after_record, record_behind}
use Rattle.redo_spec.proofs.MarkHistories.{Sound, seen, history_behind, sound_after_record, history_behind_record}
use Rattle.redo_spec.proofs.MarkRanges.{Within, Old, within_after_record, old_after_record}
use Rattle.redo_spec.proofs.MarkLaws.{admitted_behind, resumed_alike}
use Rattle.run_spec.proofs.Starting.{front_take, well_before, rec_at}

-- ---- what each record keeps

kept_or : (P : Standing → History → Type 0) (o : Option LawFault) (left : Dictionary) (s : Standing) (h : History)
    (later : Admitted) → P s h → (o ≡ None → P later.standing later.history) →
    P (admitted_or o left s h later).standing (admitted_or o left s h later).history
kept_or P None left s h later here more = more refl
kept_or P (Some fault) left s h later here more = here

pub kept : (P : Standing → History → Type 0) → ((e : Entry) (s : Standing) (h : History) → P s h → record_fault s e ≡ None →
    P (record_after e s) (history_after (s.rec + 1) e h)) →
    (es : List Entry) (s : Standing) (h : History) → P s h → P (admission s h es).standing (admission s h es).history
kept P each [] s h here = here
kept P each (e ∷ es) s h here =
    kept_or P (record_fault s e) (dictionary_left s e) s h (admission (record_after e s) (history_after (s.rec + 1) e h) es) here
    (λ fits. kept P each es (record_after e s) (history_after (s.rec + 1) e h) (each e s h here fits))

pub sound_at : (es : List Entry) (s : Standing) (h : History) → Sound s h →
    Sound (admission s h es).standing (admission s h es).history
sound_at = kept Sound (λ e s h here fits. sound_after_record e s h here fits)

pub within_at : (es : List Entry) (s : Standing) (h : History) → Within s.rec h →
    Within (admission s h es).standing.rec (admission s h es).history
within_at =
    kept (λ s h. Within s.rec h) (λ e s h here fits. subst (λ k. Within k (history_after (s.rec + 1) e h))
    (sym (rec_after_record e s)) (within_after_record s.rec e h here))

pub first_sound : (first base : ℕ) → Sound (beginning first base) (no_history 0)
first_sound first base = record {
  known = refl;
  agrees = record { same = refl; none = λ e. refl };
  before = refl;
  one = λ x. omega arith;
}

pub first_within : Within 0 (no_history 0)
first_within = record { began = record { active = tt; made = tt }; rolled_back = tt }

pub front_sound : (first base : ℕ) (es : List Entry) (k : ℕ) →
    Sound (front first base es k).standing (front first base es k).history
front_sound first base es k = sound_at (take k es) (beginning first base) (no_history 0) (first_sound first base)

pub front_within : (first base : ℕ) (es : List Entry) (k : ℕ) →
    Within (front first base es k).standing.rec (front first base es k).history
front_within first base es k = within_at (take k es) (beginning first base) (no_history 0) first_within

-- ---- at record q

none_late : (q rec : ℕ) (ts : List Txn) → rec ≤ q → AllByRecursion (λ t. t.start.rec ≤ rec) ts →
    filter (λ t. nat_lt q t.start.rec) ts ≡ []
none_late q rec ts short a =
    filter_no (λ (t : Txn). nat_lt q t.start.rec) ts
    (all_weaker (λ (t : Txn). t.start.rec ≤ rec) (λ (t : Txn). nat_lt q t.start.rec ≡ false)
    (λ t is. le-ltb q t.start.rec (omega (arith, is, short))) ts a)

standing_at_mark : (q m : ℕ) (s : Standing) (h : History) → s.rec ≤ q → Sound s h → Within s.rec h → from_mark s m ≡ behind q m s
standing_at_mark q m s h short sound within =
    let tables = s.dictionary.tables in
    let gone : filter (λ t. nat_lt q t.start.rec) s.active ≡ [] =
    ap (λ (ts : List OpenTxn). filter (λ t. nat_lt q t.start.rec) ts) sound.agrees.same
    ∙ filter_seen (open_txn tables) (λ t. nat_lt q t.start.rec) (λ t. nat_lt q t.start.rec) (λ t. refl) h.active
    ∙ ap (open_txns tables) (none_late q s.rec h.active short within.began.active) in
    ap (λ (ts : List OpenTxn). record s { known = m; active = ts }) (sym gone)

history_at_mark : (q rec : ℕ) (h : History) → rec ≤ q → Within rec h →
    no_history (commit_count h.commits) ≡ history_behind q (commit_count h.commits) h
history_at_mark q rec h short within =
    let b = commit_count h.commits in
    let active = none_late q rec h.active short within.began.active in
    let made : map (seen q) (drop b h.commits.made) ≡ [] = ap (map (seen q)) (drop_all b h.commits.made (omega arith)) in
    let rolled = none_late q rec h.rolled_back short within.rolled_back in
    λ i. record { active = sym active i; commits = record { before = b; made = sym made i }; rolled_back = sym rolled i }

pub old_at_mark : (q rec : ℕ) (h : History) → rec ≤ q → h.commits.before ≡ 0 → Within rec h → Old q (commit_count h.commits) h
old_at_mark q rec h short before within =
    let b = commit_count h.commits in
    record {
      few = omega (arith, before);
      old = all_take (λ (c : Committed). c.txn.start.rec ≤ q) b h.commits.made
          (all_weaker (λ (c : Committed). c.txn.start.rec ≤ rec) (λ (c : Committed). c.txn.start.rec ≤ q)
          (λ c is. omega (arith, is, short)) h.commits.made within.began.made);
    }

-- ---- up to record m neither has a fault

known_beside : (q m b : ℕ) (es : List Entry) (s : Standing) (h : History) → q ≤ s.rec → s.rec + length es ≤ m → Sound s h →
    Old q b h → (admission s h es).fault ≡ None →
    admission (behind q m s) (history_behind q b h) es ≡ admitted_behind q m b (admission s h es)
known_beside q m b [] s h past within sound old e = refl
known_beside q m b (x ∷ xs) s h past within sound old e =
    let s1 = record_after x s in
    let h1 = history_after (s.rec + 1) x h in
    let none = sound.known in
    let count = rec_after_record x s in
    let long : length (x ∷ xs) ≡ suc (length xs) = refl in
    let fits = fault_first (record_fault s x) (dictionary_left s x) s h (admission s1 h1 xs) e in
    let later = fault_later (record_fault s x) (dictionary_left s x) s h (admission s1 h1 xs) e in
    let fits_behind = record_behind q m x s (omega (arith, none)) (omega (arith, within, long)) past fits in
    let standing = behind_after_record q m x s past in
    let history = history_behind_record q b x s h past old.few sound fits in
    let old1 = old_after_record q b (s.rec + 1) x h old in
    ap (λ o. admitted_or o (dictionary_left (behind q m s) x) (behind q m s) (history_behind q b h)
    (admission (record_after x (behind q m s)) (history_after (s.rec + 1) x (history_behind q b h)) xs)) fits_behind
    ∙ (λ i. admission (standing i) (history i) xs)
    ∙ known_beside q m b xs s1 h1 (omega (arith, past, count)) (omega (arith, within, long, count))
    (sound_after_record x s h sound fits) old1 later
    ∙ sym (ap (λ o. admitted_behind q m b (admitted_or o (dictionary_left s x) s h (admission s1 h1 xs))) fits)

-- ---- behind each record

-- the admission of the records behind q up to record k, by a run that begins there
abbrev pub resumed_to : ℕ → ℕ → List Entry → ℕ → ℕ → ℕ → Admitted
resumed_to first base es q m k =
    let a = front first base es q in admission (from_mark a.standing m) (no_history (commit_count a.history.commits))
    (take (k - q) (drop q es))

-- the first k records are the first q and those behind them
parts_of : (es : List Entry) (q k : ℕ) → q ≤ k → drop q (take k es) ≡ take (k - q) (drop q es)
parts_of es q k order =
    let sum : q + (k - q) ≡ k = omega (arith, order) in
    ap (λ (j : ℕ). drop q (take j es)) (sym sum) ∙ drop-take q (k - q) es

pub front_goes_on : (first base : ℕ) (es : List Entry) (q k : ℕ) → q ≤ k → (front first base es q).fault ≡ None →
    front first base es k ≡
    admission (front first base es q).standing (front first base es q).history (take (k - q) (drop q es))
front_goes_on first base es q k order well =
    ap (admission (beginning first base) (no_history 0)) (front_take es q k order)
    ∙ append_well (take q es) (drop q (take k es)) (beginning first base) (no_history 0) well
    ∙ ap (admission (front first base es q).standing (front first base es q).history) (parts_of es q k order)

-- no further than record m
up_to_known : (first base : ℕ) (es : List Entry) (q m k : ℕ) → q ≤ k → k ≤ m → k ≤ length es →
    (front first base es k).fault ≡ None → resumed_to first base es q m k ≡
    admitted_behind q m (commit_count (front first base es q).history.commits) (front first base es k)
up_to_known first base es q m k order within there well =
    let aq = front first base es q in
    let b = commit_count aq.history.commits in
    let xs = take (k - q) (drop q es) in
    let well_q = well_before first base es q k order well in
    let rec = rec_at first base es q (omega (arith, order, there)) well_q in
    let sound = front_sound first base es q in
    let own = front_within first base es q in
    let short : aq.standing.rec ≤ q = omega (arith, rec) in
    let standing = standing_at_mark q m aq.standing aq.history short sound own in
    let history = history_at_mark q aq.standing.rec aq.history short own in
    let old = old_at_mark q aq.standing.rec aq.history short sound.before own in
    let on = front_goes_on first base es q k order well_q in
    let left = length-drop q es in
    let long : length xs ≡ k - q = length-take-le (k - q) (drop q es) (omega (arith, left, order, there)) in
    (λ i. admission (standing i) (history i) xs)
    ∙ known_beside q m b xs aq.standing aq.history (omega (arith, rec)) (omega (arith, rec, long, order, within)) sound old
    (sym (ap (λ (a : Admitted). a.fault) on) ∙ well)
    ∙ ap (admitted_behind q m b) (sym on)

-- a mark fits the records up to one behind its record m
fits_shorter : (first base : ℕ) (es : List Entry) (q m n k : ℕ) → MarkFits first base es q m n → m ≤ k → k ≤ length es →
    MarkFits first base (take k es) q m n
fits_shorter first base es q m n k fits past there =
    let same : take m es ≡ take m (take k es) = sym (take-take m k es past) in
    let long = length-take-le k es there in
    record {
      order = fits.order;
      there = omega (arith, past, long);
      well = subst (λ (xs : List Entry). (admission (beginning first base) (no_history 0) xs).fault ≡ None) same fits.well;
      behind = subst (λ (xs : List Entry). AllByRecursion (λ (t : Txn). q < t.start.rec)
          (admission (beginning first base) (no_history 0) xs).history.active) same fits.behind;
      above = subst (λ (xs : List Entry). AllByRecursion (λ (c : Committed). q < c.txn.start.rec)
          (commits_after (admission (beginning first base) (no_history 0) xs).history.commits n)) same fits.above;
    }

-- behind record m
past_known : (first base : ℕ) (es : List Entry) (q m n k : ℕ) → MarkFits first base es q m n → m ≤ k → k ≤ length es →
    resumed_to first base es q m k ≡
    admitted_behind q m (commit_count (front first base es q).history.commits) (front first base es k)
past_known first base es q m n k fits past there =
    let order = fits.order in
    let inside : q ≤ k = omega (arith, order, past) in
    let same : take q es ≡ take q (take k es) = sym (take-take q k es inside) in
    let behind_q : take (k - q) (drop q es) ≡ drop q (take k es) = sym (parts_of es q k inside) in
    let at : List Entry → Admitted = λ xs. admission (beginning first base) (no_history 0) xs in
    (λ i. admission (from_mark (at (same i)).standing m) (no_history (commit_count (at (same i)).history.commits)) (behind_q i))
    ∙ resumed_alike first base (take k es) q m n (fits_shorter first base es q m n k fits past there)
    ∙ ap (λ (xs : List Entry). admitted_behind q m (commit_count (at xs).history.commits) (front first base es k)) (sym same)

-- Behind each record a run has what the whole redo has, but for what began up to record q.
pub beside : (first base : ℕ) (es : List Entry) (q m n k : ℕ) → MarkFits first base es q m n → q ≤ k → k ≤ length es →
    (k ≤ m → (front first base es k).fault ≡ None) → resumed_to first base es q m k ≡
    admitted_behind q m (commit_count (front first base es q).history.commits) (front first base es k)
beside first base es q m n k fits order there well =
    elim (nat_lt k m) as (λ b. nat_lt k m ≡ b → resumed_to first base es q m k ≡
    admitted_behind q m (commit_count (front first base es q).history.commits) (front first base es k)) [
      | true ↦ λ is.
          let low : k ≤ m = grind (arith, nat_tests, is) in
          up_to_known first base es q m k order low there (well low)
      | false ↦ λ is. past_known first base es q m n k fits (grind (arith, nat_tests, is)) there
    ] refl

-- up to record m the records are well
pub known_well : (first base : ℕ) (es : List Entry) (q m n k : ℕ) → MarkFits first base es q m n → k ≤ m →
    (front first base es k).fault ≡ None
known_well first base es q m n k fits low = well_before first base es k m low fits.well

-- it is well up to where the whole redo is
pub beside_well : (first base : ℕ) (es : List Entry) (q m n k : ℕ) → MarkFits first base es q m n → q ≤ k → k ≤ length es →
    (resumed_to first base es q m k).fault ≡ (front first base es k).fault
beside_well first base es q m n k fits order there =
    ap (λ (a : Admitted). a.fault)
    (beside first base es q m n k fits order there (λ low. known_well first base es q m n k fits low))

-- it counts as many commits
pub beside_count : (first base : ℕ) (es : List Entry) (q m n k : ℕ) → MarkFits first base es q m n → q ≤ k → k ≤ length es →
    commit_count (resumed_to first base es q m k).history.commits ≡ commit_count (front first base es k).history.commits
beside_count first base es q m n k fits order there =
    let aq = front first base es q in
    let ak = front first base es k in
    let b = commit_count aq.history.commits in
    let m_order = fits.order in
    let m_there = fits.there in
    let well_q = known_well first base es q m n q fits m_order in
    let rec = rec_at first base es q (omega (arith, m_order, m_there)) well_q in
    let sound = front_sound first base es q in
    let old : Old q b ak.history =
    subst (λ (a : Admitted). Old q b a.history) (sym (front_goes_on first base es q k order well_q))
    (kept (λ s h. Old q b h) (λ e s h here fit. old_after_record q b (s.rec + 1) e h here) (take (k - q) (drop q es))
    aq.standing aq.history (old_at_mark q aq.standing.rec aq.history (omega (arith, rec)) sound.before
    (front_within first base es q))) in
    let few = old.few in
    let none : ak.history.commits.before ≡ 0 = (front_sound first base es k).before in
    ap (λ (a : Admitted). commit_count a.history.commits)
    (beside first base es q m n k fits order there (λ low. known_well first base es q m n k fits low))
    ∙ omega (arith, few, none, length-map (drop b ak.history.commits.made) (seen q), length-drop b ak.history.commits.made)
