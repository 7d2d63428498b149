-- A run from a mark goes on as the whole redo does: at each record it has the same standing and history, but for the
-- transactions that began up to record q. Up to record m neither has a fault; from there on both judge alike.
use Rattle.std.proofs.Common.{◌≡◌, ℕ, zero, suc, ◌+◌, ◌-◌, ◌≤◌, ◌<◌, nat_lt, List, [], ◌∷◌, ◌++◌, take, drop, length, map, filter, sym, ap, ◌∙◌, refl, subst, true, false, cond, Option, Some, None, arith, ⊎_elim}
use Rattle.std.specs.List.{AllByRecursion}
use Rattle.std.proofs.lemmas.Bool.{lt-ltb, le-ltb, cases_lt}
use Rattle.std.proofs.lemmas.List.{length-map, length-append, length-take, length-drop, take-append-drop, take-append-le, take-take, drop-take, drop-drop, drop_all, drop-map}
use Rattle.rl_value.specs.declared.cause.LawFault.{LawFault}
use Rattle.redo_spec.specs.Dictionary.{Dictionary}
use Rattle.redo_spec.specs.History.{Entry, Txn, Committed, History, commits_after, commit_count, no_history, txn_known_by_commit, history_after}
use Rattle.redo_spec.specs.Standing.{Standing, OpenTxn, beginning, open_txn, open_txns, record_after}
use Rattle.redo_spec.specs.Law.{Admitted, record_fault, dictionary_left, admitted_or, admission}
use Rattle.redo_spec.specs.Mark.{MarkFits, front, from_mark, resumed}
use Rattle.redo_spec.proofs.ListLaws.{all_take, all_drop, all_weaker, map_same, filter_all, filter_no}
use Rattle.redo_spec.proofs.StandingLaws.{Agrees, filter_seen}
use Rattle.redo_spec.proofs.AdmissionLaws.{rec_after_record, fault_first, fault_later, front_well, append_well, rec_well}
use Rattle.redo_spec.proofs.MarkStandings.{behind, knowing, behind_after_record, record_behind, record_known, dictionary_known}
use Rattle.redo_spec.proofs.MarkHistories.{Sound, seen, history_behind, sound_after_record, history_behind_record}
use Rattle.redo_spec.proofs.MarkRanges.{Began, Within, Old, began_after_record, within_after_record, old_after_record}

-- ---- what stays through records

kept_or : (P : Standing → History → Type 0) (o : Option LawFault) (left : Dictionary) (s : Standing) (h : History)
    (later : Admitted) → P s h → (o ≡ None → P later.standing later.history) →
    P (admitted_or o left s h later).standing (admitted_or o left s h later).history
kept_or P None left s h later here more = more refl
kept_or P (Some fault) left s h later here more = here

-- what each admitted record keeps, the redo keeps
kept : (P : Standing → History → Type 0) → ((e : Entry) (s : Standing) (h : History) → P s h → record_fault s e ≡ None →
    P (record_after e s) (history_after (s.rec + 1) e h)) →
    (es : List Entry) (s : Standing) (h : History) → P s h → P (admission s h es).standing (admission s h es).history
kept P each [] s h here = here
kept P each (e ∷ es) s h here =
    kept_or P (record_fault s e) (dictionary_left s e) s h (admission (record_after e s) (history_after (s.rec + 1) e h) es) here
    (λ fits. kept P each es (record_after e s) (history_after (s.rec + 1) e h) (each e s h here fits))

sound_at : (es : List Entry) (s : Standing) (h : History) → Sound s h →
    Sound (admission s h es).standing (admission s h es).history
sound_at = kept Sound (λ e s h here fits. sound_after_record e s h here fits)

within_at : (es : List Entry) (s : Standing) (h : History) → Within s.rec h →
    Within (admission s h es).standing.rec (admission s h es).history
within_at =
    kept (λ s h. Within s.rec h) (λ e s h here fits. subst (λ k. Within k (history_after (s.rec + 1) e h))
    (sym (rec_after_record e s)) (within_after_record s.rec e h here))

old_at : (q b : ℕ) (es : List Entry) (s : Standing) (h : History) → Old q b h → Old q b (admission s h es).history
old_at q b = kept (λ s h. Old q b h) (λ e s h here fits. old_after_record q b (s.rec + 1) e h here)

record Late (q n : ℕ) (s : Standing) (h : History) : Type 0 where
  past : q ≤ s.rec
  began : Began (λ k. q < k) n h

late_after : (q n : ℕ) (e : Entry) (s : Standing) (h : History) → Late q n s h →
    Late q n (record_after e s) (history_after (s.rec + 1) e h)
late_after q n e s h late =
    let past = late.past in
    let count = rec_after_record e s in
    record {
      past = omega (arith, past, count);
      began = began_after_record (λ k. q < k) n (s.rec + 1) e h
          (omega (arith, past)) late.began;
    }

late_at : (q n : ℕ) (es : List Entry) (s : Standing) (h : History) → (1 ≤ length es → q ≤ s.rec) → Began (λ k. q < k) n h →
    Began (λ k. q < k) n (admission s h es).history
late_at q n [] s h past began = began
late_at q n (e ∷ es) s h past began =
    let some : 1 ≤ length (e ∷ es) = omega arith in
    (kept (Late q n) (λ e s h here fits. late_after q n e s h here) (e ∷ es) s h
    (record { past = past some; began = began })).began

-- ---- the two runs

-- what is admitted by a run that begins behind record q and b commits
abbrev pub admitted_behind : ℕ → ℕ → ℕ → Admitted → Admitted
admitted_behind q m b a = record {
  standing = behind q m a.standing;
  history = history_behind q b a.history;
  fault = a.fault;
  left = a.left;
}

-- up to record m neither has a fault
known_alike : (q m b : ℕ) (es : List Entry) (s : Standing) (h : History) → (1 ≤ length es → q ≤ s.rec) → s.rec + length es ≤ m →
    Sound s h → Old q b h →
    (admission s h es).fault ≡ None → admission (behind q m s) (history_behind q b h) es ≡
    admitted_behind q m b (admission s h es)
known_alike q m b [] s h past within sound old e = refl
known_alike q m b (x ∷ xs) s h past within sound old e =
    let s1 = record_after x s in
    let h1 = history_after (s.rec + 1) x h in
    let some : 1 ≤ length (x ∷ xs) = omega arith in
    let here = past some in
    let none = sound.known in
    let count = rec_after_record x s in
    let long : length (x ∷ xs) ≡ suc (length xs) = refl in
    let fits = fault_first (record_fault s x) (dictionary_left s x) s h (admission s1 h1 xs) e in
    let later = fault_later (record_fault s x) (dictionary_left s x) s h (admission s1 h1 xs) e in
    let fits_behind = record_behind q m x s (omega (arith, none)) (omega (arith, within, long)) here fits in
    let standing = behind_after_record q m x s here in
    let history = history_behind_record q b x s h here old.few sound fits in
    let old1 = old_after_record q b (s.rec + 1) x h old in
    ap (λ o. admitted_or o (dictionary_left (behind q m s) x) (behind q m s) (history_behind q b h)
    (admission (record_after x (behind q m s)) (history_after (s.rec + 1) x (history_behind q b h)) xs)) fits_behind
    ∙ (λ i. admission (standing i) (history i) xs)
    ∙ known_alike q m b xs s1 h1 (λ _. omega (arith, here, count)) (omega (arith, within, long, count))
    (sound_after_record x s h sound fits) old1 later
    ∙ sym (ap (λ o. admitted_behind q m b (admitted_or o (dictionary_left s x) s h (admission s1 h1 xs))) fits)

or_behind : (q m b : ℕ) (o : Option LawFault) (left left_behind : Dictionary) (s : Standing) (h : History)
    (later later_behind : Admitted) → left_behind ≡ left →
    (o ≡ None → later_behind ≡ admitted_behind q m b later) →
    admitted_or o left_behind (behind q m s) (history_behind q b h) later_behind ≡
    admitted_behind q m b (admitted_or o left s h later)
or_behind q m b None left left_behind s h later later_behind same more = more refl
or_behind q m b (Some fault) left left_behind s h later later_behind same more =
    ap (λ (d : Dictionary). record { standing = behind q m s; history = history_behind q b h; fault = Some fault; left = d }) same

-- of transactions that began behind record q none is missing
none_missing : (q : ℕ) (ts : List Txn) → AllByRecursion (λ t. q < t.start.rec) ts → filter (λ t. nat_lt q t.start.rec) ts ≡ ts
none_missing q ts late =
    filter_all (λ (t : Txn). nat_lt q t.start.rec) ts
    (all_weaker (λ (t : Txn). q < t.start.rec) (λ (t : Txn). nat_lt q t.start.rec ≡ true)
    (λ t is. lt-ltb q t.start.rec is) ts late)

-- where the open transactions began behind it, the standing has them all
all_open : (q : ℕ) (s : Standing) (h : History) → Agrees s h → AllByRecursion (λ t. q < t.start.rec) h.active →
    filter (λ t. nat_lt q t.start.rec) s.active ≡ s.active
all_open q s h a late =
    let tables = s.dictionary.tables in
    ap (λ (ts : List OpenTxn). filter (λ t. nat_lt q t.start.rec) ts) a.same
    ∙ filter_seen (open_txn tables) (λ t. nat_lt q t.start.rec) (λ t. nat_lt q t.start.rec) (λ t. refl) h.active
    ∙ ap (open_txns tables) (none_missing q h.active late)
    ∙ sym a.same

-- behind it both judge alike
later_alike : (q m n b : ℕ) (es : List Entry) (s : Standing) (h : History) → (1 ≤ length es → m ≤ s.rec) → q ≤ m → Sound s h →
    Old q b h → Began (λ k. q < k) n h →
    admission (behind q m s) (history_behind q b h) es ≡ admitted_behind q m b (admission s h es)
later_alike q m n b [] s h past order sound old began = refl
later_alike q m n b (x ∷ xs) s h past order sound old began =
    let s1 = record_after x s in
    let h1 = history_after (s.rec + 1) x h in
    let some : 1 ≤ length (x ∷ xs) = omega arith in
    let known = past some in
    let here : q ≤ s.rec = omega (arith, known, order) in
    let none = sound.known in
    let begun : s.known ≤ s.rec = omega (arith, none) in
    let count = rec_after_record x s in
    let same : behind q m s ≡ knowing m s = ap (λ (ts : List OpenTxn). record s { known = m; active = ts })
    (all_open q s h sound.agrees began.active) in
    let fault : record_fault (behind q m s) x ≡ record_fault s x =
    ap (λ (u : Standing). record_fault u x) same ∙ record_known m x s begun known in
    let left : dictionary_left (behind q m s) x ≡ dictionary_left s x =
    ap (λ (u : Standing). dictionary_left u x) same ∙ dictionary_known m x s begun known in
    let later_behind = admission (record_after x (behind q m s)) (history_after (s.rec + 1) x (history_behind q b h)) xs in
    let standing = behind_after_record q m x s here in
    ap (λ o. admitted_or o (dictionary_left (behind q m s) x) (behind q m s) (history_behind q b h) later_behind) fault
    ∙ or_behind q m b (record_fault s x) (dictionary_left s x) (dictionary_left (behind q m s) x) s h (admission s1 h1 xs)
    later_behind left
    (λ fits.
    let history = history_behind_record q b x s h here old.few sound fits in
    let next : q < s.rec + 1 = omega (arith, here) in
    (λ i. admission (standing i) (history i) xs)
    ∙ later_alike q m n b xs s1 h1 (λ _. omega (arith, known, count)) order (sound_after_record x s h sound fits)
    (old_after_record q b (s.rec + 1) x h old)
    (began_after_record (λ k. q < k) n (s.rec + 1) x h next began))

-- ---- at the mark

-- The records up to the mark's q, those between it and its m, and the later ones; each part is full before the next has any.
record Parts (first base q m n : ℕ) (begun between later : List Entry) : Type 0 where
  order : q ≤ m
  short : length begun ≤ q
  full : 1 ≤ length (between ++ later) → q ≤ length begun
  within : length begun + length between ≤ m
  known : 1 ≤ length later → m ≤ length begun + length between
  well : (admission (beginning first base) (no_history 0) (begun ++ between)).fault ≡ None
  late : AllByRecursion (λ t. q < t.start.rec) (admission (beginning first base) (no_history 0) (begun ++ between)).history.active
  above : AllByRecursion (λ c. q < c.txn.start.rec) (commits_after
      (admission (beginning first base) (no_history 0) (begun ++ between)).history.commits n)

begun_sound : (first base : ℕ) → Sound (beginning first base) (no_history 0)
begun_sound first base = record {
  known = refl;
  agrees = record { same = refl; none = λ e. refl };
  before = refl;
  one = λ x. omega arith;
}

begun_within : Within 0 (no_history 0)
begun_within = record { began = record { active = tt; made = tt }; rolled_back = tt }

none_late : (q rec : ℕ) (ts : List Txn) → rec ≤ q → AllByRecursion (λ t. t.start.rec ≤ rec) ts →
    filter (λ t. nat_lt q t.start.rec) ts ≡ []
none_late q rec ts short a =
    filter_no (λ (t : Txn). nat_lt q t.start.rec) ts
    (all_weaker (λ (t : Txn). t.start.rec ≤ rec) (λ (t : Txn). nat_lt q t.start.rec ≡ false)
    (λ t is. le-ltb q t.start.rec (omega (arith, is, short))) ts a)

standing_at_mark : (q m : ℕ) (s : Standing) (h : History) → s.rec ≤ q → Sound s h → Within s.rec h → from_mark s m ≡ behind q m s
standing_at_mark q m s h short sound within =
    let tables = s.dictionary.tables in
    let gone : filter (λ t. nat_lt q t.start.rec) s.active ≡ [] =
    ap (λ (ts : List OpenTxn). filter (λ t. nat_lt q t.start.rec) ts) sound.agrees.same
    ∙ filter_seen (open_txn tables) (λ t. nat_lt q t.start.rec) (λ t. nat_lt q t.start.rec) (λ t. refl) h.active
    ∙ ap (open_txns tables) (none_late q s.rec h.active short within.began.active) in
    ap (λ (ts : List OpenTxn). record s { known = m; active = ts }) (sym gone)

history_at_mark : (q rec : ℕ) (h : History) → rec ≤ q → Within rec h →
    no_history (commit_count h.commits) ≡ history_behind q (commit_count h.commits) h
history_at_mark q rec h short within =
    let b = commit_count h.commits in
    let active = none_late q rec h.active short within.began.active in
    let made : map (seen q) (drop b h.commits.made) ≡ [] = ap (map (seen q)) (drop_all b h.commits.made (omega arith)) in
    let rolled = none_late q rec h.rolled_back short within.rolled_back in
    λ i. record { active = sym active i; commits = record { before = b; made = sym made i }; rolled_back = sym rolled i }

old_at_mark : (q rec : ℕ) (h : History) → rec ≤ q → h.commits.before ≡ 0 → Within rec h → Old q (commit_count h.commits) h
old_at_mark q rec h short before within =
    let b = commit_count h.commits in
    record {
      few = omega (arith, before);
      old = all_take (λ (c : Committed). c.txn.start.rec ≤ q) b h.commits.made
          (all_weaker (λ (c : Committed). c.txn.start.rec ≤ rec) (λ (c : Committed). c.txn.start.rec ≤ q)
          (λ c is. omega (arith, is, short)) h.commits.made within.began.made);
    }

-- What both runs have come to at record m, in the terms of the whole redo.
record AtKnown (q m n b : ℕ) (begun between later : List Entry) (s : Standing) (h : History) (am : Admitted) : Type 0 where
  sound : Sound am.standing am.history
  old : Old q b am.history
  began : Began (λ k. q < k) n am.history
  rec : am.standing.rec ≡ length begun + length between
  alike : admission (behind q m s) (history_behind q b h) between ≡ admitted_behind q m b am
  goes_on : admission (behind q m s) (history_behind q b h) (between ++ later) ≡
      admission (behind q m am.standing) (history_behind q b am.history) later

-- the standing and the history at record q, with the number of commits there
at_known : (first base q m n : ℕ) (begun between later : List Entry) → Parts first base q m n begun between later →
    let aq = admission (beginning first base) (no_history 0) begun in
    AtKnown q m n (commit_count aq.history.commits) begun between later aq.standing aq.history
    (admission aq.standing aq.history between)
at_known first base q m n begun between later p =
    let s0 = beginning first base in
    let h0 = no_history 0 in
    let aq = admission s0 h0 begun in
    let am = admission aq.standing aq.history between in
    let b = commit_count aq.history.commits in
    let order = p.order in
    let short = p.short in
    let full = p.full in
    let within = p.within in
    let well_q = front_well begun between s0 h0 p.well in
    let same : admission s0 h0 (begun ++ between) ≡ am = append_well begun between s0 h0 well_q in
    let well : am.fault ≡ None = sym (ap (λ (a : Admitted). a.fault) same) ∙ p.well in
    let sound_q : Sound aq.standing aq.history = sound_at begun s0 h0 (begun_sound first base) in
    let within_q : Within aq.standing.rec aq.history = within_at begun s0 h0 begun_within in
    let rec_q : aq.standing.rec ≡ 0 + length begun = rec_well begun s0 h0 well_q in
    let rec_m : am.standing.rec ≡ aq.standing.rec + length between = rec_well between aq.standing aq.history well in
    let old_q : Old q b aq.history = old_at_mark q aq.standing.rec aq.history (omega (arith, rec_q, short))
    sound_q.before within_q in
    let sound : Sound am.standing am.history = sound_at between aq.standing aq.history sound_q in
    let both : length (between ++ later) ≡ length between + length later = length-append between later in
    let alike : admission (behind q m aq.standing) (history_behind q b aq.history) between ≡ admitted_behind q m b am =
    known_alike q m b between aq.standing aq.history (λ some. omega (arith, rec_q, full, both, some))
    (omega (arith, rec_q, within)) sound_q old_q well in
    let above : AllByRecursion (λ (c : Committed). q < c.txn.start.rec) (commits_after am.history.commits n) =
    subst (λ (a : Admitted). AllByRecursion (λ (c : Committed). q < c.txn.start.rec) (commits_after a.history.commits n))
    same p.above in
    let number : n - am.history.commits.before ≡ n = ap (λ k. n - k) sound.before ∙ omega arith in
    record {
      sound = sound;
      old = old_at q b between aq.standing aq.history old_q;
      began = record {
        active = subst (λ (a : Admitted). AllByRecursion (λ (t : Txn). q < t.start.rec) a.history.active) same p.late;
        made = subst (λ k. AllByRecursion (λ (c : Committed). q < c.txn.start.rec) (drop k am.history.commits.made)) number above;
      };
      rec = omega (arith, rec_q, rec_m);
      alike = alike;
      goes_on = append_well between later (behind q m aq.standing) (history_behind q b aq.history)
          (ap (λ (a : Admitted). a.fault) alike ∙ well)
          ∙ ap (λ (a : Admitted). admission a.standing a.history later) alike;
    }

-- the whole redo goes on from there
whole_goes_on : (first base q m n : ℕ) (begun between later : List Entry) → Parts first base q m n begun between later →
    let aq = admission (beginning first base) (no_history 0) begun in
    let am = admission aq.standing aq.history between in
    admission (beginning first base) (no_history 0) (begun ++ (between ++ later)) ≡ admission am.standing am.history later
whole_goes_on first base q m n begun between later p =
    let s0 = beginning first base in
    let h0 = no_history 0 in
    let aq = admission s0 h0 begun in
    let well_q = front_well begun between s0 h0 p.well in
    let same = append_well begun between s0 h0 well_q in
    append_well begun (between ++ later) s0 h0 well_q
    ∙ append_well between later aq.standing aq.history (sym (ap (λ (a : Admitted). a.fault) same) ∙ p.well)

runs_alike : (first base q m n : ℕ) (begun between later : List Entry) → Parts first base q m n begun between later →
    let aq = admission (beginning first base) (no_history 0) begun in
    let b = commit_count aq.history.commits in
    admission (from_mark aq.standing m) (no_history b) (between ++ later) ≡
    admitted_behind q m b (admission (beginning first base) (no_history 0) (begun ++ (between ++ later)))
runs_alike first base q m n begun between later p =
    let s0 = beginning first base in
    let h0 = no_history 0 in
    let aq = admission s0 h0 begun in
    let am = admission aq.standing aq.history between in
    let b = commit_count aq.history.commits in
    let short = p.short in
    let known = p.known in
    let well_q = front_well begun between s0 h0 p.well in
    let sound_q : Sound aq.standing aq.history = sound_at begun s0 h0 (begun_sound first base) in
    let within_q : Within aq.standing.rec aq.history = within_at begun s0 h0 begun_within in
    let rec_q : aq.standing.rec ≡ 0 + length begun = rec_well begun s0 h0 well_q in
    let before : aq.standing.rec ≤ q = omega (arith, rec_q, short) in
    let at = at_known first base q m n begun between later p in
    let rec_m = at.rec in
    let standing = standing_at_mark q m aq.standing aq.history before sound_q within_q in
    let history = history_at_mark q aq.standing.rec aq.history before within_q in
    (λ i. admission (standing i) (history i) (between ++ later))
    ∙ at.goes_on
    ∙ later_alike q m n b later am.standing am.history (λ some. omega (arith, rec_m, known, some)) p.order at.sound
    at.old at.began
    ∙ ap (admitted_behind q m b) (sym (whole_goes_on first base q m n begun between later p))

-- What the whole redo has come to at its end.
record AtEnd (q n b : ℕ) (a : Admitted) : Type 0 where
  sound : Sound a.standing a.history
  old : Old q b a.history
  began : Began (λ k. q < k) n a.history

at_end : (first base q m n : ℕ) (begun between later : List Entry) → Parts first base q m n begun between later →
    let aq = admission (beginning first base) (no_history 0) begun in
    AtEnd q n (commit_count aq.history.commits) (admission (beginning first base) (no_history 0) (begun ++ (between ++ later)))
at_end first base q m n begun between later p =
    let aq = admission (beginning first base) (no_history 0) begun in
    let am = admission aq.standing aq.history between in
    let b = commit_count aq.history.commits in
    let at = at_known first base q m n begun between later p in
    let order = p.order in
    let known = p.known in
    let rec_m = at.rec in
    let end : AtEnd q n b (admission am.standing am.history later) = record {
      sound = sound_at later am.standing am.history at.sound;
      old = old_at q b later am.standing am.history at.old;
      began = late_at q n later am.standing am.history (λ some. omega (arith, rec_m, known, order, some)) at.began;
    } in
    subst (AtEnd q n b) (sym (whole_goes_on first base q m n begun between later p)) end

-- ---- the commits above the applied count

clash : {X : Type 0} (q n b : ℕ) (made : List Committed) → n < b → b ≤ length made →
    AllByRecursion (λ c. c.txn.start.rec ≤ q) (take b made) →
    AllByRecursion (λ c. q < c.txn.start.rec) (drop n made) → X
clash q n b [] low few old late = absurd (omega (arith, low, few))
clash q zero zero (c ∷ cs) low few old late = absurd (omega (arith, low))
clash q zero (suc b) (c ∷ cs) low few old late = let x = old.0 in let y = late.0 in absurd (omega (arith, x, y))
clash q (suc n) zero (c ∷ cs) low few old late = absurd (omega (arith, low))
clash q (suc n) (suc b) (c ∷ cs) low few old late = clash q n b cs (omega (arith, low)) (omega (arith, few)) old.1 late

seen_late : (q : ℕ) (c : Committed) → q < c.txn.start.rec → seen q c ≡ c
seen_late q c late = ap (λ x. cond x c (record { txn = txn_known_by_commit c.at c.txn.xid; at = c.at; scn = c.scn }))
    (lt-ltb q c.txn.start.rec late)

commits_seen : (q b n : ℕ) (h : History) → Old q b h → h.commits.before ≡ 0 → Began (λ k. q < k) n h →
    commits_after (history_behind q b h).commits n ≡ commits_after h.commits n
commits_seen q b n h old before began =
    let number : n ≡ n - h.commits.before = omega arith ∙ ap (λ k. n - k) (sym before) in
    let same : drop (n - b) (map (seen q) (drop b h.commits.made)) ≡ drop n h.commits.made =
    ⊎_elim (λ low. clash q n b h.commits.made low old.few old.old began.made)
    (λ high.
    let sum : b + (n - b) ≡ n = omega (arith, high) in
    drop-map (seen q) (n - b) (drop b h.commits.made)
    ∙ ap (map (seen q)) (drop-drop (n - b) b h.commits.made ∙ ap (λ k. drop k h.commits.made) sum)
    ∙ map_same (λ (c : Committed). q < c.txn.start.rec) (seen q) (seen_late q) (drop n h.commits.made) began.made)
    (cases_lt n b) in
    same ∙ ap (λ k. drop k h.commits.made) number

-- ---- a fitting mark

abbrev middle : List Entry → ℕ → ℕ → List Entry
middle es q m = take (m - q) (drop q es)

abbrev back : List Entry → ℕ → ℕ → List Entry
back es q m = drop (m - q) (drop q es)

front_is : (es : List Entry) (q m : ℕ) → q ≤ m → take q es ++ middle es q m ≡ take m es
front_is es q m order =
    let sum : q + (m - q) ≡ m = omega (arith, order) in
    ap (λ (xs : List Entry). take q es ++ xs) (sym (drop-take q (m - q) es) ∙ ap (λ k. drop q (take k es)) sum)
    ∙ ap (λ (xs : List Entry). xs ++ drop q (take m es)) (sym (take-take q m es order))
    ∙ take-append-drop q (take m es)

fitting_parts : (first base : ℕ) (es : List Entry) (q m n : ℕ) → MarkFits first base es q m n →
    Parts first base q m n (take q es) (middle es q m) (back es q m)
fitting_parts first base es q m n fits =
    let order = fits.order in
    let rest = drop q es in
    let long_rest : length rest ≡ length es - q = length-drop q es in
    let long_begun = length-take q es in
    let long_between = length-take (m - q) rest in
    let long_later = length-drop (m - q) rest in
    let joined : middle es q m ++ back es q m ≡ rest = take-append-drop (m - q) rest in
    let long : length (middle es q m ++ back es q m) ≡ length rest = ap (λ (xs : List Entry). length xs) joined in
    let same = sym (front_is es q m order) in
    record {
      order = order;
      short = omega (arith, long_begun);
      full = λ some. omega (arith, some, long, long_rest, long_begun);
      within = omega (arith, long_begun, long_between, order);
      known = λ some. omega (arith, some, long_later, long_rest, long_begun, long_between, order);
      well = subst (λ (xs : List Entry). (admission (beginning first base) (no_history 0) xs).fault ≡ None) same fits.well;
      late = subst (λ (xs : List Entry). AllByRecursion (λ (t : Txn). q < t.start.rec)
          (admission (beginning first base) (no_history 0) xs).history.active) same fits.behind;
      above = subst (λ (xs : List Entry). AllByRecursion (λ (c : Committed). q < c.txn.start.rec)
          (commits_after (admission (beginning first base) (no_history 0) xs).history.commits n))
          same fits.above;
    }

-- the records behind q, and all of them, by their parts
back_is : (es : List Entry) (q m : ℕ) → middle es q m ++ back es q m ≡ drop q es
back_is es q m = take-append-drop (m - q) (drop q es)

whole_is : (es : List Entry) (q m : ℕ) → take q es ++ (middle es q m ++ back es q m) ≡ es
whole_is es q m = ap (λ (xs : List Entry). take q es ++ xs) (back_is es q m) ∙ take-append-drop q es

-- the run from a fitting mark is the whole redo, but for what began up to record q
pub resumed_alike : (first base : ℕ) (es : List Entry) (q m n : ℕ) → MarkFits first base es q m n →
    resumed first base es q m
    ≡ admitted_behind q m (commit_count (front first base es q).history.commits)
    (admission (beginning first base) (no_history 0) es)
resumed_alike first base es q m n fits =
    let aq = front first base es q in
    let b = commit_count aq.history.commits in
    ap (admission (from_mark aq.standing m) (no_history b)) (sym (back_is es q m))
    ∙ runs_alike first base q m n (take q es) (middle es q m) (back es q m) (fitting_parts first base es q m n fits)
    ∙ ap (λ (xs : List Entry). admitted_behind q m b (admission (beginning first base) (no_history 0) xs)) (whole_is es q m)

-- what the whole redo has come to, by the commits up to record q
fitting_end : (first base : ℕ) (es : List Entry) (q m n : ℕ) → MarkFits first base es q m n →
    AtEnd q n (commit_count (front first base es q).history.commits) (admission (beginning first base) (no_history 0) es)
fitting_end first base es q m n fits =
    let b = commit_count (front first base es q).history.commits in
    subst (λ (xs : List Entry). AtEnd q n b (admission (beginning first base) (no_history 0) xs)) (whole_is es q m)
    (at_end first base q m n (take q es) (middle es q m) (back es q m) (fitting_parts first base es q m n fits))

pub resumed_standing : (first base : ℕ) (es : List Entry) (q m n : ℕ) → MarkFits first base es q m n →
    (resumed first base es q m).standing ≡ knowing m (admission (beginning first base) (no_history 0) es).standing
resumed_standing first base es q m n fits =
    let whole = admission (beginning first base) (no_history 0) es in
    let end = fitting_end first base es q m n fits in
    ap (λ (a : Admitted). a.standing) (resumed_alike first base es q m n fits)
    ∙ ap (λ (ts : List OpenTxn). record whole.standing { known = m; active = ts })
    (all_open q whole.standing whole.history end.sound.agrees end.began.active)

pub resumed_active : (first base : ℕ) (es : List Entry) (q m n : ℕ) → MarkFits first base es q m n →
    (resumed first base es q m).history.active ≡ (admission (beginning first base) (no_history 0) es).history.active
resumed_active first base es q m n fits =
    let whole = admission (beginning first base) (no_history 0) es in
    let end = fitting_end first base es q m n fits in
    ap (λ (a : Admitted). a.history.active) (resumed_alike first base es q m n fits) ∙
    none_missing q whole.history.active end.began.active

pub resumed_commits : (first base : ℕ) (es : List Entry) (q m n : ℕ) → MarkFits first base es q m n →
    commits_after (resumed first base es q m).history.commits n ≡
    commits_after (admission (beginning first base) (no_history 0) es).history.commits n
resumed_commits first base es q m n fits =
    let b = commit_count (front first base es q).history.commits in
    let whole = admission (beginning first base) (no_history 0) es in
    let end = fitting_end first base es q m n fits in
    ap (λ (a : Admitted). commits_after a.history.commits n) (resumed_alike first base es q m n fits)
    ∙ commits_seen q b n whole.history end.old end.sound.before end.began

-- ---- the number of commits

count_seen : (q b : ℕ) (h : History) → Old q b h → h.commits.before ≡ 0 →
    commit_count (history_behind q b h).commits ≡ commit_count h.commits
count_seen q b h old before = let few = old.few in omega
    (arith, before, few, length-map (drop b h.commits.made) (seen q), length-drop b h.commits.made)

pub resumed_count : (first base : ℕ) (es : List Entry) (q m n : ℕ) → MarkFits first base es q m n →
    commit_count (resumed first base es q m).history.commits ≡
    commit_count (admission (beginning first base) (no_history 0) es).history.commits
resumed_count first base es q m n fits =
    let b = commit_count (front first base es q).history.commits in
    let whole = admission (beginning first base) (no_history 0) es in
    let end = fitting_end first base es q m n fits in
    ap (λ (a : Admitted). commit_count a.history.commits) (resumed_alike first base es q m n fits) ∙
    count_seen q b whole.history end.old end.sound.before

-- ---- a mark fits on

-- at a greater applied count
pub fits_at_more : (first base : ℕ) (es : List Entry) (q m n k : ℕ) → MarkFits first base es q m n → n ≤ k →
    MarkFits first base es q m k
fits_at_more first base es q m n k fits more =
    let commits = (front first base es m).history.commits in
    let i = n - commits.before in
    let j = k - commits.before in
    let sum : i + (j - i) ≡ j = omega (arith, more) in
    record {
      order = fits.order;
      there = fits.there;
      well = fits.well;
      behind = fits.behind;
      above = subst (λ (cs : List Committed). AllByRecursion (λ (c : Committed). q < c.txn.start.rec) cs)
          (drop-drop (j - i) i commits.made ∙ ap (λ d. drop d commits.made) sum)
          (all_drop (λ (c : Committed). q < c.txn.start.rec) (j - i) (drop i commits.made) fits.above);
    }

-- in a longer redo
pub fits_longer : (first base : ℕ) (es more : List Entry) (q m n : ℕ) → MarkFits first base es q m n →
    MarkFits first base (es ++ more) q m n
fits_longer first base es more q m n fits =
    let there = fits.there in
    let same : take m es ≡ take m (es ++ more) = sym (take-append-le m es more there) in
    record {
      order = fits.order;
      there = omega (arith, there, length-append es more);
      well = subst (λ (xs : List Entry). (admission (beginning first base) (no_history 0) xs).fault ≡ None) same fits.well;
      behind = subst (λ (xs : List Entry). AllByRecursion (λ (t : Txn). q < t.start.rec)
          (admission (beginning first base) (no_history 0) xs).history.active) same fits.behind;
      above = subst (λ (xs : List Entry). AllByRecursion (λ (c : Committed). q < c.txn.start.rec)
          (commits_after (admission (beginning first base) (no_history 0) xs).history.commits n))
          same fits.above;
    }
