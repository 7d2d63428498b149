-- Where a further log is registered, a state still belongs to the archived logs; so does the one that its first log makes.
use Rattle.std.proofs.Common.{◌≡◌, ℕ, ◌+◌, ◌-◌, ◌≤◌, ◌<◌, List, [], ◌∷◌, ◌++◌, take, drop, length, slice_get, Bool, true, false, refl, sym, ap, ◌∙◌, subst, Option, Some, None, Result, Ok, arith}
use Rattle.std.specs.Prelude.{◌==◌, ◌||◌, not, codes, nat_le, nat_lt, if◌then◌else◌, IfSome, IsSome}
use Rattle.std.specs.Option.{option_map_or}
use Rattle.std.specs.Int.{w16, w32}
use Rattle.std.proofs.lemmas.Bool.Decides.{nat_tests}
use Rattle.std.proofs.lemmas.List.{length-append}
use Rattle.rl_value.specs.declared.cause.HeadFault.{HeadFault}
use Rattle.rl_value.specs.declared.cause.HeadFault.TheVariants as heads
use Rattle.rl_value.specs.Order.{same_bytes}
use Rattle.rl_value.specs.Outcome.{first_fault}
use Rattle.redo_vec.specs.Cutting.{number_in}
use Rattle.redo_spec.specs.declared.header.Header.{Header}
use Rattle.redo_spec.specs.LogHeader.{header_in, header_fault}
use Rattle.redo_spec.specs.Dictionary.{Dictionary}
use Rattle.redo_spec.specs.Fold.{live_row_limit, scn_at}
use Rattle.redo_spec.specs.History.{Entry, Committed, Commits, History, commit_count, no_history, history_after}
use Rattle.redo_spec.specs.Law.{record_fault, dictionary_left, admitted_or, admission}
use Rattle.redo_spec.specs.Standing.{Standing, beginning, record_after}
use Rattle.redo_spec.specs.Tables.{row_count, definitions_of, empty_tables}
use Rattle.log_registry.specs.declared.entry.LogEntry.{LogEntry}
use Rattle.log_registry.specs.declared.fault.RegFault.{RegFault}
use Rattle.log_registry.specs.Registered.{of_database, entry_unless_refused, answer_of_inspect, IsToldBy, entry_of, with_log}
use Rattle.log_registry.proofs.ListLaws.{are_with}
use Rattle.standby_spec.specs.declared.mark.Mark.{Mark}
use Rattle.standby_spec.specs.KeptState.{KeptState}
use Rattle.standby_spec.specs.StandbyRedo.{Archived, redo_entries, admitted_redo, commits_of}
use Rattle.standby_spec.specs.Checkpoint.{IsMarkOf}
use Rattle.standby_spec.specs.HasLayout.{HasLayout, LeavesLayout}
use Rattle.standby_spec.specs.Lawful.{beginning_base, Belongs}
use Rattle.standby_spec.specs.Writings.{state_after, AddLog}
use Rattle.standby_spec.proofs.FitsLaws.{own-fits}
use Rattle.standby_spec.proofs.LayoutLaws.{leaves-layout}
use Rattle.standby_spec.proofs.OverLaws.{admitted-before}
use Rattle.run_spec.specs.Created.{tables_if_whole, created_by}
use Rattle.run_spec.proofs.FirstLog.{first-log, told-head}
use Rattle.run_spec.proofs.Prefix.{Grown, grown, grown-none, slice-front}

-- ---- the commits of a longer redo

grown-append : (xs ys : List Entry) (s : Standing) (h : History) →
    Grown (admission s h xs).history.commits.made (admission s h (xs ++ ys)).history.commits.made
grown-append [] ys s h = grown ys s h
grown-append (x ∷ xs) ys s h =
    let s1 = record_after x s in
    let h1 = history_after (s.rec + 1) x h in
    elim (record_fault s x) as (λ o.
    Grown (admitted_or o (dictionary_left s x) s h (admission s1 h1 xs)).history.commits.made
    (admitted_or o (dictionary_left s x) s h (admission s1 h1 (xs ++ ys))).history.commits.made) [
      | Some fault ↦ grown-none h.commits.made
      | None ↦ grown-append xs ys s1 h1
    ]

-- the redo behind a further log is that before it, and then more
abbrev pub GoesOn : Archived → KeptState → LogEntry → Type 0
GoesOn logs s e = redo_entries logs (state_after (AddLog e) s) ≡
    redo_entries logs s ++ drop (length (redo_entries logs s)) (redo_entries logs (state_after (AddLog e) s))

further-commits : (logs : Archived) (s : KeptState) (e : LogEntry) → GoesOn logs s e →
    Grown (commits_of logs s).made (commits_of logs (state_after (AddLog e) s)).made
further-commits logs s e longer =
    let old = redo_entries logs s in
    let new = redo_entries logs (state_after (AddLog e) s) in
    subst (λ (es : List Entry). Grown (commits_of logs s).made
    (admission (beginning s.first s.base) (no_history 0) es).history.commits.made) (sym longer)
    (grown-append old (drop (length old) new) (beginning s.first s.base) (no_history 0))

count-grown : (old new : Commits) (n : ℕ) → old.before ≡ 0 → new.before ≡ 0 → Grown old.made new.made → n ≤ commit_count old →
    n ≤ commit_count new
count-grown old new n none_old none_new g few =
    let long : length new.made ≡ length (old.made ++ g.more) = ap (λ (l : List Committed). length l) g.is in
    let both = length-append old.made g.more in
    omega (arith, none_old, none_new, few, long, both)

scn-grown : (s : KeptState) (old new : Commits) (n : ℕ) → old.before ≡ 0 → new.before ≡ 0 → Grown old.made new.made →
    n ≤ commit_count old → scn_at (beginning_base s) new n ≡ scn_at (beginning_base s) old n
scn-grown s old new n none_old none_new g few =
    elim (n == 0) as (λ t. (n == 0) ≡ t →
    (if t then s.base else option_map_or (λ c. c.scn) (slice_get new.made (n - (new.before + 1))) s.base) ≡
    (if t then s.base else option_map_or (λ c. c.scn) (slice_get old.made (n - (old.before + 1))) s.base)) [
      | true ↦ λ is. refl
      | false ↦ λ is.
          let some : 0 < n = grind (arith, nat_tests, is) in
          let index : n - (new.before + 1) ≡ n - (old.before + 1) = omega (arith, none_old, none_new) in
          let inside : n - (old.before + 1) < length old.made = omega (arith, none_old, some, few) in
          ap (λ k. option_map_or (λ c. c.scn) (slice_get new.made k) s.base) index
          ∙ ap (λ (l : List Committed). option_map_or (λ c. c.scn) (slice_get l (n - (old.before + 1))) s.base) g.is
          ∙ ap (λ o. option_map_or (λ c. c.scn) o s.base) (slice-front old.made g.more (n - (old.before + 1)) inside)
    ] refl

-- ---- its registered logs

entry-with : (seq : ℕ) (e : LogEntry) (es : List LogEntry) → (e.head.seq == seq) ≡ false →
    entry_of seq (with_log e es) ≡ entry_of seq es
entry-with seq e [] apart = ap (λ b. if b then Some e else None) apart
entry-with seq e (x ∷ xs) apart =
    elim (nat_lt e.head.seq x.head.seq) as (λ b.
    entry_of seq (if b then e ∷ x ∷ xs else x ∷ with_log e xs) ≡ entry_of seq (x ∷ xs)) [
      | true ↦ ap (λ b. if b then Some e else entry_of seq (x ∷ xs)) apart
      | false ↦ ap (λ o. if x.head.seq == seq then Some x else o) (entry-with seq e xs apart)
    ]

some-entry : (o : Option LogEntry) → IsSome o → (e : LogEntry) × (o ≡ Some e)
some-entry None is = absurd (cc)
some-entry (Some e) is = (e, refl)

not-first : (seq first : ℕ) (es : List LogEntry) → entry_of seq es ≡ None → IsSome (entry_of first es) → (seq == first) ≡ false
not-first seq first es none some =
    elim (seq == first) as (λ b. (seq == first) ≡ b → b ≡ false) [
      | true ↦ λ is.
          let same : seq ≡ first = grind (arith, nat_tests, is) in
          let there = some-entry (entry_of first es) some in
          let found : entry_of first es ≡ Some there.0 = there.1 in
          let gone : entry_of first es ≡ None = ap (λ (k : ℕ). entry_of k es) (sym same) ∙ none in
          absurd (cc)
      | false ↦ λ is. refl
    ] refl

few-enough : (rows : ℕ) → rows ≤ live_row_limit → nat_lt live_row_limit rows ≡ false
few-enough rows le = grind (arith, nat_tests)

marks-kept : (logs : Archived) (s later : KeptState) (n : ℕ) (o : Option Mark) →
    ((mark : Mark) → IsMarkOf logs s n mark → IsMarkOf logs later n mark) → IfSome o (IsMarkOf logs s n) →
    IfSome o (IsMarkOf logs later n)
marks-kept logs s later n None each is = tt
marks-kept logs s later n (Some mark) each is = each mark is

-- ---- its dictionary

same-dictionary : (logs : Archived) (s : KeptState) (e : LogEntry) → Belongs logs s → IsToldBy logs e →
    HasLayout (state_after (AddLog e) s) →
    (admitted_redo logs (state_after (AddLog e) s)).standing.dictionary ≡ (admitted_redo logs s).standing.dictionary
same-dictionary logs s e b told layout =
    let old = some-entry (entry_of s.first s.logs) b.layout.beginning in
    let new = some-entry (entry_of s.first (with_log e s.logs)) layout.beginning in
    first-log logs s.first s.base (with_log e s.logs) new.0 (are_with logs e s.logs b.registered told) layout.rising new.1
    ∙ sym (first-log logs s.first s.base s.logs old.0 b.registered b.layout.rising old.1)

-- ---- the law

pub further-belongs : (logs : Archived) (s : KeptState) (e : LogEntry) → Belongs logs s → IsToldBy logs e →
    LeavesLayout (AddLog e) s → GoesOn logs s e →
    ((mark : Mark) → IsMarkOf logs s s.n mark → IsMarkOf logs (state_after (AddLog e) s) s.n mark) →
    Belongs logs (state_after (AddLog e) s)
further-belongs logs s e b told may longer marks =
    let later = state_after (AddLog e) s in
    let layout = leaves-layout s (AddLog e) b.layout may in
    let g = further-commits logs s e longer in
    let none_old : (commits_of logs s).before ≡ 0 =
    admitted-before (beginning s.first s.base) (no_history 0) (redo_entries logs s) in
    let none_new : (commits_of logs later).before ≡ 0 =
    admitted-before (beginning s.first s.base) (no_history 0) (redo_entries logs later) in
    let apart = not-first e.head.seq s.first s.logs may.1.0 b.layout.beginning in
    record {
      registered = are_with logs e s.logs b.registered told;
      first = subst (λ o. IfSome o (λ x. s.base + 1 ≡ x.head.first)) (sym (entry-with s.first e s.logs apart)) b.first;
      dictionary = b.dictionary ∙
          sym (ap (λ (d : Dictionary). definitions_of (if d.finished then empty_tables d.tables else []))
          (same-dictionary logs s e b told layout));
      scn = b.scn ∙ sym (scn-grown s (commits_of logs s) (commits_of logs later) s.n none_old none_new g b.fits.shows.made);
      fits = own-fits logs later
          (count-grown (commits_of logs s) (commits_of logs later) s.n none_old none_new g b.fits.shows.made)
          (few-enough (row_count s.tables) layout.few_rows) (marks-kept logs s later s.n s.mark marks b.fits.mark) b.fits.skips
          layout.ids;
      layout = layout;
    }

-- ---- the first log

whole-known : (d : Dictionary) → definitions_of (empty_tables (tables_if_whole d)) ≡
    definitions_of (if d.finished then empty_tables d.tables else [])
whole-known d =
    elim d.finished as (λ b. definitions_of (empty_tables (if b then d.tables else [])) ≡
    definitions_of (if b then empty_tables d.tables else [])) [
      | true ↦ refl
      | false ↦ refl
    ]

sixth : (a b c d e f g i : Bool) (r s t u v w x y : HeadFault) →
    first_fault ((a, r) ∷ (b, s) ∷ (c, t) ∷ (d, u) ∷ (e, v) ∷ (f, w) ∷ (g, x) ∷ (i, y) ∷ []) ≡ None → f ≡ false
sixth true b c d e f g i r s t u v w x y is = absurd (cc)
sixth false true c d e f g i r s t u v w x y is = absurd (cc)
sixth false false true d e f g i r s t u v w x y is = absurd (cc)
sixth false false false true e f g i r s t u v w x y is = absurd (cc)
sixth false false false false true f g i r s t u v w x y is = absurd (cc)
sixth false false false false false true g i r s t u v w x y is = absurd (cc)
sixth false false false false false false g i r s t u v w x y is = refl

not-or : (a b : Bool) → (a || b) ≡ false → a ≡ false
not-or true b is = absurd (cc)
not-or false b is = refl

-- a log that is told begins behind the SCN 0
begins-above : (seq : ℕ) (bytes : List ℕ) → header_fault seq bytes ≡ None → 0 < (header_in bytes).first
begins-above seq bytes good =
    let h = header_in bytes in
    let range = sixth (nat_lt (length bytes) 40) (not (same_bytes (take 4 bytes) (codes "SRL1")))
    (not (number_in w16 4 bytes == 1)) (not (number_in w16 6 bytes == 1)) (not (h.seq == seq))
    (h.first == 0 || nat_le h.next h.first) (h.count == 0) (not (number_in w32 36 bytes == 0))
    heads.Short heads.Magic heads.Version heads.Thread heads.Sequence heads.Range heads.Records heads.Reserved good in
    let some : (h.first == 0) ≡ false = not-or (h.first == 0) (nat_le h.next h.first) range in
    grind (arith, nat_tests, some)

refused-or : (o : Option HeadFault) (found : Result LogEntry RegFault) (e : LogEntry) → entry_unless_refused o found ≡ Ok e →
    o ≡ None
refused-or None found e is = refl
refused-or (Some fault) found e is = absurd (cc)

above-told : (e : LogEntry) (log : Option (List ℕ)) → answer_of_inspect e.head.seq e.head.dbid log ≡ Ok e → 0 < e.head.first
above-told e None is = absurd (cc)
above-told e (Some bytes) is =
    let good = refused-or (header_fault e.head.seq bytes) (of_database e.head.dbid (header_in bytes) (length bytes)) e is in
    let above = begins-above e.head.seq bytes good in
    let same : header_in bytes ≡ e.head = told-head e (Some bytes) is in
    subst (λ (h : Header). 0 < h.first) same above

pub created-belongs : (logs : Archived) (e : LogEntry) → IsToldBy logs e → HasLayout (created_by logs e) →
    Belongs logs (created_by logs e)
created-belongs logs e told layout =
    let s = created_by logs e in
    let same : (e.head.seq == e.head.seq) ≡ true = grind (arith, nat_tests) in
    let above = above-told e (logs e.head.seq) told in
    let follows : e.head.first - 1 + 1 ≡ e.head.first = omega (arith, above) in
    let there = some-entry (entry_of s.first s.logs) layout.beginning in
    record {
      registered = (told, tt);
      first = subst (λ b. IfSome (if b then Some e else None) (λ x. s.base + 1 ≡ x.head.first)) (sym same) follows;
      dictionary = whole-known _ ∙
          sym (ap (λ (d : Dictionary). definitions_of (if d.finished then empty_tables d.tables else []))
          (first-log logs s.first s.base s.logs there.0 (told, tt) layout.rising there.1));
      scn = refl;
      fits = own-fits logs s (omega arith) (few-enough (row_count s.tables) layout.few_rows) tt tt layout.ids;
      layout = layout;
    }
