-- Laws of layouts: a writing that is not refused leaves a state that has a layout, and the pairs of a state are a lawful store.
use Rattle.std.proofs.Common.{◌≡◌, ℕ, suc, ◌+◌, ◌^◌, ◌<◌, ◌≤◌, List, [], ◌∷◌, ◌++◌, length, Bool, true, false, not, refl, sym, ap, ◌∙◌, subst, Option, Some, None, is_some, arith}
use Rattle.std.specs.Prelude.{◌||◌, ◌==◌, nat_le, nat_lt, if◌then◌else◌, IsTrue, IfSome}
use Rattle.std.proofs.lemmas.Bool.Decides.{nat_tests}
use Rattle.std.proofs.lemmas.List.{length-append}
use Rattle.std.specs.List.{list_any, AllByRecursion}
use Rattle.std.specs.declared.cmp.Ordering.TheVariants.{Less, Equal, Greater}
use Rattle.std.specs.Ordering.{eq_by_cmp}
use Rattle.std.specs.FinMap.Entries as entries
use Rattle.std.specs.FinMap.Entries.{by_order}
use Rattle.rl_value.specs.declared.value.Value.{Value}
use Rattle.rl_value.specs.Order.{row_cmp}
use Rattle.rl_value.specs.Outcome.{first_fault}
use Rattle.rl_ports.specs.Store.{after_batch}
use Rattle.redo_vec.specs.Ranges.{IsTable}
use Rattle.redo_spec.specs.Dictionary.{ids_rise}
use Rattle.redo_spec.specs.Fold.{live_row_limit}
use Rattle.redo_spec.specs.Skips.{Rule, Skip, same_rule, has_rule, skip_limit}
use Rattle.redo_spec.specs.Tables.{Rows, Tables, row_count, definitions_of}
use Rattle.redo_spec.specs.Work.{write_row}
use Rattle.redo_spec.proofs.ListLaws.{all_append, all_filter}
use Rattle.skip_guard.specs.Rules.{rules_differ, are_skips}
use Rattle.row_apply.specs.declared.writes.Write.{Write}
use Rattle.row_apply.specs.Overlaid.{rows_after, overlaid}
use Rattle.row_apply.specs.Soundness.{AreSound}
use Rattle.row_apply.proofs.Sound.{overlaid-none}
use Rattle.log_registry.specs.declared.entry.LogEntry.{LogEntry}
use Rattle.log_registry.specs.Registered.{RiseFrom, entry_of, with_log}
use Rattle.standby_spec.specs.declared.mark.Mark.{Mark}
use Rattle.standby_spec.specs.KeptState.{KeptState}
use Rattle.standby_spec.specs.Layout.{pairs_of}
use Rattle.standby_spec.specs.Writable.{can_be_written}
use Rattle.standby_spec.specs.Writings.{Writing, AddLog, AddSkip, SetLevel, PutRow, Publish, KeepMark, skip_from, row_write, writable, items_for, items_for_all, state_after, state_after_all}
use Rattle.standby_spec.specs.Refusals.{Twice, Limit, passes_limit, front_of}
use Rattle.standby_spec.specs.HasLayout.{IsLogOf, AreAcceptedBehind, IsSkip, AreValues, IsRowOfValues, IsTableOfValues, HasLayout, IsWriteOfValues, IsWholeWrite, LeavesLayout, MayAllBeDone, AreWhole}
use Rattle.standby_spec.specs.Loading.{lies_in, is_mark_in}
use Rattle.standby_spec.proofs.ItemLaws.{same-definitions, writing-leads}
use Rattle.standby_spec.proofs.StoreLaws.{and-left, and-right, both-true, same_nat, batch-append}
use Rattle.standby_spec.proofs.WrittenLaws.{written-sound}

or-first : (a b : Bool) → (a || b) ≡ false → a ≡ false
or-first false b e = refl
or-first true b e = e

or-second : (a b : Bool) → (a || b) ≡ false → b ≡ false
or-second false b e = e
or-second true b e = absurd (cc)

not-true : (b : Bool) → not b ≡ true → b ≡ false
not-true false e = refl
not-true true e = absurd (cc)

-- ---- logs

log-rises : (least : ℕ) (e : LogEntry) (logs : List LogEntry) → RiseFrom least logs → least ≤ e.head.seq →
    entry_of e.head.seq logs ≡ None → RiseFrom least (with_log e logs)
log-rises least e [] rise low new = (low, tt)
log-rises least e (x ∷ logs) rise low new =
    elim (nat_lt e.head.seq x.head.seq) as (λ b. nat_lt e.head.seq x.head.seq ≡ b →
    RiseFrom least (if b then e ∷ x ∷ logs else x ∷ with_log e logs)) [
      | true ↦ λ is. let above : e.head.seq < x.head.seq = grind (arith, nat_tests) in (low, (omega (arith, above), rise.1))
      | false ↦ λ is. elim (x.head.seq == e.head.seq) as (λ b. (x.head.seq == e.head.seq) ≡ b →
          (if b then Some x else entry_of e.head.seq logs) ≡ None →
          RiseFrom least (x ∷ with_log e logs)) [
            | true ↦ λ same there. absurd (cc)
            | false ↦ λ other none.
                let above : x.head.seq + 1 ≤ e.head.seq = grind (arith, nat_tests) in
                (rise.0, log-rises (x.head.seq + 1) e logs rise.1 above none)
          ] refl new
    ] refl

all-logs : (P : LogEntry → Type 0) (e : LogEntry) (logs : List LogEntry) → P e → AllByRecursion P logs →
    AllByRecursion P (with_log e logs)
all-logs P e [] p all = (p, tt)
all-logs P e (x ∷ logs) p all = elim (nat_lt e.head.seq x.head.seq)
    as (λ b. AllByRecursion P (if b then e ∷ x ∷ logs else x ∷ with_log e logs)) [
      | true ↦ (p, all)
      | false ↦ (all.0, all-logs P e logs p all.1)
    ]

more-logs : (e : LogEntry) (logs : List LogEntry) → length (with_log e logs) ≡ length logs + 1
more-logs e [] = refl
more-logs e (x ∷ logs) = elim (nat_lt e.head.seq x.head.seq)
    as (λ b. length (if b then e ∷ x ∷ logs else x ∷ with_log e logs) ≡ suc (length logs) + 1) [
      | true ↦ omega arith
      | false ↦ omega (arith, more-logs e logs)
    ]

-- an entry of another sequence is found as before
found-still : (e : LogEntry) (seq : ℕ) (logs : List LogEntry) → (e.head.seq == seq) ≡ false →
    entry_of seq (with_log e logs) ≡ entry_of seq logs
found-still e seq [] other = ap (λ b. if b then Some e else None) other
found-still e seq (x ∷ logs) other = elim (nat_lt e.head.seq x.head.seq)
    as (λ b. entry_of seq (if b then e ∷ x ∷ logs else x ∷ with_log e logs) ≡ entry_of seq (x ∷ logs)) [
      | true ↦ ap (λ b. if b then Some e else entry_of seq (x ∷ logs)) other
      | false ↦ ap (λ o. if x.head.seq == seq then Some x else o) (found-still e seq logs other)
    ]

-- an entry that is there is another one than a new one
there-other : (e : LogEntry) (seq : ℕ) (logs : List LogEntry) → entry_of e.head.seq logs ≡ None →
    is_some (entry_of seq logs) ≡ true → (b : Bool) → (e.head.seq == seq) ≡ b → b ≡ false
there-other e seq logs new there true is =
    let none : entry_of seq logs ≡ None = ap (λ n. entry_of n logs) (sym (same_nat e.head.seq seq is)) ∙ new in
    absurd (cc)
there-other e seq logs new there false is = refl

lies-there : (k : Mark) (o : Option LogEntry) → lies_in k o ≡ true → is_some o ≡ true
lies-there k None e = absurd (cc)
lies-there k (Some x) e = refl

placed-still : (e : LogEntry) (logs : List LogEntry) (n : ℕ) (mark : Option Mark) → entry_of e.head.seq logs ≡ None →
    IfSome mark (λ k. IsTrue (is_mark_in logs n k)) →
    IfSome mark (λ k. IsTrue (is_mark_in (with_log e logs) n k))
placed-still e logs n None new placed = tt
placed-still e logs n (Some k) new placed =
    let lies : lies_in k (entry_of k.place.seq logs) ≡ true = and-right _ _ placed in
    let other = there-other e k.place.seq logs new (lies-there k (entry_of k.place.seq logs) lies)
    (e.head.seq == k.place.seq) refl in
    both-true _ _ (and-left _ _ placed) (ap (lies_in k) (found-still e k.place.seq logs other) ∙ lies)

log-layout : (s : KeptState) (e : LogEntry) → HasLayout s → LeavesLayout (AddLog e) s → HasLayout (state_after (AddLog e) s)
log-layout s e h may = record {
  dbid = h.dbid;
  first = h.first;
  base = h.base;
  logs = all-logs (IsLogOf s.dbid s.first) e s.logs may.0 h.logs;
  rising = log-rises 0 e s.logs h.rising (omega arith) may.1.0;
  beginning = ap is_some (found-still e s.first s.logs (there-other e s.first s.logs may.1.0 h.beginning (e.head.seq == s.first)
      refl)) ∙ h.beginning;
  few_logs = let few = may.1.1 in omega (arith, few, more-logs e s.logs);
  tables = h.tables;
  accepted = h.accepted;
  ids = h.ids;
  rules = h.rules;
  differ = h.differ;
  values = h.values;
  sound = h.sound;
  few_rows = h.few_rows;
  n = h.n;
  scn = h.scn;
  mark = h.mark;
  placed = placed-still e s.logs s.n s.mark may.1.0 h.placed;
}

-- ---- rules

none-more : (j : Skip) (skips : List Skip) (k : Skip) → list_any (λ t. same_rule j.rule t.rule) skips ≡ false →
    same_rule j.rule k.rule ≡ false →
    list_any (λ t. same_rule j.rule t.rule) (skips ++ k ∷ []) ≡ false
none-more j [] k none apart = ap (λ b. b || false) apart
none-more j (t ∷ skips) k none apart =
    let here = or-first (same_rule j.rule t.rule) (list_any (λ u. same_rule j.rule u.rule) skips) none in
    let rest = or-second (same_rule j.rule t.rule) (list_any (λ u. same_rule j.rule u.rule) skips) none in
    ap (λ b. b || list_any (λ u. same_rule j.rule u.rule) (skips ++ k ∷ [])) here ∙ none-more j skips k rest apart

differ-more : (skips : List Skip) (k : Skip) → rules_differ skips ≡ true → has_rule skips k.rule ≡ false →
    rules_differ (skips ++ k ∷ []) ≡ true
differ-more [] k e new = refl
differ-more (j ∷ skips) k e new =
    let here = and-left (not (list_any (λ t. same_rule j.rule t.rule) skips)) (rules_differ skips) e in
    let apart = none-more j skips k (not-true (list_any (λ t. same_rule j.rule t.rule) skips) here)
    (or-first (same_rule j.rule k.rule) (has_rule skips k.rule) new) in
    both-true _ _ (ap not apart)
    (differ-more skips k (and-right (not (list_any (λ t. same_rule j.rule t.rule) skips)) (rules_differ skips) e)
    (or-second (same_rule j.rule k.rule) (has_rule skips k.rule) new))

-- a rule that is not refused is new, and there is room for it
unrefused : (twice many : Bool) → first_fault ((twice, Twice) ∷ (many, Limit) ∷ []) ≡ None → (twice ≡ false) × (many ≡ false)
unrefused false false e = (refl, refl)
unrefused false true e = absurd (cc)
unrefused true many e = absurd (cc)

room : (skips : List Skip) (k : Skip) → nat_le skip_limit (length skips) ≡ false →
    nat_le (length (skips ++ k ∷ [])) skip_limit ≡ true
room skips k e =
    let more : length (skips ++ k ∷ []) ≡ length skips + 1 = length-append skips (k ∷ []) in
    let few : length skips + 1 ≤ 256 = grind (arith, nat_tests) in
    grind (arith, nat_tests, more, few)

rules-stay : (skips : List Skip) (k : Skip) → are_skips skips ≡ true →
    first_fault ((has_rule skips k.rule, Twice) ∷ (nat_le skip_limit (length skips), Limit) ∷ []) ≡ None →
    are_skips (skips ++ k ∷ []) ≡ true
rules-stay skips k e none =
    let free = unrefused (has_rule skips k.rule) (nat_le skip_limit (length skips)) none in
    both-true _ _ (room skips k free.1) (differ-more skips k
    (and-right (nat_le (length skips) skip_limit) (rules_differ skips) e) free.0)

rule-layout : (s : KeptState) (rule : Rule) → HasLayout s → LeavesLayout (AddSkip rule) s →
    HasLayout (state_after (AddSkip rule) s)
rule-layout s rule h may = record {
  dbid = h.dbid;
  first = h.first;
  base = h.base;
  logs = h.logs;
  rising = h.rising;
  beginning = h.beginning;
  few_logs = h.few_logs;
  tables = h.tables;
  accepted = h.accepted;
  ids = h.ids;
  rules = all_append IsSkip s.skips (skip_from s.n rule ∷ []) h.rules (record { rule = may.0; from = h.n }, tt);
  differ = rules-stay s.skips (skip_from s.n rule) h.differ may.1;
  values = h.values;
  sound = h.sound;
  few_rows = h.few_rows;
  n = h.n;
  scn = h.scn;
  mark = h.mark;
  placed = h.placed;
}

-- ---- rows

rows-put : (k v : List Value) (rows : Rows) → AreValues k → AreValues v → AllByRecursion IsRowOfValues rows →
    AllByRecursion IsRowOfValues (entries.put row_cmp k v rows)
rows-put k v [] f g all = ((f, g), tt)
rows-put k v (e ∷ rows) f g all = elim (row_cmp k e.0) as (λ r. AllByRecursion IsRowOfValues
    (by_order r ((k, v) ∷ e ∷ rows) ((e.0, v) ∷ rows) (e ∷ entries.put row_cmp k v rows))) [
      | Less ↦ ((f, g), all)
      | Equal ↦ ((all.0.0, g), all.1)
      | Greater ↦ (all.0, rows-put k v rows f g all.1)
    ]

row-by : (k : List Value) (v : Option (List Value)) (rows : Rows) → AreValues k → IfSome v AreValues →
    AllByRecursion IsRowOfValues rows →
    AllByRecursion IsRowOfValues (write_row rows k v)
row-by k None rows f g all = all_filter IsRowOfValues (λ e. not (eq_by_cmp row_cmp k e.0)) rows all
row-by k (Some v) rows f g all = rows-put k v rows f g all

rows-written : (w : Write) (rows : Rows) → IsWholeWrite w → AllByRecursion IsRowOfValues rows →
    AllByRecursion IsRowOfValues (write_row rows w.key w.row)
rows-written w rows is all = row-by w.key w.row rows is.key is.row all

values-after : (id : ℕ) (ws : List Write) (rows : Rows) → AllByRecursion IsWholeWrite ws → AllByRecursion IsRowOfValues rows →
    AllByRecursion IsRowOfValues (rows_after id ws rows)
values-after id [] rows all f = f
values-after id (w ∷ ws) rows all f = values-after id ws (if w.table == id then write_row rows w.key w.row else rows) all.1
    (elim (w.table == id) as (λ b. AllByRecursion IsRowOfValues (if b then write_row rows w.key w.row else rows)) [
      | true ↦
          rows-written w rows all.0 f
      | false ↦ f
    ])

values-overlaid : (ws : List Write) (ts : Tables) → AllByRecursion IsWholeWrite ws → AllByRecursion IsTableOfValues ts →
    AllByRecursion IsTableOfValues (overlaid ts ws)
values-overlaid ws [] all f = tt
values-overlaid ws (t ∷ ts) all f = (values-after t.row.id ws t.rows all f.0, values-overlaid ws ts all f.1)

few : (rows : ℕ) → nat_lt live_row_limit rows ≡ false → rows ≤ live_row_limit
few rows e = grind (arith, nat_tests)

later-count : (n m before : ℕ) → n ≤ m → nat_le before n ≡ true → nat_le before m ≡ true
later-count n m before le e = grind (arith, nat_tests, le)

placed-later : (logs : List LogEntry) (n m : ℕ) (mark : Option Mark) → n ≤ m → IfSome mark (λ k. IsTrue (is_mark_in logs n k)) →
    IfSome mark (λ k. IsTrue (is_mark_in logs m k))
placed-later logs n m None le placed = tt
placed-later logs n m (Some k) le placed =
    let lies = and-right _ _ placed in
    let others = and-left _ _ placed in
    both-true _ _ (both-true _ _ (and-left _ _ others) (later-count n m k.before le (and-right _ _ others))) lies

-- a state with these writes in place, at a count and an SCN
rows-layout : (s : KeptState) (ws : List Write) (n scn : ℕ) → HasLayout s → AllByRecursion IsWholeWrite ws →
    AreSound (overlaid s.tables ws) → passes_limit s.tables ws ≡ false →
    n < 2 ^ 62 → scn < 2 ^ 64 → s.n ≤ n → HasLayout (record s { tables = overlaid s.tables ws; n = n; scn = scn })
rows-layout s ws n scn h all sound limit f g le =
    let same = sym (same-definitions ws s.tables) in
    record {
      dbid = h.dbid;
      first = h.first;
      base = h.base;
      logs = h.logs;
      rising = h.rising;
      beginning = h.beginning;
      few_logs = h.few_logs;
      tables = subst (λ ds. AllByRecursion IsTable ds) same h.tables;
      accepted = subst (λ ds. AreAcceptedBehind [] ds) same h.accepted;
      ids = subst (λ ds. ids_rise 0 ds ≡ true) same h.ids;
      rules = h.rules;
      differ = h.differ;
      values = values-overlaid ws s.tables all h.values;
      sound = sound;
      few_rows = few (row_count (overlaid s.tables ws)) limit;
      n = f;
      scn = g;
      mark = h.mark;
      placed = placed-later s.logs s.n n s.mark le h.placed;
    }

writable-sound : (ts : Tables) (ws : List Write) → ids_rise 0 (definitions_of ts) ≡ true → AreSound ts → (b : Bool) →
    can_be_written ts ws ≡ b →
    AreSound (overlaid ts (if b then ws else []))
writable-sound ts ws rise sound true e = written-sound ts ws rise sound e
writable-sound ts ws rise sound false e = subst AreSound (sym (overlaid-none ts)) sound

writable-whole : (ts : Tables) (ws : List Write) → AllByRecursion IsWholeWrite ws → (b : Bool) →
    AllByRecursion IsWholeWrite (if b then ws else [])
writable-whole ts ws all true = all
writable-whole ts ws all false = tt

-- ---- each writing

pub leaves-layout : (s : KeptState) (w : Writing) → HasLayout s → LeavesLayout w s → HasLayout (state_after w s)
leaves-layout s (AddLog e) h may = log-layout s e h may
leaves-layout s (AddSkip rule) h may = rule-layout s rule h may
leaves-layout s (SetLevel level) h may = record {
  dbid = h.dbid;
  first = h.first;
  base = h.base;
  logs = h.logs;
  rising = h.rising;
  beginning = h.beginning;
  few_logs = h.few_logs;
  tables = h.tables;
  accepted = h.accepted;
  ids = h.ids;
  rules = h.rules;
  differ = h.differ;
  values = h.values;
  sound = h.sound;
  few_rows = h.few_rows;
  n = h.n;
  scn = h.scn;
  mark = h.mark;
  placed = h.placed;
}
leaves-layout s (PutRow id row) h may =
    let ws = row_write s.tables id row ∷ [] in
    rows-layout s ws s.n s.scn h (may.0, tt) (written-sound s.tables ws h.ids h.sound may.1.0) may.1.1 h.n h.scn (omega arith)
leaves-layout s (Publish scn ws) h may =
    rows-layout s (writable s.tables ws) (s.n + 1) scn h (writable-whole s.tables ws may.0 (can_be_written s.tables ws))
    (writable-sound s.tables ws h.ids h.sound (can_be_written s.tables ws) refl) may.1.0 may.1.1.0 may.1.1.1 (omega arith)
leaves-layout s (KeepMark k) h may = record {
  dbid = h.dbid;
  first = h.first;
  base = h.base;
  logs = h.logs;
  rising = h.rising;
  beginning = h.beginning;
  few_logs = h.few_logs;
  tables = h.tables;
  accepted = h.accepted;
  ids = h.ids;
  rules = h.rules;
  differ = h.differ;
  values = h.values;
  sound = h.sound;
  few_rows = h.few_rows;
  n = h.n;
  scn = h.scn;
  mark = may.0;
  placed = may.1;
}

-- ---- several at once

pub writings-lead : (s : KeptState) (ws : List Writing) → HasLayout s → MayAllBeDone ws s →
    after_batch (items_for_all ws s) (pairs_of s) ≡ pairs_of (state_after_all ws s)
writings-lead s [] h may = refl
writings-lead s (w ∷ ws) h may =
    batch-append (items_for w s) (items_for_all ws (state_after w s)) (pairs_of s)
    ∙ ap (after_batch (items_for_all ws (state_after w s))) (writing-leads s w h may.0.0)
    ∙ writings-lead (state_after w s) ws (leaves-layout s w h may.0.1) may.1

pub writings-layout : (s : KeptState) (ws : List Writing) → HasLayout s → MayAllBeDone ws s → HasLayout (state_after_all ws s)
writings-layout s [] h may = h
writings-layout s (w ∷ ws) h may = writings-layout (state_after w s) ws (leaves-layout s w h may.0.1) may.1

whole-keys : (ws : List Write) → AllByRecursion IsWholeWrite ws → AllByRecursion IsWriteOfValues ws
whole-keys [] all = tt
whole-keys (w ∷ ws) all = (all.0.key, whole-keys ws all.1)

-- the front of a group of whole writes may be done
pub front-may : (s : KeptState) (commits : List (ℕ × List Write)) → AreWhole commits s → s.n + length commits < 2 ^ 62 →
    MayAllBeDone (front_of s commits) s
front-may s [] whole few = tt
front-may s ((at_scn, ws) ∷ more) whole few =
    let later = state_after (Publish at_scn ws) s in
    let first : s.n + 1 < 2 ^ 62 = omega (arith, few) in
    let others : (s.n + 1) + length more < 2 ^ 62 = omega (arith, few) in
    elim (passes_limit s.tables (writable s.tables ws)) as (λ x. passes_limit s.tables (writable s.tables ws) ≡ x →
    MayAllBeDone (if x then [] else Publish at_scn ws ∷ front_of later more) s) [
      | true ↦ λ over. tt
      | false ↦ λ under. (
        (whole-keys ws whole.0.0, (whole.0.0, (under, (first, whole.0.1.1)))),
        front-may later more whole.1 others,
      )
    ] refl
