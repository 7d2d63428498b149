-- Laws of items: what the items of a writing leave of the pairs of a state are the pairs of the state after it.
use Rattle.std.proofs.Common.{◌≡◌, ℕ, zero, suc, ◌+◌, ◌^◌, ◌<◌, ◌≤◌, List, [], ◌∷◌, ◌++◌, map, length, Bool, true, false, cond, not, refl, sym, ap, ◌∙◌, subst, Option, Some, None, is_some, arith, append_assoc}
use Rattle.std.specs.Prelude.{◌==◌, nat_le, nat_lt, if◌then◌else◌, codes}
use Rattle.std.proofs.lemmas.List.{append-nil}
use Rattle.std.specs.List.{flat_map, AllByRecursion, list_all}
use Rattle.std.specs.Option.{option_map_or}
use Rattle.std.specs.declared.cmp.Ordering.{Ordering}
use Rattle.std.specs.declared.cmp.Ordering.TheVariants.{Less, Equal, Greater}
use Rattle.std.specs.Ordering.{eq_by_cmp}
use Rattle.std.specs.FinMap.Entries as entries
use Rattle.std.specs.FinMap.Entries.{by_order}
use Rattle.std.proofs.lemmas.Bool.Decides.{nat_tests}
use Rattle.rl_value.specs.declared.value.Value.{Value}
use Rattle.rl_value.specs.Order.{row_cmp}
use Rattle.rl_ports.specs.declared.batch.Item.{Item}
use Rattle.rl_ports.specs.Store.{same_place, after_batch}
use Rattle.redo_vec.specs.declared.table.TableRow.{TableRow}
use Rattle.redo_vec.specs.Ranges.{IsValue, IsTable}
use Rattle.redo_vec.specs.Spelling.{be32, be64}
use Rattle.redo_spec.specs.Dictionary.{table_of, ids_rise}
use Rattle.redo_spec.specs.Log.{header_bytes}
use Rattle.redo_spec.specs.Skips.{Rule, Skip}
use Rattle.redo_spec.specs.Tables.{Rows, Table, Tables, definitions_of, primary_key, value_in, values_at}
use Rattle.redo_spec.specs.Work.{write_row}
use Rattle.redo_spec.proofs.ListLaws.{all_filter}
use Rattle.skip_guard.specs.declared.guard.Level.{Level}
use Rattle.row_apply.specs.declared.writes.Write.{Write}
use Rattle.row_apply.specs.Overlaid.{table_after, overlaid}
use Rattle.row_apply.specs.Soundness.{AreSound}
use Rattle.row_apply.proofs.Slots.{sorted_write}
use Rattle.row_apply.proofs.Sound.{overlaid-none}
use Rattle.log_registry.specs.declared.entry.LogEntry.{LogEntry}
use Rattle.log_registry.specs.Registered.{RiseFrom, with_log}
use Rattle.standby_spec.specs.declared.mark.Mark.{Mark}
use Rattle.standby_spec.specs.KeptState.{KeptState}
use Rattle.standby_spec.specs.Writable.{row_fits, can_be_written}
use Rattle.standby_spec.specs.Layout.{standby_item, log_item, table_item, skip_item, row_item, applied_item, mark_item, skip_items, row_items, mark_items, items_of, pairs_of}
use Rattle.standby_spec.specs.Writings.{Writing, AddLog, AddSkip, SetLevel, PutRow, Publish, KeepMark, skip_from, row_write, writable, write_item, write_item_of, state_after, items_for}
use Rattle.standby_spec.specs.HasLayout.{AreValues, IsRowOfValues, IsTableOfValues, IsLogOf, IsWriteOfValues, HasLayout, MayBeDone}
use Rattle.standby_spec.proofs.PlaceLaws.{number-same}
use Rattle.standby_spec.proofs.RowLaws.{AreKeysOfValues, IsTableOfKeys, AreTablesOfKeys, write-leaves}
use Rattle.standby_spec.proofs.StoreLaws.{and-left, and-right, to_T, same_nat, place_is, value_after, value_after_all, value-append, batch-append, area_of, StaysIn, StaysOut, in-none, in-more, in-one, in-map, in-flat, out-of, out-append, segment-changed}

-- ---- the items of each area

abbrev pub logs_in : KeptState → List Item
logs_in s = map log_item s.logs

abbrev pub tables_in : KeptState → List Item
tables_in s = map table_item (definitions_of s.tables)

abbrev pub rules_in : KeptState → List Item
rules_in s = skip_items 1 s.skips

abbrev pub rows_in : KeptState → List Item
rows_in s = flat_map row_items s.tables

abbrev pub applied_in : KeptState → List Item
applied_in s = applied_item s.n s.scn ∷ []

pub standby-in : (s : KeptState) → StaysIn 1 (standby_item s ∷ [])
standby-in s = in-one 1 (standby_item s) refl

pub logs-in : (logs : List LogEntry) → StaysIn 2 (map log_item logs)
logs-in logs = in-map 2 log_item (λ e. refl) logs

pub tables-in : (ts : List TableRow) → StaysIn 3 (map table_item ts)
tables-in ts = in-map 3 table_item (λ t. refl) ts

pub rules-in : (number : ℕ) (skips : List Skip) → StaysIn 4 (skip_items number skips)
rules-in number [] = in-none 4
rules-in number (k ∷ ks) = in-more 4 (skip_item number k) (skip_items (number + 1) ks) refl (rules-in (number + 1) ks)

pub rows-in : (ts : Tables) → StaysIn 5 (flat_map row_items ts)
rows-in ts = in-flat 5 row_items (λ t. in-map 5 (row_item t.row.id) (λ r. refl) t.rows) ts

pub applied-in : (n scn : ℕ) → StaysIn 6 (applied_item n scn ∷ [])
applied-in n scn = in-one 6 (applied_item n scn) refl

pub marks-in : (mark : Option Mark) → StaysIn 7 (mark_items mark)
marks-in None = in-none 7
marks-in (Some k) = in-one 7 (mark_item k) refl

-- ---- the items of a state, cut before one area

abbrev pub before-rules : KeptState → List Item
before-rules s = standby_item s ∷ (logs_in s ++ tables_in s)

abbrev pub before-rows : KeptState → List Item
before-rows s = standby_item s ∷ ((logs_in s ++ tables_in s) ++ rules_in s)

abbrev pub before-applied : KeptState → List Item
before-applied s = standby_item s ∷ (((logs_in s ++ tables_in s) ++ rules_in s) ++ rows_in s)

abbrev pub before-marks : KeptState → List Item
before-marks s = standby_item s ∷ ((((logs_in s ++ tables_in s) ++ rules_in s) ++ rows_in s) ++ applied_in s)

pub cut-rules : (s : KeptState) → items_of s ≡ before-rules s ++
    (rules_in s ++ (rows_in s ++ (applied_in s ++ mark_items s.mark)))
cut-rules s = ap (λ is. standby_item s ∷ is)
    (sym (append_assoc (logs_in s) (tables_in s) (rules_in s ++ (rows_in s ++ (applied_in s ++ mark_items s.mark)))))

pub cut-rows : (s : KeptState) → items_of s ≡ before-rows s ++ (rows_in s ++ (applied_in s ++ mark_items s.mark))
cut-rows s = cut-rules s ∙ ap (λ is. standby_item s ∷ is)
    (sym (append_assoc (logs_in s ++ tables_in s) (rules_in s) (rows_in s ++ (applied_in s ++ mark_items s.mark))))

pub cut-applied : (s : KeptState) → items_of s ≡ before-applied s ++ (applied_in s ++ mark_items s.mark)
cut-applied s = cut-rows s ∙ ap (λ is. standby_item s ∷ is)
    (sym (append_assoc ((logs_in s ++ tables_in s) ++ rules_in s) (rows_in s) (applied_in s ++ mark_items s.mark)))

pub cut-marks : (s : KeptState) → items_of s ≡ before-marks s ++ (mark_items s.mark ++ [])
cut-marks s = cut-applied s ∙ ap (λ is. standby_item s ∷ is)
    (sym (append_assoc (((logs_in s ++ tables_in s) ++ rules_in s) ++ rows_in s) (applied_in s) (mark_items s.mark))
    ∙ ap (λ is. ((((logs_in s ++ tables_in s) ++ rules_in s) ++ rows_in s) ++ applied_in s) ++ is)
    (sym (append-nil (mark_items s.mark))))

pub out-standby : (a : ℕ) (s : KeptState) → (a == 1) ≡ false → StaysOut a (standby_item s ∷ [])
out-standby a s is = out-of a 1 (standby_item s ∷ []) (standby-in s) is

pub out-rules : (a : ℕ) (s : KeptState) → (a == 1) ≡ false → (a == 2) ≡ false → (a == 3) ≡ false → StaysOut a (before-rules s)
out-rules a s one two three = out-append a (standby_item s ∷ []) (logs_in s ++ tables_in s) (out-standby a s one)
    (out-append a (logs_in s) (tables_in s) (out-of a 2 (logs_in s) (logs-in s.logs) two)
    (out-of a 3 (tables_in s) (tables-in (definitions_of s.tables)) three))

pub out-rows : (a : ℕ) (s : KeptState) → (a == 1) ≡ false → (a == 2) ≡ false → (a == 3) ≡ false → (a == 4) ≡ false →
    StaysOut a (before-rows s)
out-rows a s one two three four =
    out-append a (before-rules s) (rules_in s) (out-rules a s one two three) (out-of a 4 (rules_in s) (rules-in 1 s.skips) four)

pub out-applied : (a : ℕ) (s : KeptState) → (a == 1) ≡ false → (a == 2) ≡ false → (a == 3) ≡ false → (a == 4) ≡ false →
    (a == 5) ≡ false →
    StaysOut a (before-applied s)
out-applied a s one two three four five =
    out-append a (before-rows s) (rows_in s) (out-rows a s one two three four) (out-of a 5 (rows_in s) (rows-in s.tables) five)

pub out-marks : (s : KeptState) → StaysOut 7 (before-marks s)
out-marks s = out-append 7 (before-applied s) (applied_in s) (out-applied 7 s refl refl refl refl refl)
    (out-of 7 6 (applied_in s) (applied-in s.n s.scn) refl)

-- what stands behind an area
pub behind-applied : (a : ℕ) (s : KeptState) → (a == 6) ≡ false → (a == 7) ≡ false →
    StaysOut a (applied_in s ++ mark_items s.mark)
behind-applied a s six seven = out-append a (applied_in s) (mark_items s.mark)
    (out-of a 6 (applied_in s) (applied-in s.n s.scn) six)
    (out-of a 7 (mark_items s.mark) (marks-in s.mark) seven)

pub behind-rows : (a : ℕ) (s : KeptState) → (a == 5) ≡ false → (a == 6) ≡ false → (a == 7) ≡ false →
    StaysOut a (rows_in s ++ (applied_in s ++ mark_items s.mark))
behind-rows a s five six seven = out-append a (rows_in s) (applied_in s ++ mark_items s.mark)
    (out-of a 5 (rows_in s) (rows-in s.tables) five) (behind-applied a s six seven)

pub behind-rules : (a : ℕ) (s : KeptState) → (a == 4) ≡ false → (a == 5) ≡ false → (a == 6) ≡ false → (a == 7) ≡ false →
    StaysOut a (rules_in s ++ (rows_in s ++ (applied_in s ++ mark_items s.mark)))
behind-rules a s four five six seven = out-append a (rules_in s) (rows_in s ++ (applied_in s ++ mark_items s.mark))
    (out-of a 4 (rules_in s) (rules-in 1 s.skips) four) (behind-rows a s five six seven)

pub behind-tables : (a : ℕ) (s : KeptState) → (a == 3) ≡ false → (a == 4) ≡ false → (a == 5) ≡ false → (a == 6) ≡ false →
    (a == 7) ≡ false →
    StaysOut a (tables_in s ++ (rules_in s ++ (rows_in s ++ (applied_in s ++ mark_items s.mark))))
behind-tables a s three four five six seven = out-append a (tables_in s)
    (rules_in s ++ (rows_in s ++ (applied_in s ++ mark_items s.mark)))
    (out-of a 3 (tables_in s) (tables-in (definitions_of s.tables)) three) (behind-rules a s four five six seven)

-- ---- one item in place of another

replaced : (b : Bool) (x y : List ℕ) (old : Option (List ℕ)) → cond b (Some y) (cond b (Some x) old) ≡ cond b (Some y) old
replaced true x y old = refl
replaced false x y old = refl

level-leads : (s : KeptState) (level : Level) → after_batch (items_for (SetLevel level) s) (pairs_of s) ≡
    pairs_of (state_after (SetLevel level) s)
unfolding pairs_of
level-leads s level =
    let next = state_after (SetLevel level) s in
    segment-changed 1 [] (standby_item s ∷ []) (standby_item next ∷ [])
    (logs_in s ++ (tables_in s ++ (rules_in s ++ (rows_in s ++ (applied_in s ++ mark_items s.mark)))))
    (standby_item next ∷ []) (standby-in s) (standby-in next) (standby-in next) (λ key old. refl)
    (out-append 1 (logs_in s) (tables_in s ++ (rules_in s ++ (rows_in s ++ (applied_in s ++ mark_items s.mark))))
    (out-of 1 2 (logs_in s) (logs-in s.logs) refl) (behind-tables 1 s refl refl refl refl refl))
    (λ key. replaced (same_place (1, key) (1, codes "S")) _ _ None)

applied-leads : (s : KeptState) (n scn : ℕ) →
    after_batch (applied_item n scn ∷ []) (pairs_of s) ≡ pairs_of (record s { n = n; scn = scn })
unfolding pairs_of
applied-leads s n scn =
    let next : KeptState = record s { n = n; scn = scn } in
    ap (λ is. after_batch (applied_item n scn ∷ []) (after_batch is [])) (cut-applied s)
    ∙ segment-changed 6 (before-applied s) (applied_in s) (applied_in next) (mark_items s.mark) (applied_item n scn ∷ [])
    (applied-in s.n s.scn) (applied-in n scn) (applied-in n scn) (out-applied 6 s refl refl refl refl refl)
    (out-of 6 7 (mark_items s.mark) (marks-in s.mark) refl)
    (λ key. replaced (same_place (6, key) (6, codes "A")) _ _ None)
    ∙ sym (ap (λ is. after_batch is []) (cut-applied next))

mark-replaced : (mark : Option Mark) (k : Mark) (key : List ℕ) →
    value_after_all (7, key) (mark_items mark ++ mark_item k ∷ []) None ≡ value_after_all (7, key) (mark_item k ∷ []) None
mark-replaced None k key = refl
mark-replaced (Some j) k key = replaced (same_place (7, key) (7, codes "M")) _ _ None

mark-leads : (s : KeptState) (k : Mark) → after_batch (items_for (KeepMark k) s) (pairs_of s) ≡
    pairs_of (state_after (KeepMark k) s)
unfolding pairs_of
mark-leads s k =
    let next = state_after (KeepMark k) s in
    ap (λ is. after_batch (mark_item k ∷ []) (after_batch is [])) (cut-marks s)
    ∙ segment-changed 7 (before-marks s) (mark_items s.mark) (mark_item k ∷ []) [] (mark_item k ∷ [])
    (marks-in s.mark) (marks-in (Some k)) (marks-in (Some k)) (out-marks s) (λ key old. refl)
    (mark-replaced s.mark k)
    ∙ sym (ap (λ is. after_batch is []) (cut-marks next))

-- ---- a rule more

rules-more : (number : ℕ) (skips : List Skip) (k : Skip) →
    skip_items number skips ++ skip_item (length skips + number) k ∷ [] ≡ skip_items number (skips ++ k ∷ [])
rules-more number [] k = let same : 0 + number ≡ number = omega arith in ap (λ m. skip_item m k ∷ []) same
rules-more number (j ∷ skips) k =
    let same : suc (length skips) + number ≡ length skips + (number + 1) = omega arith in
    ap (λ m. skip_item number j ∷ (skip_items (number + 1) skips ++ skip_item m k ∷ [])) same
    ∙ ap (λ is. skip_item number j ∷ is) (rules-more (number + 1) skips k)

rule-leads : (s : KeptState) (rule : Rule) → after_batch (items_for (AddSkip rule) s) (pairs_of s) ≡
    pairs_of (state_after (AddSkip rule) s)
unfolding pairs_of
rule-leads s rule =
    let next = state_after (AddSkip rule) s in
    let more = skip_item (length s.skips + 1) (skip_from s.n rule) ∷ [] in
    ap (λ is. after_batch more (after_batch is [])) (cut-rules s)
    ∙ segment-changed 4 (before-rules s) (rules_in s) (rules_in next) (rows_in s ++ (applied_in s ++ mark_items s.mark)) more
    (rules-in 1 s.skips) (rules-in 1 next.skips) (in-one 4 (skip_item (length s.skips + 1) (skip_from s.n rule)) refl)
    (out-rules 4 s refl refl refl) (behind-rows 4 s refl refl refl)
    (λ key. ap (λ is. value_after_all (4, key) is None) (rules-more 1 s.skips (skip_from s.n rule)))
    ∙ sym (ap (λ is. after_batch is []) (cut-rules next))

-- ---- a log more

abbrev same_log : List ℕ → ℕ → Bool
same_log key seq = same_place (2, key) (2, be32 seq)

log-apart : (key : List ℕ) (m n : ℕ) → m < 2 ^ 32 → n < 2 ^ 32 → m < n → same_log key m ≡ true → (t : Bool) →
    same_log key n ≡ t → t ≡ false
log-apart key m n f g lt e true is =
    let same : m ≡ n = number-same m n f g (ap (λ (p : ℕ × List ℕ). p.1)
    (sym (place_is (2, key) (2, be32 m) e) ∙ place_is (2, key) (2, be32 n) is)) in
    absurd (omega (arith, same, lt))
log-apart key m n f g lt e false is = refl

abbrev AreSequences : List LogEntry → Type 0
AreSequences logs = AllByRecursion (λ e. e.head.seq < 2 ^ 32) logs

-- under a lesser sequence these logs leave what stands there
logs-left : (key : List ℕ) (m least : ℕ) (logs : List LogEntry) → AreSequences logs → RiseFrom least logs →
    m < least → m < 2 ^ 32 →
    same_log key m ≡ true → (old : Option (List ℕ)) → value_after_all (2, key) (map log_item logs) old ≡ old
logs-left key m least [] f rise lt g e old = refl
logs-left key m least (x ∷ logs) f rise lt g e old =
    let low : least ≤ x.head.seq = rise.0 in
    ap (λ b. value_after_all (2, key) (map log_item logs) (cond b (Some (header_bytes x.head ++ be64 x.length)) old))
    (log-apart key m x.head.seq g f.0 (omega (arith, low, lt)) e (same_log key x.head.seq) refl)
    ∙ logs-left key m (x.head.seq + 1) logs f.1 rise.1 (omega (arith, low, lt)) g e old

swapped : (key : List ℕ) (x : LogEntry) (logs : List LogEntry) (old : Option (List ℕ)) → AreSequences logs →
    RiseFrom (x.head.seq + 1) logs →
    x.head.seq < 2 ^ 32 → (t : Bool) → same_log key x.head.seq ≡ t →
    cond t (Some (header_bytes x.head ++ be64 x.length)) (value_after_all (2, key) (map log_item logs) old)
    ≡ value_after_all (2, key) (map log_item logs) (cond t (Some (header_bytes x.head ++ be64 x.length)) old)
swapped key x logs old f rise g true e =
    sym (logs-left key x.head.seq (x.head.seq + 1) logs f rise (omega arith) g e (Some (header_bytes x.head ++ be64 x.length)))
swapped key x logs old f rise g false e = refl

logs-step : (key : List ℕ) (x y : LogEntry) (least : ℕ) (logs : List LogEntry) → AreSequences (y ∷ logs) →
    RiseFrom least (y ∷ logs) →
    x.head.seq < 2 ^ 32 → (old : Option (List ℕ)) → (value_after (2, key) (log_item x)
    (value_after_all (2, key) (map log_item logs) (value_after (2, key) (log_item y) old))
    ≡ value_after_all (2, key) (map log_item (with_log x logs)) (value_after (2, key) (log_item y) old)) →
    (t : Bool) → nat_lt x.head.seq y.head.seq ≡ t →
    value_after (2, key) (log_item x) (value_after_all (2, key) (map log_item (y ∷ logs)) old)
    ≡ value_after_all (2, key) (map log_item (if t then x ∷ y ∷ logs else y ∷ with_log x logs)) old
logs-step key x y least logs f rise g old h true is =
    let above : x.head.seq < y.head.seq = grind (arith, nat_tests) in
    swapped key x (y ∷ logs) old f (omega (arith, above), rise.1) g (same_log key x.head.seq) refl
logs-step key x y least logs f rise g old h false is = h

logs-more : (key : List ℕ) (x : LogEntry) (least : ℕ) (logs : List LogEntry) → AreSequences logs → RiseFrom least logs →
    x.head.seq < 2 ^ 32 →
    (old : Option (List ℕ)) →
    value_after (2, key) (log_item x) (value_after_all (2, key) (map log_item logs) old) ≡
    value_after_all (2, key) (map log_item (with_log x logs)) old
logs-more key x least [] f rise g old = refl
logs-more key x least (y ∷ logs) f rise g old = logs-step key x y least logs f rise g old
    (logs-more key x (y.head.seq + 1) logs f.1 rise.1 g (value_after (2, key) (log_item y) old))
    (nat_lt x.head.seq y.head.seq) refl

pub sequences : (dbid first : ℕ) (logs : List LogEntry) → AllByRecursion (IsLogOf dbid first) logs → AreSequences logs
sequences dbid first [] all = tt
sequences dbid first (x ∷ logs) all = (all.0.fits.seq, sequences dbid first logs all.1)

log-leads : (s : KeptState) (x : LogEntry) → HasLayout s → x.head.seq < 2 ^ 32 →
    after_batch (items_for (AddLog x) s) (pairs_of s) ≡ pairs_of (state_after (AddLog x) s)
unfolding pairs_of
log-leads s x h g =
    let next = state_after (AddLog x) s in
    segment-changed 2 (standby_item s ∷ []) (logs_in s) (logs_in next)
    (tables_in s ++ (rules_in s ++ (rows_in s ++ (applied_in s ++ mark_items s.mark)))) (log_item x ∷ [])
    (logs-in s.logs) (logs-in next.logs) (in-one 2 (log_item x) refl) (out-standby 2 s refl)
    (behind-tables 2 s refl refl refl refl refl)
    (λ key. value-append (2, key) (logs_in s) (log_item x ∷ []) None
    ∙ logs-more key x 0 s.logs (sequences s.dbid s.first s.logs h.logs) h.rising g None)

-- ---- rows written

keys-put-step : (k v : List Value) (e : List Value × List Value) (rows : Rows) → AreValues k → AreKeysOfValues (e ∷ rows) →
    AreKeysOfValues (entries.put row_cmp k v rows) → (r : Ordering) →
    AreKeysOfValues (by_order r ((k, v) ∷ e ∷ rows) ((e.0, v) ∷ rows) (e ∷ entries.put row_cmp k v rows))
keys-put-step k v e rows f g h Less = (f, g)
keys-put-step k v e rows f g h Equal = (g.0, g.1)
keys-put-step k v e rows f g h Greater = (g.0, h)

keys-put : (k v : List Value) (rows : Rows) → AreValues k → AreKeysOfValues rows → AreKeysOfValues (entries.put row_cmp k v rows)
keys-put k v [] f g = (f, tt)
keys-put k v (e ∷ rows) f g = keys-put-step k v e rows f g (keys-put k v rows f g.1) (row_cmp k e.0)

keys-write : (k : List Value) (v : Option (List Value)) (rows : Rows) → AreValues k → AreKeysOfValues rows →
    AreKeysOfValues (write_row rows k v)
keys-write k None rows f g = all_filter (λ r. AreValues r.0) (λ e. not (eq_by_cmp row_cmp k e.0)) rows g
keys-write k (Some v) rows f g = keys-put k v rows f g

written-table : (w : Write) (t : Table) → IsTableOfKeys t → AreValues w.key → (b : Bool) →
    IsTableOfKeys (record t { rows = if b then write_row t.rows w.key w.row else t.rows })
written-table w t of f true = record {
  id = of.id;
  rising = sorted_write w.key w.row t.rows of.rising;
  keys = keys-write w.key w.row t.rows f of.keys;
}
written-table w t of f false = record { id = of.id; rising = of.rising; keys = of.keys }

pub written-tables : (w : Write) (least : ℕ) (ts : Tables) → AreTablesOfKeys least ts → AreValues w.key →
    AreTablesOfKeys least (overlaid ts (w ∷ []))
written-tables w least [] of f = tt
written-tables w least (t ∷ ts) of f =
    ((of.0.0, written-table w t of.0.1 f (w.table == t.row.id)), written-tables w (t.row.id + 1) ts of.1 f)

overlaid-more : (w : Write) (ws : List Write) (ts : Tables) → overlaid (overlaid ts (w ∷ [])) ws ≡ overlaid ts (w ∷ ws)
overlaid-more w ws [] = refl
overlaid-more w ws (t ∷ ts) = ap (λ us. table_after (w ∷ ws) t ∷ us) (overlaid-more w ws ts)

pub same-definitions : (ws : List Write) (ts : Tables) → definitions_of (overlaid ts ws) ≡ definitions_of ts
same-definitions ws [] = refl
same-definitions ws (t ∷ ts) = ap (λ us. t.row ∷ us) (same-definitions ws ts)

-- a write of a table that is there, whose key has a spelling
record IsWriteOf (ts : List TableRow) (w : Write) : Type 0 where
  there : is_some (table_of ts w.table) ≡ true
  key : AreValues w.key

id-step : (id : ℕ) (t : Table) (ts : Tables) → IsTableOfKeys t →
    (is_some (table_of (definitions_of ts) id) ≡ true → id < 2 ^ 32) →
    (b : Bool) → (t.row.id == id) ≡ b → is_some (cond b (Some t.row) (table_of (definitions_of ts) id)) ≡ true → id < 2 ^ 32
id-step id t ts of h true is there = let fits : t.row.id < 2 ^ 32 =
    of.id in subst (λ n. n < 2 ^ 32) (same_nat t.row.id id is) fits
id-step id t ts of h false is there = h there

id-fits : (id least : ℕ) (ts : Tables) → AreTablesOfKeys least ts → is_some (table_of (definitions_of ts) id) ≡ true → id < 2 ^ 32
id-fits id least [] of there = absurd (cc)
id-fits id least (t ∷ ts) of there =
    id-step id t ts of.0.1 (id-fits id (t.row.id + 1) ts of.1) (t.row.id == id) refl there

write-area : (table : ℕ) (key : List Value) (row : Option (List Value)) → area_of (write_item_of table key row) ≡ 5
write-area table key None = refl
write-area table key (Some row) = refl

rows-written : (pre post : List Item) (ts : Tables) (ws : List Write) → StaysOut 5 pre → StaysOut 5 post → AreTablesOfKeys 0 ts →
    AllByRecursion (IsWriteOf (definitions_of ts)) ws →
    after_batch (map write_item ws) (after_batch (pre ++ (flat_map row_items ts ++ post)) [])
    ≡ after_batch (pre ++ (flat_map row_items (overlaid ts ws) ++ post)) []
rows-written pre post ts [] off behind of all = ap (λ us. after_batch (pre ++ (flat_map row_items us ++ post)) [])
    (sym (overlaid-none ts))
rows-written pre post ts (w ∷ ws) off behind of all =
    let fits : w.table < 2 ^ 32 = id-fits w.table 0 ts of all.0.there in
    ap (after_batch (map write_item ws))
    (segment-changed 5 pre (flat_map row_items ts) (flat_map row_items (overlaid ts (w ∷ []))) post (write_item w ∷ [])
    (rows-in ts) (rows-in (overlaid ts (w ∷ []))) (in-one 5 (write_item w) (write-area w.table w.key w.row)) off behind
    (λ key. write-leaves key w ts of fits all.0.key all.0.there))
    ∙ rows-written pre post (overlaid ts (w ∷ [])) ws off behind (written-tables w 0 ts of all.0.key)
    (subst (λ ds. AllByRecursion (IsWriteOf ds) ws) (sym (same-definitions (w ∷ []) ts)) all.1)
    ∙ ap (λ us. after_batch (pre ++ (flat_map row_items us ++ post)) []) (overlaid-more w ws ts)

rows-lead : (s : KeptState) (ws : List Write) → AreTablesOfKeys 0 s.tables →
    AllByRecursion (IsWriteOf (definitions_of s.tables)) ws →
    after_batch (map write_item ws) (pairs_of s) ≡ pairs_of (record s { tables = overlaid s.tables ws })
unfolding pairs_of
rows-lead s ws of all =
    let next : KeptState = record s { tables = overlaid s.tables ws } in
    ap (λ is. after_batch (map write_item ws) (after_batch is [])) (cut-rows s)
    ∙ rows-written (before-rows s) (applied_in s ++ mark_items s.mark) s.tables ws (out-rows 5 s refl refl refl refl)
    (behind-applied 5 s refl refl)
    of all
    ∙ ap (λ ds. after_batch ((standby_item s ∷ ((logs_in s ++ map table_item ds) ++ rules_in s)) ++
    (rows_in next ++ (applied_in s ++ mark_items s.mark))) [])
    (sym (same-definitions ws s.tables))
    ∙ sym (ap (λ is. after_batch is []) (cut-rows next))

-- ---- tables of a state that has a layout

keys-of : (rows : Rows) → AllByRecursion IsRowOfValues rows → AreKeysOfValues rows
keys-of [] all = tt
keys-of ((k, v) ∷ rows) all = (all.0.0, keys-of rows all.1)

pub tables-of : (least : ℕ) (ts : Tables) → AllByRecursion IsTable (definitions_of ts) →
    ids_rise least (definitions_of ts) ≡ true →
    AllByRecursion IsTableOfValues ts → AreSound ts → AreTablesOfKeys least ts
tables-of least [] are ids values sound = tt
tables-of least (t ∷ ts) are ids values sound =
    let here : nat_le least t.row.id ≡ true = and-left (nat_le least t.row.id)
    (ids_rise (t.row.id + 1) (definitions_of ts)) ids in
    let low : least ≤ t.row.id = grind (arith, nat_tests) in (
      (low, record { id = are.0.id; rising = to_T _ sound.0.rising; keys = keys-of t.rows values.0 }),
      tables-of (t.row.id + 1) ts are.1 (and-right (nat_le least t.row.id) (ids_rise (t.row.id + 1) (definitions_of ts)) ids)
          values.1 sound.1,
    )

pub layout-tables : (s : KeptState) → HasLayout s → AreTablesOfKeys 0 s.tables
layout-tables s h = tables-of 0 s.tables h.tables h.ids h.values h.sound

-- ---- a row put

value-fits : (row : List Value) (c : ℕ) → AreValues row → IsValue (value_in row c)
value-fits [] c f = tt
value-fits (v ∷ row) zero f = f.0
value-fits (v ∷ row) (suc c) f = value-fits row c f.1

values-fit : (row : List Value) (columns : List ℕ) → AreValues row → AreValues (values_at row columns)
values-fit row [] f = tt
values-fit row (c ∷ columns) f = (value-fits row c f, values-fit row columns f)

key-fits : (row : List Value) (t : Option TableRow) → AreValues row → AreValues (option_map_or (λ u. primary_key u row) t [])
key-fits row None f = tt
key-fits row (Some t) f = values-fit row _ f

row-leads : (s : KeptState) (id : ℕ) (row : List Value) → HasLayout s → MayBeDone (PutRow id row) s →
    after_batch (items_for (PutRow id row) s) (pairs_of s) ≡ pairs_of (state_after (PutRow id row) s)
row-leads s id row h may = rows-lead s (row_write s.tables id row ∷ []) (layout-tables s h)
    (record { there = may.0; key = key-fits row (table_of (definitions_of s.tables) id) may.1 }, tt)

-- ---- a commit published

fitting-step : (t : Option TableRow) (key : List Value) (row : Option (List Value)) → row_fits t key row ≡ true → is_some t ≡ true
fitting-step None key row e = absurd (cc)
fitting-step (Some t) key row e = refl

fitting : (ds : List TableRow) (w : Write) → row_fits (table_of ds w.table) w.key w.row ≡ true →
    is_some (table_of ds w.table) ≡ true
fitting ds w e = fitting-step (table_of ds w.table) w.key w.row e

all-fitting : (ds : List TableRow) (ws : List Write) → list_all (λ w. row_fits (table_of ds w.table) w.key w.row) ws ≡ true →
    AllByRecursion IsWriteOfValues ws → AllByRecursion (IsWriteOf ds) ws
all-fitting ds [] e all = tt
all-fitting ds (w ∷ ws) e all =
    let more = list_all (λ v. row_fits (table_of ds v.table) v.key v.row) ws in (
      record { there = fitting ds w (and-left (row_fits (table_of ds w.table) w.key w.row) more e); key = all.0 },
      all-fitting ds ws (and-right (row_fits (table_of ds w.table) w.key w.row) more e) all.1,
    )

writable-fits : (ts : Tables) (ws : List Write) → AllByRecursion IsWriteOfValues ws → (t : Bool) → can_be_written ts ws ≡ t →
    AllByRecursion (IsWriteOf (definitions_of ts)) (if t then ws else [])
writable-fits ts ws all true e = all-fitting (definitions_of ts) ws
    (and-left (list_all (λ w. row_fits (table_of (definitions_of ts) w.table) w.key w.row) ws) _ e) all
writable-fits ts ws all false e = tt

publish-leads : (s : KeptState) (scn : ℕ) (ws : List Write) → HasLayout s → AllByRecursion IsWriteOfValues ws →
    after_batch (items_for (Publish scn ws) s) (pairs_of s) ≡ pairs_of (state_after (Publish scn ws) s)
publish-leads s scn ws h all =
    batch-append (map write_item (writable s.tables ws)) (applied_item (s.n + 1) scn ∷ []) (pairs_of s)
    ∙ ap (after_batch (applied_item (s.n + 1) scn ∷ []))
    (rows-lead s (writable s.tables ws) (layout-tables s h) (writable-fits s.tables ws all (can_be_written s.tables ws) refl))
    ∙ applied-leads (record s { tables = overlaid s.tables (writable s.tables ws) }) (s.n + 1) scn

-- ---- each writing

pub writing-leads : (s : KeptState) (w : Writing) → HasLayout s → MayBeDone w s →
    after_batch (items_for w s) (pairs_of s) ≡ pairs_of (state_after w s)
writing-leads s (AddLog x) h may = log-leads s x h may
writing-leads s (AddSkip rule) h may = rule-leads s rule
writing-leads s (SetLevel level) h may = level-leads s level
writing-leads s (PutRow id row) h may = row-leads s id row h may
writing-leads s (Publish scn ws) h may = publish-leads s scn ws h may
writing-leads s (KeepMark k) h may = mark-leads s k
