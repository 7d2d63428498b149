-- Laws of loading: the pairs of a state that has a layout are loaded as that state, its mark at its count.
use Rattle.std.proofs.Common.{◌≡◌, ℕ, ◌+◌, ◌≤◌, List, [], ◌∷◌, ◌++◌, map, length, true, refl, sym, ap, ◌∙◌, subst, Option, Some, None, Ok, Err, arith}
use Rattle.std.specs.Prelude.{nat_le, if◌then◌else◌}
use Rattle.std.proofs.Math.Dec.{T}
use Rattle.std.proofs.lemmas.Bool.Decides.{nat_tests}
use Rattle.std.specs.Option.{option_map}
use Rattle.std.specs.FinMap.Entries as entries
use Rattle.rl_value.specs.Order.{bytes_cmp}
use Rattle.rl_value.specs.Outcome.{◌>>=◌}
use Rattle.rl_ports.specs.declared.batch.Item.{Item}
use Rattle.rl_ports.specs.Store.{Store}
use Rattle.redo_vec.specs.declared.table.TableRow.{TableRow}
use Rattle.redo_spec.specs.Skips.{Skip, skip_limit}
use Rattle.redo_spec.specs.Tables.{definitions_of}
use Rattle.skip_guard.specs.Rules.{rules_differ, are_skips}
use Rattle.log_registry.specs.declared.entry.LogEntry.{LogEntry}
use Rattle.standby_spec.specs.declared.mark.Mark.{Mark}
use Rattle.standby_spec.specs.KeptState.{KeptState}
use Rattle.standby_spec.specs.Layout.{standby_key, applied_key, standby_item, log_item, table_item, skip_item, skip_items, mark_items, items_of, pairs_of}
use Rattle.standby_spec.specs.Checkpoint.{at_count}
use Rattle.standby_spec.specs.HasLayout.{HasLayout}
use Rattle.standby_spec.specs.Loading.{Image, Bad, kept_pairs, of_area, has_key, read_area, standby_step, log_step, table_step, skip_step, applied_step, mark_step, identity_or, standby_in, logs_in as logs_of_pairs, tables_in as tables_of_pairs, skips_in, rows_in as rows_of_pairs, applied_in as applied_of_pairs, marks_in, state_of, state_in, loaded_of, loaded_pairs, loaded, as_loaded}
use Rattle.standby_spec.proofs.AreaLaws.{put_items, area-of-items, kept-area, found-in-area, sorted-area}
use Rattle.standby_spec.proofs.ItemLaws.{logs_in, tables_in, rules_in, rows_in, applied_in, before-rules, before-rows, before-applied, before-marks, logs-in, marks-in, cut-rules, cut-rows, cut-applied, cut-marks, out-standby, out-rules, out-rows, out-applied, out-marks, behind-applied, behind-rows, behind-rules, behind-tables, sequences, layout-tables}
use Rattle.standby_spec.proofs.ReadLaws.{standby_pairs, identity_of, standby-read, log_pair, logs-read, first-key, logs-rise, table_pair, tables-read, tables-rise, skip_pairs, skips-read, skips-rise, applied_pairs, applied-read, mark_pairs, marks-read}
use Rattle.standby_spec.proofs.ReadRowLaws.{HasRowsOf, rows-read}
use Rattle.standby_spec.proofs.StoreLaws.{and-left, and-right, value_after_all, value-append, found-after-all, sorted-after-all, StaysOut, out-of, out-append}

-- ---- one area of the items of a state

pub only : (a : ℕ) (pre seg post : List Item) → StaysOut a pre → StaysOut a post → (key : List ℕ) →
    value_after_all (a, key) (pre ++ (seg ++ post)) None ≡ value_after_all (a, key) seg None
only a pre seg post off behind key =
    value-append (a, key) pre (seg ++ post) None
    ∙ ap (value_after_all (a, key) (seg ++ post)) (off key None)
    ∙ value-append (a, key) seg post None
    ∙ behind key (value_after_all (a, key) seg None)

pub log-items : (logs : List LogEntry) → map log_item logs ≡ put_items 2 (map log_pair logs)
log-items [] = refl
log-items (e ∷ logs) = ap (λ is. log_item e ∷ is) (log-items logs)

pub table-items : (ts : List TableRow) → map table_item ts ≡ put_items 3 (map table_pair ts)
table-items [] = refl
table-items (t ∷ ts) = ap (λ is. table_item t ∷ is) (table-items ts)

pub rule-items : (number : ℕ) (skips : List Skip) → skip_items number skips ≡ put_items 4 (skip_pairs number skips)
rule-items number [] = refl
rule-items number (k ∷ ks) = ap (λ is. skip_item number k ∷ is) (rule-items (number + 1) ks)

pub mark-items : (mark : Option Mark) → mark_items mark ≡ put_items 7 (mark_pairs mark)
mark-items None = refl
mark-items (Some k) = refl

mark-sorted : (mark : Option Mark) → T (entries.is_sorted bytes_cmp (mark_pairs mark))
mark-sorted None = tt
mark-sorted (Some k) = tt

pub at-standby : (s : KeptState) (key : List ℕ) → value_after_all (1, key) (items_of s) None ≡
    value_after_all (1, key) (standby_item s ∷ []) None
at-standby s = only 1 [] (standby_item s ∷ []) (logs_in s ++
    (tables_in s ++ (rules_in s ++ (rows_in s ++ (applied_in s ++ mark_items s.mark))))) (λ key old. refl)
    (out-append 1 (logs_in s) (tables_in s ++ (rules_in s ++ (rows_in s ++ (applied_in s ++ mark_items s.mark))))
    (out-of 1 2 (logs_in s) (logs-in s.logs) refl) (behind-tables 1 s refl refl refl refl refl))

pub at-logs : (s : KeptState) (key : List ℕ) → value_after_all (2, key) (items_of s) None ≡
    value_after_all (2, key) (logs_in s) None
at-logs s = only 2 (standby_item s ∷ []) (logs_in s) (tables_in s ++
    (rules_in s ++ (rows_in s ++ (applied_in s ++ mark_items s.mark))))
    (out-standby 2 s refl) (behind-tables 2 s refl refl refl refl refl)

-- the tables behind the logs
cut-tables : (s : KeptState) → StaysOut 3 (standby_item s ∷ logs_in s)
cut-tables s = out-append 3 (standby_item s ∷ []) (logs_in s) (out-standby 3 s refl)
    (out-of 3 2 (logs_in s) (logs-in s.logs) refl)

pub at-tables : (s : KeptState) (key : List ℕ) → value_after_all (3, key) (items_of s) None ≡
    value_after_all (3, key) (tables_in s) None
at-tables s = only 3 (standby_item s ∷ logs_in s) (tables_in s) (rules_in s ++ (rows_in s ++ (applied_in s ++ mark_items s.mark)))
    (cut-tables s) (behind-rules 3 s refl refl refl refl)

pub at-rules : (s : KeptState) (key : List ℕ) → value_after_all (4, key) (items_of s) None ≡
    value_after_all (4, key) (rules_in s) None
at-rules s key = ap (λ is. value_after_all (4, key) is None) (cut-rules s)
    ∙ only 4 (before-rules s) (rules_in s) (rows_in s ++ (applied_in s ++ mark_items s.mark)) (out-rules 4 s refl refl refl)
    (behind-rows 4 s refl refl refl) key

pub at-rows : (s : KeptState) (key : List ℕ) → value_after_all (5, key) (items_of s) None ≡
    value_after_all (5, key) (rows_in s) None
at-rows s key = ap (λ is. value_after_all (5, key) is None) (cut-rows s)
    ∙ only 5 (before-rows s) (rows_in s) (applied_in s ++ mark_items s.mark) (out-rows 5 s refl refl refl refl)
    (behind-applied 5 s refl refl) key

pub at-applied : (s : KeptState) (key : List ℕ) → value_after_all (6, key) (items_of s) None ≡
    value_after_all (6, key) (applied_in s) None
at-applied s key = ap (λ is. value_after_all (6, key) is None) (cut-applied s)
    ∙ only 6 (before-applied s) (applied_in s) (mark_items s.mark) (out-applied 6 s refl refl refl refl refl)
    (out-of 6 7 (mark_items s.mark) (marks-in s.mark) refl) key

pub at-marks : (s : KeptState) (key : List ℕ) → value_after_all (7, key) (items_of s) None ≡
    value_after_all (7, key) (mark_items s.mark) None
at-marks s key = ap (λ is. value_after_all (7, key) is None) (cut-marks s) ∙
    only 7 (before-marks s) (mark_items s.mark) [] (out-marks s) (λ k old. refl) key

standby-area : (s : KeptState) → of_area 1 (kept_pairs (pairs_of s)) ≡ standby_pairs s
unfolding pairs_of
standby-area s = kept-area 1 (pairs_of s) refl ∙ area-of-items 1 (items_of s) (standby_pairs s) tt (at-standby s)

logs-area : (s : KeptState) → HasLayout s → of_area 2 (kept_pairs (pairs_of s)) ≡ map log_pair s.logs
unfolding pairs_of
logs-area s h =
    kept-area 2 (pairs_of s) refl
    ∙ area-of-items 2 (items_of s) (map log_pair s.logs) (logs-rise 0 s.logs (sequences s.dbid s.first s.logs h.logs) h.rising)
    (λ key. at-logs s key ∙ ap (λ is. value_after_all (2, key) is None) (log-items s.logs))

tables-area : (s : KeptState) → HasLayout s → of_area 3 (kept_pairs (pairs_of s)) ≡ map table_pair (definitions_of s.tables)
unfolding pairs_of
tables-area s h =
    kept-area 3 (pairs_of s) refl
    ∙ area-of-items 3 (items_of s) (map table_pair (definitions_of s.tables))
    (tables-rise 0 (definitions_of s.tables) h.tables h.ids)
    (λ key. at-tables s key ∙ ap (λ is. value_after_all (3, key) is None) (table-items (definitions_of s.tables)))

few-rules : (skips : List Skip) → are_skips skips ≡ true → length skips ≤ 256
few-rules skips e = let few : nat_le (length skips) skip_limit ≡ true =
    and-left (nat_le (length skips) skip_limit) (rules_differ skips) e in grind (arith, nat_tests)

rules-area : (s : KeptState) → HasLayout s → of_area 4 (kept_pairs (pairs_of s)) ≡ skip_pairs 1 s.skips
unfolding pairs_of
rules-area s h =
    let few = few-rules s.skips h.differ in
    kept-area 4 (pairs_of s) refl
    ∙ area-of-items 4 (items_of s) (skip_pairs 1 s.skips) (skips-rise 1 s.skips (omega (arith, few)))
    (λ key. at-rules s key ∙ ap (λ is. value_after_all (4, key) is None) (rule-items 1 s.skips))

rows-area : (s : KeptState) → HasRowsOf s.tables (of_area 5 (kept_pairs (pairs_of s)))
unfolding pairs_of
rows-area s at =
    ap (entries.find bytes_cmp at) (kept-area 5 (pairs_of s) refl)
    ∙ found-in-area 5 at (pairs_of s)
    ∙ found-after-all (5, at) (items_of s) []
    ∙ at-rows s at

rows-sorted : (s : KeptState) → T (entries.is_sorted bytes_cmp (of_area 5 (kept_pairs (pairs_of s))))
unfolding pairs_of
rows-sorted s = subst (λ ps. T (entries.is_sorted bytes_cmp ps)) (sym (kept-area 5 (pairs_of s) refl))
    (sorted-area 5 (pairs_of s) (sorted-after-all (items_of s) [] tt))

applied-area : (s : KeptState) → of_area 6 (kept_pairs (pairs_of s)) ≡ applied_pairs s.n s.scn
unfolding pairs_of
applied-area s = kept-area 6 (pairs_of s) refl ∙ area-of-items 6 (items_of s) (applied_pairs s.n s.scn) tt (at-applied s)

marks-area : (s : KeptState) → of_area 7 (kept_pairs (pairs_of s)) ≡ mark_pairs s.mark
unfolding pairs_of
marks-area s =
    kept-area 7 (pairs_of s) refl
    ∙ area-of-items 7 (items_of s) (mark_pairs s.mark) (mark-sorted s.mark)
    (λ key. at-marks s key ∙ ap (λ is. value_after_all (7, key) is None) (mark-items s.mark))

-- ---- the whole

standby-is : (s : KeptState) → HasLayout s → standby_in (kept_pairs (pairs_of s)) ≡ Ok (identity_of s)
standby-is s h =
    ap (λ ps. read_area 1 (standby_step ps) None (of_area 1 (kept_pairs (pairs_of s))) >>= identity_or) (logs-area s h)
    ∙ ap (λ ps. read_area 1 (standby_step (map log_pair s.logs)) None ps >>= identity_or) (standby-area s)
    ∙ ap (λ r. r >>= identity_or) (standby-read s (map log_pair s.logs) h.dbid h.first h.base
    (first-key s.first s.logs h.beginning))

logs-are : (s : KeptState) → HasLayout s → logs_of_pairs (identity_of s) (kept_pairs (pairs_of s)) ≡ Ok s.logs
logs-are s h =
    let few = h.few_logs in
    ap (read_area 2 (log_step (identity_of s)) []) (logs-area s h) ∙ logs-read s [] s.logs h.logs (omega (arith, few))

tables-are : (s : KeptState) → HasLayout s → tables_of_pairs (kept_pairs (pairs_of s)) ≡ Ok (definitions_of s.tables)
tables-are s h = ap (read_area 3 table_step []) (tables-area s h) ∙
    tables-read 0 [] (definitions_of s.tables) h.tables h.accepted h.ids tt

skips-are : (s : KeptState) → HasLayout s → skips_in (kept_pairs (pairs_of s)) ≡ Ok s.skips
skips-are s h =
    let few = few-rules s.skips h.differ in
    ap (read_area 4 skip_step []) (rules-area s h)
    ∙ skips-read [] s.skips h.rules (and-right (nat_le (length s.skips) skip_limit) (rules_differ s.skips) h.differ)
    (omega (arith, few))

rows-are : (s : KeptState) → HasLayout s → rows_of_pairs (definitions_of s.tables) (kept_pairs (pairs_of s)) ≡ Ok s.tables
rows-are s h = rows-read s.tables (of_area 5 (kept_pairs (pairs_of s))) (layout-tables s h) h.sound h.values h.few_rows
    (rows-sorted s) (rows-area s)

applied-is : (s : KeptState) → HasLayout s → applied_of_pairs (kept_pairs (pairs_of s)) ≡ Ok (s.n, s.scn)
applied-is s h =
    ap (λ ps. if has_key applied_key ps then read_area 6 applied_step (0, 0) ps else Err (6, [])) (applied-area s)
    ∙ applied-read s.n s.scn h.n h.scn

marks-are : (s : KeptState) → HasLayout s → marks_in s.logs s.n (kept_pairs (pairs_of s)) ≡ Ok (option_map (at_count s.n) s.mark)
marks-are s h = ap (read_area 7 (mark_step s.logs s.n) None) (marks-area s) ∙ marks-read s.logs s.n s.mark h.mark h.placed

state-is : (s : KeptState) → HasLayout s → state_in (kept_pairs (pairs_of s)) ≡ Ok (as_loaded s)
state-is s h =
    let ps = kept_pairs (pairs_of s) in
    ap (λ r. r >>= λ identity. logs_of_pairs identity ps >>= λ logs. tables_of_pairs ps >>= λ rows. skips_in ps >>=
    λ skips. rows_of_pairs rows ps
    >>= λ tables. applied_of_pairs ps >>= λ applied. marks_in logs applied.0 ps >>=
    λ mark. Ok (state_of identity logs skips tables applied mark)) (standby-is s h)
    ∙ ap (λ r. r >>= λ logs. tables_of_pairs ps >>= λ rows. skips_in ps >>= λ skips. rows_of_pairs rows ps
    >>= λ tables. applied_of_pairs ps >>= λ applied. marks_in logs applied.0 ps >>=
    λ mark. Ok (state_of (identity_of s) logs skips tables applied mark)) (logs-are s h)
    ∙ ap (λ r. r >>= λ rows. skips_in ps >>= λ skips. rows_of_pairs rows ps
    >>= λ tables. applied_of_pairs ps >>= λ applied. marks_in s.logs applied.0 ps >>=
    λ mark. Ok (state_of (identity_of s) s.logs skips tables applied mark)) (tables-are s h)
    ∙ ap (λ r. r >>= λ skips. rows_of_pairs (definitions_of s.tables) ps
    >>= λ tables. applied_of_pairs ps >>= λ applied. marks_in s.logs applied.0 ps >>=
    λ mark. Ok (state_of (identity_of s) s.logs skips tables applied mark)) (skips-are s h)
    ∙ ap (λ r. r >>= λ tables. applied_of_pairs ps >>= λ applied. marks_in s.logs applied.0 ps >>=
    λ mark. Ok (state_of (identity_of s) s.logs s.skips tables applied mark)) (rows-are s h)
    ∙ ap (λ r. r >>= λ applied. marks_in s.logs applied.0 ps >>=
    λ mark. Ok (state_of (identity_of s) s.logs s.skips s.tables applied mark)) (applied-is s h)
    ∙ ap (λ r. r >>= λ mark. Ok (state_of (identity_of s) s.logs s.skips s.tables (s.n, s.scn) mark)) (marks-are s h)

-- where S is there the areas are read
born : (ps : Store) → has_key standby_key (of_area 1 ps) ≡ true → loaded_pairs ps ≡ loaded_of (state_in ps)
born [] there = absurd (cc)
born (e ∷ ps) there = ap (λ b. if b then loaded_of (state_in (e ∷ ps)) else Bad e.0.0 e.0.1) there

pub pairs-loaded : (s : KeptState) → HasLayout s → loaded (pairs_of s) ≡ Image (as_loaded s)
unfolding loaded
pairs-loaded s h =
    born (kept_pairs (pairs_of s)) (ap (has_key standby_key) (standby-area s))
    ∙ ap loaded_of (state-is s h)
