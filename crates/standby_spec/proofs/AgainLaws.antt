-- Laws of loading back: a store from which a state is loaded has the pairs of that state, and no others in the areas of the
-- layout.
use Rattle.std.proofs.Common.{◌≡◌, ℕ, ◌+◌, ◌≤◌, List, [], ◌∷◌, ◌++◌, map, Bool, true, false, cond, refl, sym, ap, ◌∙◌, subst, Option, Some, None, Ok, Err, Result, arith}
use Rattle.std.specs.Prelude.{◌&&◌, ◌==◌, nat_le, if◌then◌else◌}
use Rattle.std.proofs.Math.Dec.{T}
use Rattle.std.proofs.lemmas.Bool.Decides.{nat_tests}
use Rattle.std.specs.List.{list_all}
use Rattle.std.specs.FinMap.Entries as entries
use Rattle.rl_value.specs.Order.{bytes_cmp}
use Rattle.rl_value.specs.Outcome.{◌>>=◌}
use Rattle.rl_ports.specs.declared.batch.Item.{Item}
use Rattle.rl_ports.specs.Store.{Store, place_cmp, is_key, is_store}
use Rattle.redo_vec.specs.declared.table.TableRow.{TableRow}
use Rattle.redo_vec.specs.Ranges.{AreBytes}
use Rattle.redo_spec.specs.Skips.{Skip}
use Rattle.redo_spec.specs.Tables.{Tables, empty_tables, definitions_of}
use Rattle.redo_spec.proofs.ListLaws.{all_filter}
use Rattle.log_registry.specs.declared.entry.LogEntry.{LogEntry}
use Rattle.standby_spec.specs.declared.mark.Mark.{Mark}
use Rattle.standby_spec.specs.KeptState.{KeptState}
use Rattle.standby_spec.specs.Layout.{standby_key, applied_key, standby_item, table_item, mark_items, items_of, pairs_of}
use Rattle.standby_spec.specs.HasLayout.{IsStoreOfBytes}
use Rattle.standby_spec.specs.StandbyRedo.{Archived}
use Rattle.standby_spec.specs.Lawful.{Belongs, IsLawful, Holds}
use Rattle.standby_spec.specs.Loading.{StorePlace, KeyValue, Identity, Applied, Image, Bad, last_area, kept_pairs, of_area, has_key, read_area, standby_step, row_step, applied_step, identity_or, standby_in, logs_in as logs_of_pairs, tables_in as tables_of_pairs, skips_in, rows_in as rows_of_pairs, applied_in as applied_of_pairs, marks_in, state_of, state_in, loaded_of, loaded_pairs, loaded}
use Rattle.standby_spec.proofs.AreaLaws.{put_items, put-found, or-none, found-in-area, sorted-area}
use Rattle.standby_spec.proofs.ItemLaws.{logs_in, tables_in, rules_in, rows_in, applied_in, logs-in, tables-in, rules-in, rows-in, applied-in, marks-in, out-standby}
use Rattle.standby_spec.proofs.LoadLaws.{log-items, table-items, rule-items, mark-items, at-standby, at-logs, at-tables, at-rules, at-rows, at-applied, at-marks, pairs-loaded}
use Rattle.standby_spec.proofs.ReadLaws.{log_pair, table_pair, skip_pairs, applied_pairs, mark_pairs}
use Rattle.standby_spec.proofs.SpellLaws.{ArePairsOfBytes, area-bytes, identity_pairs, identity-pairs, log-pairs, table-pairs, read-ids, rule-pairs, applied-one, mark-one, ok-same}
use Rattle.standby_spec.proofs.SpellRowLaws.{rows-spelled, rows-definitions, empty-definitions, empty-keys, empty-left}
use Rattle.standby_spec.proofs.RowLaws.{AreTablesOfKeys}
use Rattle.standby_spec.proofs.StoreLaws.{and-left, and-right, to_T, same_nat, tied, value_after_all, found-after-all, sorted-after-all, same_store, StaysOut, out-of, out-append}

-- ---- what was read

bound : {A B : Type 0} (r : Result A StorePlace) (f : A → Result B StorePlace) (y : B) → (r >>= f) ≡ Ok y → (x : A) ×
    ((r ≡ Ok x) × (f x ≡ Ok y))
bound (Ok x) f y e = (x, (refl, e))
bound (Err place) f y e = absurd (cc)

identity-given : (o : Option Identity) (i : Identity) → identity_or o ≡ Ok i → o ≡ Some i
identity-given None i e = absurd (cc)
identity-given (Some j) i e = ap (λ x. Some x) (ok-same j i e)

image-given : (r : Result KeptState StorePlace) (s : KeptState) → loaded_of r ≡ Image s → r ≡ Ok s
image-given (Ok t) s e = let same : t ≡ s = cc in ap (λ x. Ok x) same
image-given (Err place) s e = absurd (cc)

state-given : (ps : Store) (s : KeptState) → loaded_pairs ps ≡ Image s → state_in ps ≡ Ok s
state-given [] s e = absurd (cc)
state-given (p ∷ ps) s e =
    elim (has_key standby_key (of_area 1 (p ∷ ps))) as (λ b. (if b then loaded_of (state_in (p ∷ ps)) else Bad p.0.0 p.0.1) ≡
    Image s → state_in (p ∷ ps) ≡ Ok s) [
      | true ↦ λ given. image-given (state_in (p ∷ ps)) s given
      | false ↦ λ given. absurd (cc)
    ] e

-- the parts of a state as they were read
record IsRead (ps : Store) (s : KeptState) : Type 0 where
  identity : Identity
  logs : List LogEntry
  rows : List TableRow
  skips : List Skip
  tables : Tables
  applied : Applied
  mark : Option Mark
  standby : read_area 1 (standby_step (of_area 2 ps)) None (of_area 1 ps) ≡ Ok (Some identity)
  logs_read : logs_of_pairs identity ps ≡ Ok logs
  rows_read : tables_of_pairs ps ≡ Ok rows
  skips_read : skips_in ps ≡ Ok skips
  tables_read : rows_of_pairs rows ps ≡ Ok tables
  applied_read : applied_of_pairs ps ≡ Ok applied
  mark_read : marks_in logs applied.0 ps ≡ Ok mark
  whole : state_of identity logs skips tables applied mark ≡ s

read-given : (ps : Store) (s : KeptState) → state_in ps ≡ Ok s → IsRead ps s
read-given ps s e =
    let a = bound (standby_in ps) _ s e in
    let b = bound (logs_of_pairs a.0 ps) _ s a.1.1 in
    let c = bound (tables_of_pairs ps) _ s b.1.1 in
    let d = bound (skips_in ps) _ s c.1.1 in
    let f = bound (rows_of_pairs c.0 ps) _ s d.1.1 in
    let g = bound (applied_of_pairs ps) _ s f.1.1 in
    let h = bound (marks_in b.0 g.0.0 ps) _ s g.1.1 in
    let i = bound (read_area 1 (standby_step (of_area 2 ps)) None (of_area 1 ps)) identity_or a.0 a.1.0 in
    record {
      identity = a.0;
      logs = b.0;
      rows = c.0;
      skips = d.0;
      tables = f.0;
      applied = g.0;
      mark = h.0;
      standby = i.1.0 ∙ ap (λ x. Ok x) (identity-given i.0 a.0 i.1.1);
      logs_read = b.1.0;
      rows_read = c.1.0;
      skips_read = d.1.0;
      tables_read = f.1.0;
      applied_read = g.1.0;
      mark_read = h.1.0;
      whole = ok-same _ s h.1.1;
    }

applied-given : (ps : List KeyValue) (x : Applied) → (if has_key applied_key ps then read_area 6 applied_step (0, 0) ps else Err
    (6, [])) ≡ Ok x →
    (has_key applied_key ps ≡ true) × (read_area 6 applied_step (0, 0) ps ≡ Ok x)
applied-given ps x e =
    elim (has_key applied_key ps) as (λ b. (if b then read_area 6 applied_step (0, 0) ps else Err (6, [])) ≡ Ok x → (b ≡ true) ×
    (read_area 6 applied_step (0, 0) ps ≡ Ok x)) [
      | true ↦ λ given. (refl, given)
      | false ↦ λ given. absurd (cc)
    ] e

-- ---- under each place

abbrev AreSame : ℕ → KeptState → Store → Type 0
AreSame a s ps = (key : List ℕ) → entries.find place_cmp (a, key) (pairs_of s) ≡ entries.find place_cmp (a, key) ps

-- an area whose pairs are those of the items of the state
area-same : (a : ℕ) (s : KeptState) (ps : Store) (seg : List Item) (found : List KeyValue) → T (entries.is_sorted place_cmp ps) →
    ((key : List ℕ) → value_after_all (a, key) (items_of s) None ≡ value_after_all (a, key) seg None) → seg ≡ put_items a found →
    of_area a ps ≡ found → AreSame a s ps
unfolding pairs_of
area-same a s ps seg found h at items is key =
    found-after-all (a, key) (items_of s) []
    ∙ at key
    ∙ ap (λ x. value_after_all (a, key) x None) items
    ∙ put-found a key found None (subst (λ x. T (entries.is_sorted bytes_cmp x)) is (sorted-area a ps h))
    ∙ or-none (entries.find bytes_cmp key found)
    ∙ sym (ap (entries.find bytes_cmp key) is)
    ∙ found-in-area a key ps

rows-same : (s : KeptState) (ps : Store) (rows : List TableRow) → T (entries.is_sorted place_cmp ps) →
    ArePairsOfBytes (of_area 5 ps) → AreTablesOfKeys 0 (empty_tables rows) →
    read_area 5 row_step (empty_tables rows) (of_area 5 ps) ≡ Ok s.tables → AreSame 5 s ps
unfolding pairs_of
rows-same s ps rows h f of e key =
    found-after-all (5, key) (items_of s) []
    ∙ at-rows s key
    ∙ rows-spelled (empty_tables rows) (of_area 5 ps) s.tables f of e key
    ∙ ap (value_after_all (5, key) (put_items 5 (of_area 5 ps))) (empty-left key rows None)
    ∙ put-found 5 key (of_area 5 ps) None (sorted-area 5 ps h)
    ∙ or-none (entries.find bytes_cmp key (of_area 5 ps))
    ∙ found-in-area 5 key ps

-- another area has nothing
apart-more : (a i : ℕ) → (a == i) ≡ false → i ≤ a → i + 1 ≤ a
apart-more a i e le = grind (arith, nat_tests)

no-area : (a : ℕ) → (a == 1) ≡ false → (a == 2) ≡ false → (a == 3) ≡ false → (a == 4) ≡ false → (a == 5) ≡ false →
    (a == 6) ≡ false → (a == 7) ≡ false →
    (b : Bool) → (nat_le 1 a && nat_le a last_area) ≡ b → b ≡ false
no-area a one two three four five six seven true is =
    let from : nat_le 1 a ≡ true = and-left (nat_le 1 a) (nat_le a last_area) is in
    let to : nat_le a 7 ≡ true = and-right (nat_le 1 a) (nat_le a last_area) is in
    let low : 1 ≤ a = grind (arith, nat_tests) in
    let high : a ≤ 7 = grind (arith, nat_tests) in
    let past : 7 + 1 ≤ a = apart-more a 7 seven (apart-more a 6 six
    (apart-more a 5 five (apart-more a 4 four (apart-more a 3 three
    (apart-more a 2 two (apart-more a 1 one low)))))) in
    absurd (omega (arith, high, past))
no-area a one two three four five six seven false is = refl

all-out : (a : ℕ) (s : KeptState) → (a == 1) ≡ false → (a == 2) ≡ false → (a == 3) ≡ false → (a == 4) ≡ false →
    (a == 5) ≡ false → (a == 6) ≡ false → (a == 7) ≡ false → StaysOut a (items_of s)
all-out a s one two three four five six seven =
    out-append a (standby_item s ∷ []) (logs_in s ++ (tables_in s ++
    (rules_in s ++ (rows_in s ++ (applied_in s ++ mark_items s.mark))))) (out-standby a s one)
    (out-append a (logs_in s) (tables_in s ++ (rules_in s ++ (rows_in s ++ (applied_in s ++ mark_items s.mark))))
    (out-of a 2 (logs_in s) (logs-in s.logs) two)
    (out-append a (tables_in s) (rules_in s ++ (rows_in s ++ (applied_in s ++ mark_items s.mark)))
    (out-of a 3 (tables_in s) (tables-in (definitions_of s.tables)) three)
    (out-append a (rules_in s) (rows_in s ++ (applied_in s ++ mark_items s.mark))
    (out-of a 4 (rules_in s) (rules-in 1 s.skips) four)
    (out-append a (rows_in s) (applied_in s ++ mark_items s.mark) (out-of a 5 (rows_in s) (rows-in s.tables) five)
    (out-append a (applied_in s) (mark_items s.mark) (out-of a 6 (applied_in s) (applied-in s.n s.scn) six)
    (out-of a 7 (mark_items s.mark) (marks-in s.mark) seven))))))

apart-area : (a i : ℕ) → (nat_le 1 i && nat_le i last_area) ≡ true → (nat_le 1 a && nat_le a last_area) ≡ false → (b : Bool) →
    (a == i) ≡ b → b ≡ false
apart-area a i fits out true is =
    let same : (nat_le 1 a && nat_le a last_area) ≡ true = ap (λ x. nat_le 1 x && nat_le x last_area) (same_nat a i is) ∙ fits in
    absurd (cc)
apart-area a i fits out false is = refl

other-same : (a : ℕ) (s : KeptState) (store : Store) → (a == 1) ≡ false → (a == 2) ≡ false → (a == 3) ≡ false → (a == 4) ≡ false →
    (a == 5) ≡ false → (a == 6) ≡ false → (a == 7) ≡ false →
    AreSame a s (kept_pairs store)
unfolding pairs_of
other-same a s store one two three four five six seven key =
    found-after-all (a, key) (items_of s) []
    ∙ all-out a s one two three four five six seven key None
    ∙ sym (ap (λ b. cond b (entries.find place_cmp (a, key) store) None)
    (no-area a one two three four five six seven (nat_le 1 a && nat_le a last_area) refl))
    ∙ sym (entries.find-where_key place_cmp (λ p. nat_le 1 p.0 && nat_le p.0 last_area) (a, key)
    (λ x e. ap (λ (p : ℕ × List ℕ). nat_le 1 p.0 && nat_le p.0 last_area) (sym (tied (a, key) x e))) store)

at-area : (P : ℕ → Type 0) (a i : ℕ) → P i → ((a == i) ≡ false → P a) → P a
at-area P a i here there = elim (a == i) as (λ b. (a == i) ≡ b → P a) [
  | true ↦ λ is. subst P (sym (same_nat a i is)) here
  | false ↦ λ other. there other
] refl

-- ---- the whole

pub pairs-again : (store : Store) (s : KeptState) → is_store store ≡ true → IsStoreOfBytes store → loaded store ≡ Image s →
    pairs_of s ≡ kept_pairs store
unfolding pairs_of loaded
pairs-again store s whole bytes e =
    let ps = kept_pairs store in
    let sorted : T (entries.is_sorted place_cmp store) =
    to_T _ (and-left (entries.is_sorted place_cmp store) (list_all (λ p. is_key p.0.1) store) whole) in
    let h : T (entries.is_sorted place_cmp ps) = entries.is_sorted-where_key place_cmp (λ p. nat_le 1 p.0 && nat_le p.0 last_area)
    store sorted in
    let f : IsStoreOfBytes ps = all_filter (λ (p : (ℕ × List ℕ) × List ℕ). AreBytes p.0.1 × AreBytes p.1)
    (λ p. nat_le 1 p.0.0 && nat_le p.0.0 last_area) store bytes in
    let r = read-given ps s (state-given ps s e) in
    let parts = state_of r.identity r.logs r.skips r.tables r.applied r.mark in
    let one = identity-pairs (of_area 2 ps) (of_area 1 ps) r.identity (area-bytes 1 ps f) (sorted-area 1 ps h) r.standby in
    let two = log-pairs r.identity (of_area 2 ps) r.logs (area-bytes 2 ps f) r.logs_read in
    let three = table-pairs (of_area 3 ps) r.rows (area-bytes 3 ps f) (sorted-area 3 ps h) r.rows_read in
    let four = rule-pairs (of_area 4 ps) r.skips (area-bytes 4 ps f) r.skips_read in
    let keys : AreTablesOfKeys 0 (empty_tables r.rows) =
    empty-keys r.rows (read-ids [] (of_area 3 ps) r.rows (area-bytes 3 ps f) r.rows_read tt)
    (subst (λ x. T (entries.is_sorted bytes_cmp x)) three (sorted-area 3 ps h)) in
    let definitions : definitions_of r.tables ≡ r.rows =
    rows-definitions (empty_tables r.rows) (of_area 5 ps) r.tables (area-bytes 5 ps f) keys r.tables_read ∙
    empty-definitions r.rows in
    let taken = applied-given (of_area 6 ps) r.applied r.applied_read in
    let six = applied-one (of_area 6 ps) r.applied (area-bytes 6 ps f) (sorted-area 6 ps h) taken.0 taken.1 in
    let seven = mark-one r.logs r.applied.0 (of_area 7 ps) r.mark (area-bytes 7 ps f) (sorted-area 7 ps h) r.mark_read in
    let same : (a : ℕ) → AreSame a parts ps = λ a.
    at-area (λ x. AreSame x parts ps) a 1 (area-same 1 parts ps (standby_item parts ∷ []) (identity_pairs r.identity) h
    (at-standby parts) refl one) (λ e1.
    at-area (λ x. AreSame x parts ps) a 2 (area-same 2 parts ps (logs_in parts) (map log_pair r.logs) h (at-logs parts)
    (log-items r.logs) two) (λ e2.
    at-area (λ x. AreSame x parts ps) a 3 (area-same 3 parts ps (tables_in parts) (map table_pair r.rows) h (at-tables parts)
    (ap (map table_item) definitions ∙ table-items r.rows) three) (λ e3.
    at-area (λ x. AreSame x parts ps) a 4 (area-same 4 parts ps (rules_in parts) (skip_pairs 1 r.skips) h (at-rules parts)
    (rule-items 1 r.skips) four) (λ e4.
    at-area (λ x. AreSame x parts ps) a 5 (rows-same parts ps r.rows h (area-bytes 5 ps f) keys r.tables_read) (λ e5.
    at-area (λ x. AreSame x parts ps) a 6 (area-same 6 parts ps (applied_in parts) (applied_pairs r.applied.0 r.applied.1) h
    (at-applied parts) refl six) (λ e6.
    at-area (λ x. AreSame x parts ps) a 7 (area-same 7 parts ps (mark_items r.mark) (mark_pairs r.mark) h (at-marks parts)
    (mark-items r.mark) seven) (λ e7.
    other-same a parts store e1 e2 e3 e4 e5 e6 e7))))))) in
    subst (λ t. pairs_of t ≡ ps) r.whole
    (same_store (pairs_of parts) ps (sorted-after-all (items_of parts) [] tt) h (λ q. same q.0 q.1))

-- the pairs of a state are all in the areas of the layout
own-step : (a : ℕ) (s : KeptState) (key : List ℕ) (b : Bool) → (nat_le 1 a && nat_le a last_area) ≡ b →
    cond b (entries.find place_cmp (a, key) (pairs_of s)) None ≡ entries.find place_cmp (a, key) (pairs_of s)
unfolding pairs_of
own-step a s key true is = refl
own-step a s key false is =
    let outside = λ (i : ℕ) (in_layout : (nat_le 1 i && nat_le i last_area) ≡ true). apart-area a i in_layout is (a == i) refl in
    sym (found-after-all (a, key) (items_of s) []
    ∙ all-out a s (outside 1 refl) (outside 2 refl) (outside 3 refl) (outside 4 refl) (outside 5 refl) (outside 6 refl)
    (outside 7 refl) key None)

pub kept-own : (s : KeptState) → kept_pairs (pairs_of s) ≡ pairs_of s
unfolding pairs_of
kept-own s =
    let sorted = sorted-after-all (items_of s) [] tt in
    same_store (kept_pairs (pairs_of s)) (pairs_of s)
    (entries.is_sorted-where_key place_cmp (λ p. nat_le 1 p.0 && nat_le p.0 last_area) (pairs_of s) sorted) sorted
    (λ q. entries.find-where_key place_cmp (λ p. nat_le 1 p.0 && nat_le p.0 last_area) q
    (λ x e. ap (λ (p : ℕ × List ℕ). nat_le 1 p.0 && nat_le p.0 last_area) (sym (tied q x e))) (pairs_of s)
    ∙ own-step q.0 s q.1 (nat_le 1 q.0 && nat_le q.0 last_area) refl)

pub belonging-lawful : (logs : Archived) (s : KeptState) → Belongs logs s → IsLawful logs (pairs_of s)
belonging-lawful logs s is = Holds s is (pairs-loaded s is.layout) (kept-own s)
