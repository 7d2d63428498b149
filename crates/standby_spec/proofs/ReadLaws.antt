-- Laws of reading: what the pairs of each part of a state give is that part, area by area. Rows stand in ReadRowLaws.
use Rattle.std.proofs.Common.{◌≡◌, ℕ, ◌+◌, ◌^◌, ◌<◌, ◌≤◌, List, [], ◌∷◌, ◌++◌, map, length, drop, Bool, true, false, not, refl, sym, ap, ◌∙◌, Option, Some, None, Ok, arith, append_assoc}
use Rattle.std.specs.Prelude.{◌&&◌, ◌||◌, ◌==◌, nat_le, nat_lt, if◌then◌else◌, IsTrue, IsSome, IfSome}
use Rattle.std.proofs.Math.Dec.{T}
use Rattle.std.proofs.lemmas.List.{append-nil, length-append}
use Rattle.std.proofs.lemmas.Nat.{from_be_bytes-to_be_bytes_4, from_be_bytes-to_be_bytes_8}
use Rattle.std.proofs.lemmas.Bool.Decides.{nat_tests}
use Rattle.std.specs.Int.{w32, w64}
use Rattle.std.specs.List.{list_any, AllByRecursion}
use Rattle.std.specs.Option.{option_map, option_and_then}
use Rattle.std.specs.Ordering.{is_lt}
use Rattle.std.specs.FinMap.Entries as entries
use Rattle.rl_value.specs.Order.{bytes_cmp, same_bytes}
use Rattle.rl_value.specs.Outcome.{◌>>=◌, or_err}
use Rattle.redo_vec.specs.declared.table.TableRow.{TableRow}
use Rattle.redo_vec.specs.Cutting.{number_in}
use Rattle.redo_vec.specs.Ranges.{IsTable}
use Rattle.redo_vec.specs.Reading.{table_at}
use Rattle.redo_vec.specs.Spelling as spelling
use Rattle.redo_vec.specs.Spelling.{be32, be64}
use Rattle.redo_vec.proofs.ChangeLaws.{xid_whole}
use Rattle.redo_vec.proofs.TableLaws.{table_whole}
use Rattle.redo_spec.specs.Dictionary.{table_fault, with_table, ids_rise}
use Rattle.redo_spec.specs.Log.{header_bytes, IsHeader}
use Rattle.redo_spec.specs.LogHeader.{header_in, header_fault}
use Rattle.redo_spec.specs.Skips.{Rule, Tables as OfTables, Transaction, Skip, has_rule, same_rule, skip_limit}
use Rattle.skip_guard.specs.Rules.{rules_differ}
use Rattle.skip_guard.specs.declared.guard.Level.{Level}
use Rattle.skip_guard.specs.declared.guard.Level.TheVariants.{All, Standby}
use Rattle.log_registry.specs.declared.entry.LogEntry.{LogEntry}
use Rattle.log_registry.specs.Registered.{RiseFrom, entry_of}
use Rattle.standby_spec.specs.declared.mark.Mark.{Mark}
use Rattle.standby_spec.specs.KeptState.{KeptState}
use Rattle.standby_spec.specs.Layout.{level_byte, standby_key, applied_key, mark_key, rule_bytes}
use Rattle.standby_spec.specs.Writings.{log_limit}
use Rattle.standby_spec.specs.Checkpoint.{at_count}
use Rattle.standby_spec.specs.HasLayout.{IsLogOf, AreAcceptedBehind, IsRule, IsSkip, IsMark}
use Rattle.standby_spec.specs.Loading.{KeyValue, has_key, read_area, when_true, read_whole, byte_in, Identity, level_of, identity_in, with_first_log, standby_step, no_fault, is_log_of, log_step, tables_with, table_step, rule_in, with_rule, skip_step, applied_step, mark_in, is_mark_in, mark_step}
use Rattle.standby_spec.proofs.AreaLaws.{number-rises}
use Rattle.standby_spec.proofs.StoreLaws.{and-left, and-right, both-true, to_T, from_T, same_nat}

itself : (xs : List ℕ) → same_bytes xs xs ≡ true
itself [] = refl
itself (x ∷ xs) = let here : (x == x) ≡ true = grind (arith, nat_tests) in both-true (x == x) (same_bytes xs xs) here (itself xs)

test-passed : {A : Type 0} (b : Bool) (x : A) → b ≡ true → when_true b x ≡ Some x
test-passed b x e = ap (λ t. when_true t x) e

or-right : (a b : Bool) → b ≡ true → (a || b) ≡ true
or-right true b e = refl
or-right false b e = e

both-false : (a b : Bool) → a ≡ false → b ≡ false → (a || b) ≡ false
both-false true b e f = e
both-false false b e f = f

not-true : (b : Bool) → not b ≡ true → b ≡ false
not-true false e = refl
not-true true e = absurd (cc)

or-first : (a b : Bool) → (a || b) ≡ false → a ≡ false
or-first false b e = refl
or-first true b e = e

or-second : (a b : Bool) → (a || b) ≡ false → b ≡ false
or-second false b e = e
or-second true b e = absurd (cc)

-- a test that none passes
among : (f : Skip → Bool) (before : List Skip) (k : Skip) (ks : List Skip) → list_any f (before ++ k ∷ ks) ≡ false → f k ≡ false
among f [] k ks e = or-first (f k) (list_any f ks) e
among f (j ∷ before) k ks e = among f before k ks (or-second (f j) (list_any f (before ++ k ∷ ks)) e)

-- ---- area 1

abbrev pub standby_value : KeptState → List ℕ
standby_value s = be32 s.dbid ++ be32 s.first ++ be64 s.base ++ level_byte s.level ∷ []

abbrev pub standby_pairs : KeptState → List KeyValue
standby_pairs s = (standby_key, standby_value s) ∷ []

abbrev pub identity_of : KeptState → Identity
identity_of s = record { dbid = s.dbid; first = s.first; base = s.base; level = s.level }

level-read : (level : Level) → level_of (level_byte level) ≡ Some level
level-read All = refl
level-read Standby = refl

identity-read : (s : KeptState) → s.dbid < 2 ^ 32 → s.first < 2 ^ 32 → s.base < 2 ^ 64 →
    identity_in (standby_value s) s.level ≡ identity_of s
identity-read s f g h =
    let dbid = from_be_bytes-to_be_bytes_4 s.dbid f in
    let first = from_be_bytes-to_be_bytes_4 s.first g in
    let base = from_be_bytes-to_be_bytes_8 s.base h in
    λ i. record { dbid = dbid i; first = first i; base = base i; level = s.level }

pub standby-read : (s : KeptState) (logs : List KeyValue) → s.dbid < 2 ^ 32 → s.first < 2 ^ 32 → s.base < 2 ^ 64 →
    has_key (be32 s.first) logs ≡ true → read_area 1 (standby_step logs) None (standby_pairs s) ≡ Ok (Some (identity_of s))
standby-read s logs f g h there =
    ap (λ o. or_err (option_map Some (option_and_then (λ level. with_first_log logs (identity_in (standby_value s) level)) o))
    (1, standby_key)
    >>= λ next. Ok next) (level-read s.level)
    ∙ ap (λ x. or_err (option_map Some (with_first_log logs x)) (1, standby_key) >>= λ next. Ok next) (identity-read s f g h)
    ∙ ap (λ x. or_err (option_map Some x) (1, standby_key) >>= λ next. Ok next)
    (test-passed (has_key (be32 s.first) logs) (identity_of s) there)

-- ---- area 2

abbrev pub log_pair : LogEntry → KeyValue
log_pair e = (be32 e.head.seq, header_bytes e.head ++ be64 e.length)

header-read : (e : LogEntry) → IsHeader e.head → header_in (header_bytes e.head ++ be64 e.length) ≡ e.head
header-read e ok =
    let h = e.head in
    let dbid = from_be_bytes-to_be_bytes_4 h.dbid ok.dbid in
    let seq = from_be_bytes-to_be_bytes_4 h.seq ok.seq in
    let first = from_be_bytes-to_be_bytes_8 h.first ok.first in
    let next = from_be_bytes-to_be_bytes_8 h.next ok.next in
    let count = from_be_bytes-to_be_bytes_4 h.count ok.count in
    λ k. record { seq = seq k; dbid = dbid k; first = first k; next = next k; count = count k }

entry-read : (e : LogEntry) → IsHeader e.head → e.length < 2 ^ 64 →
    record {
      head = header_in (header_bytes e.head ++ be64 e.length);
      length = number_in w64 40 (header_bytes e.head ++ be64 e.length);
    } ≡ e
entry-read e ok room =
    let head = header-read e ok in
    let size = from_be_bytes-to_be_bytes_8 e.length room in
    λ k. record { head = head k; length = size k }

log-passes : (s : KeptState) (e : LogEntry) → IsLogOf s.dbid s.first e →
    is_log_of (identity_of s) (be32 e.head.seq) (header_bytes e.head ++ be64 e.length) ≡ true
log-passes s e of =
    let value = header_bytes e.head ++ be64 e.length in
    let same = of.same in
    let behind = of.behind in
    let least = of.least in
    let seq : number_in w32 0 (be32 e.head.seq) ≡ e.head.seq = from_be_bytes-to_be_bytes_4 e.head.seq of.fits.seq in
    let good : no_fault (header_fault e.head.seq value) ≡ true = ap no_fault of.good in
    let first : nat_le s.first e.head.seq ≡ true = grind (arith, nat_tests, behind) in
    let database : (e.head.dbid == s.dbid) ≡ true = grind (arith, nat_tests, same) in
    let room : nat_le 40 e.length ≡ true = grind (arith, nat_tests, least) in
    ap (λ n. no_fault (header_fault n value) && nat_le s.first n && ((header_in value).dbid == s.dbid) &&
    nat_le 40 (number_in w64 40 value)) seq
    ∙ ap (λ h. no_fault (header_fault e.head.seq value) && nat_le s.first e.head.seq && (h.dbid == s.dbid) &&
    nat_le 40 (number_in w64 40 value))
    (header-read e of.fits)
    ∙ ap (λ n. no_fault (header_fault e.head.seq value) && nat_le s.first e.head.seq && (e.head.dbid == s.dbid) && nat_le 40 n)
    (from_be_bytes-to_be_bytes_8 e.length of.room)
    ∙ both-true _ _ (both-true _ _ (both-true _ _ good first) database) room

log-taken : (s : KeptState) (before : List LogEntry) (e : LogEntry) → IsLogOf s.dbid s.first e → length before < log_limit →
    log_step (identity_of s) before (log_pair e) ≡ Some (before ++ e ∷ [])
log-taken s before e of few =
    let room : nat_lt (length before) log_limit ≡ true = grind (arith, nat_tests, few) in
    test-passed _ _ (both-true _ _ (log-passes s e of) room)
    ∙ ap (λ x. Some (before ++ x ∷ [])) (entry-read e of.fits of.room)

pub logs-read : (s : KeptState) (before logs : List LogEntry) → AllByRecursion (IsLogOf s.dbid s.first) logs →
    length before + length logs ≤ log_limit → read_area 2 (log_step (identity_of s)) before (map log_pair logs) ≡
    Ok (before ++ logs)
logs-read s before [] all few = ap (λ x. Ok x) (sym (append-nil before))
logs-read s before (e ∷ logs) all few =
    let more : length (before ++ e ∷ []) ≡ length before + 1 = length-append before (e ∷ []) in
    ap (λ o. or_err o (2, be32 e.head.seq) >>= λ next. read_area 2 (log_step (identity_of s)) next (map log_pair logs))
    (log-taken s before e all.0 (omega (arith, few)))
    ∙ logs-read s (before ++ e ∷ []) logs all.1 (omega (arith, more, few))
    ∙ ap (λ x. Ok x) (append_assoc before (e ∷ []) logs)

first-key-step : (seq : ℕ) (e : LogEntry) (logs : List LogEntry) (t : Bool) → (e.head.seq == seq) ≡ t →
    IsSome (if t then Some e else entry_of seq logs) → (IsSome (entry_of seq logs) →
    has_key (be32 seq) (map log_pair logs) ≡ true) →
    has_key (be32 seq) (map log_pair (e ∷ logs)) ≡ true
first-key-step seq e logs true is there rest =
    let same : e.head.seq ≡ seq = same_nat e.head.seq seq is in
    ap (λ b. b || has_key (be32 seq) (map log_pair logs)) (ap (λ n. same_bytes (be32 n) (be32 seq)) same ∙ itself (be32 seq))
first-key-step seq e logs false is there rest = or-right (same_bytes (be32 e.head.seq) (be32 seq))
    (has_key (be32 seq) (map log_pair logs)) (rest there)

pub first-key : (seq : ℕ) (logs : List LogEntry) → IsSome (entry_of seq logs) → has_key (be32 seq) (map log_pair logs) ≡ true
first-key seq [] there = absurd (cc)
first-key seq (e ∷ logs) there = first-key-step seq e logs (e.head.seq == seq) refl there (first-key seq logs)

-- the keys rise
logs-below : (m least : ℕ) (logs : List LogEntry) → m < 2 ^ 32 → m < least → AllByRecursion (λ e. e.head.seq < 2 ^ 32) logs →
    RiseFrom least logs →
    T (entries.below_all bytes_cmp (be32 m) (map log_pair logs))
logs-below m least [] f lt all rise = tt
logs-below m least (e ∷ logs) f lt all rise =
    let low : least ≤ e.head.seq = rise.0 in
    to_T _ (both-true _ _ (ap is_lt (number-rises m e.head.seq f all.0 (omega (arith, low, lt))))
    (from_T _ (logs-below m (e.head.seq + 1) logs f (omega (arith, low, lt)) all.1 rise.1)))

pub logs-rise : (least : ℕ) (logs : List LogEntry) → AllByRecursion (λ e. e.head.seq < 2 ^ 32) logs → RiseFrom least logs →
    T (entries.is_sorted bytes_cmp (map log_pair logs))
logs-rise least [] all rise = tt
logs-rise least (e ∷ logs) all rise =
    to_T _ (both-true _ _ (from_T _ (logs-below e.head.seq (e.head.seq + 1) logs all.0 (omega arith) all.1 rise.1))
    (from_T _ (logs-rise (e.head.seq + 1) logs all.1 rise.1)))

-- ---- area 3

abbrev pub table_pair : TableRow → KeyValue
table_pair t = (be32 t.id, spelling.table t)

-- ids below this one
abbrev AreIdsBelow : ℕ → List TableRow → Type 0
AreIdsBelow limit ts = AllByRecursion (λ t. t.id < limit) ts

behind-all : (t : TableRow) (before : List TableRow) → AreIdsBelow t.id before → with_table t before ≡ before ++ t ∷ []
behind-all t [] all = refl
behind-all t (u ∷ us) all =
    let low : u.id < t.id = all.0 in
    let apart : nat_lt t.id u.id ≡ false = grind (arith, nat_tests) in
    ap (λ b. if b then t ∷ u ∷ us else u ∷ with_table t us) apart ∙ ap (λ ts. u ∷ ts) (behind-all t us all.1)

table-taken : (before : List TableRow) (t : TableRow) → IsTable t → table_fault before t ≡ None → AreIdsBelow t.id before →
    table_step before (table_pair t) ≡ Some (before ++ t ∷ [])
table-taken before t is good below =
    let read : table_at 0 (be32 t.id ++ spelling.table t) ≡ Ok (t, []) =
    ap (table_at 0) (sym (append-nil (be32 t.id ++ spelling.table t))) ∙ table_whole 0 t [] is in
    ap (λ r. option_and_then (tables_with before) (read_whole r)) read
    ∙ test-passed (no_fault (table_fault before t)) (with_table t before) (ap no_fault good)
    ∙ ap (λ ts. Some ts) (behind-all t before below)

below-more : (least : ℕ) (t : TableRow) (before : List TableRow) → AreIdsBelow least before → least ≤ t.id →
    AreIdsBelow (t.id + 1) (before ++ t ∷ [])
below-more least t [] all le = (omega arith, tt)
below-more least t (u ∷ us) all le = let low : u.id < least = all.0 in (omega (arith, low, le), below-more least t us all.1 le)

below-later : (least id : ℕ) (before : List TableRow) → AreIdsBelow least before → least ≤ id → AreIdsBelow id before
below-later least id [] all le = tt
below-later least id (u ∷ us) all le = let low : u.id < least =
    all.0 in (omega (arith, low, le), below-later least id us all.1 le)

id-low : (least : ℕ) (t : TableRow) (ts : List TableRow) → ids_rise least (t ∷ ts) ≡ true → least ≤ t.id
id-low least t ts rise = let here : nat_le least t.id ≡ true =
    and-left (nat_le least t.id) (ids_rise (t.id + 1) ts) rise in grind (arith, nat_tests)

pub tables-read : (least : ℕ) (before ts : List TableRow) → AllByRecursion IsTable ts → AreAcceptedBehind before ts →
    ids_rise least ts ≡ true →
    AreIdsBelow least before → read_area 3 table_step before (map table_pair ts) ≡ Ok (before ++ ts)
tables-read least before [] all accepted rise below = ap (λ x. Ok x) (sym (append-nil before))
tables-read least before (t ∷ ts) all accepted rise below =
    let low = id-low least t ts rise in
    ap (λ o. or_err o (3, be32 t.id) >>= λ next. read_area 3 table_step next (map table_pair ts))
    (table-taken before t all.0 accepted.0 (below-later least t.id before below low))
    ∙ tables-read (t.id + 1) (before ++ t ∷ []) ts all.1 accepted.1 (and-right (nat_le least t.id) (ids_rise (t.id + 1) ts) rise)
    (below-more least t before below low)
    ∙ ap (λ x. Ok x) (append_assoc before (t ∷ []) ts)

tables-below : (m least : ℕ) (ts : List TableRow) → m < 2 ^ 32 → m < least → AllByRecursion IsTable ts →
    ids_rise least ts ≡ true →
    T (entries.below_all bytes_cmp (be32 m) (map table_pair ts))
tables-below m least [] f lt all rise = tt
tables-below m least (t ∷ ts) f lt all rise =
    let low = id-low least t ts rise in
    to_T _ (both-true _ _ (ap is_lt (number-rises m t.id f all.0.id (omega (arith, low, lt))))
    (from_T _ (tables-below m (t.id + 1) ts f (omega (arith, low, lt)) all.1
    (and-right (nat_le least t.id) (ids_rise (t.id + 1) ts) rise))))

pub tables-rise : (least : ℕ) (ts : List TableRow) → AllByRecursion IsTable ts → ids_rise least ts ≡ true →
    T (entries.is_sorted bytes_cmp (map table_pair ts))
tables-rise least [] all rise = tt
tables-rise least (t ∷ ts) all rise =
    let more = and-right (nat_le least t.id) (ids_rise (t.id + 1) ts) rise in
    to_T _ (both-true _ _ (from_T _ (tables-below t.id (t.id + 1) ts all.0.id (omega arith) all.1 more))
    (from_T _ (tables-rise (t.id + 1) ts all.1 more)))

-- ---- area 4

abbrev pub skip_pair : ℕ → Skip → KeyValue
skip_pair number k = (be32 number, be64 k.from ++ rule_bytes k.rule)

abbrev pub skip_pairs : ℕ → List Skip → List KeyValue
skip_pairs number [] = []
skip_pairs number (k ∷ ks) = skip_pair number k ∷ skip_pairs (number + 1) ks

-- a rule is not among those before it
differs : (before : List Skip) (k : Skip) (ks : List Skip) → rules_differ (before ++ k ∷ ks) ≡ true →
    has_rule before k.rule ≡ false
differs [] k ks e = refl
differs (j ∷ before) k ks e =
    let here : not (list_any (λ t. same_rule j.rule t.rule) (before ++ k ∷ ks)) ≡ true =
    and-left (not (list_any (λ t. same_rule j.rule t.rule) (before ++ k ∷ ks))) (rules_differ (before ++ k ∷ ks)) e in
    let rest : rules_differ (before ++ k ∷ ks) ≡ true =
    and-right (not (list_any (λ t. same_rule j.rule t.rule) (before ++ k ∷ ks))) (rules_differ (before ++ k ∷ ks)) e in
    both-false (same_rule j.rule k.rule) (has_rule before k.rule)
    (among (λ t. same_rule j.rule t.rule) before k ks (not-true _ here)) (differs before k ks rest)

rule-read : (from : ℕ) (r : Rule) → IsRule r → rule_in (byte_in 8 (be64 from ++ rule_bytes r))
    (drop 9 (be64 from ++ rule_bytes r)) ≡ Some r
rule-read from (OfTables pattern) is = ap (λ b. when_true b (OfTables pattern)) is
rule-read from (Transaction x) is = ap (λ r. option_map Transaction (read_whole r)) (xid_whole 0 x [] is)

rule-long : (from : ℕ) (r : Rule) → nat_le 9 (length (be64 from ++ rule_bytes r)) ≡ true
rule-long from (OfTables pattern) = let long : 9 ≤ length (be64 from ++ rule_bytes (OfTables pattern)) =
    omega arith in grind (arith, nat_tests)
rule-long from (Transaction x) = refl

from-read : (from : ℕ) (r : Rule) → from < 2 ^ 62 → number_in w64 0 (be64 from ++ rule_bytes r) ≡ from
from-read from (OfTables pattern) f = from_be_bytes-to_be_bytes_8 from (omega (arith, f))
from-read from (Transaction x) f = from_be_bytes-to_be_bytes_8 from (omega (arith, f))

skip-taken : (before : List Skip) (k : Skip) → IsSkip k → has_rule before k.rule ≡ false → length before < skip_limit →
    skip_step before (skip_pair (length before + 1) k) ≡ Some (before ++ k ∷ [])
skip-taken before k is apart few =
    let value = be64 k.from ++ rule_bytes k.rule in
    let from = is.from in
    let room : nat_lt (length before) skip_limit ≡ true = grind (arith, nat_tests, few) in
    let small : nat_lt k.from (2 ^ 62) ≡ true = grind (arith, nat_tests, from) in
    let new : not (has_rule before k.rule) ≡ true = ap not apart in
    ap (λ b. if b then option_and_then (with_rule before (number_in w64 0 value))
    (rule_in (byte_in 8 value) (drop 9 value)) else None)
    (both-true _ _ (itself (be32 (length before + 1))) (rule-long k.from k.rule))
    ∙ ap (λ o. option_and_then (with_rule before (number_in w64 0 value)) o) (rule-read k.from k.rule is.rule)
    ∙ ap (λ n. with_rule before n k.rule) (from-read k.from k.rule from)
    ∙ test-passed _ _ (both-true _ _ (both-true _ _ new room) small)

pub skips-read : (before skips : List Skip) → AllByRecursion IsSkip skips → rules_differ (before ++ skips) ≡ true →
    length before + length skips ≤ skip_limit →
    read_area 4 skip_step before (skip_pairs (length before + 1) skips) ≡ Ok (before ++ skips)
skips-read before [] all apart few = ap (λ x. Ok x) (sym (append-nil before))
skips-read before (k ∷ ks) all apart few =
    let more : length (before ++ k ∷ []) ≡ length before + 1 = length-append before (k ∷ []) in
    ap (λ o. or_err o (4, be32 (length before + 1)) >>= λ next. read_area 4 skip_step next
    (skip_pairs (length before + 1 + 1) ks))
    (skip-taken before k all.0 (differs before k ks apart) (omega (arith, few)))
    ∙ ap (λ n. read_area 4 skip_step (before ++ k ∷ []) (skip_pairs (n + 1) ks)) (sym more)
    ∙ skips-read (before ++ k ∷ []) ks all.1 (ap rules_differ (append_assoc before (k ∷ []) ks) ∙ apart)
    (omega (arith, more, few))
    ∙ ap (λ x. Ok x) (append_assoc before (k ∷ []) ks)

skips-below : (m number : ℕ) (ks : List Skip) → m < number → number + length ks < 2 ^ 32 →
    T (entries.below_all bytes_cmp (be32 m) (skip_pairs number ks))
skips-below m number [] lt few = tt
skips-below m number (k ∷ ks) lt few =
    to_T _ (both-true _ _ (ap is_lt (number-rises m number (omega (arith, lt, few)) (omega (arith, few)) lt))
    (from_T _ (skips-below m (number + 1) ks (omega (arith, lt)) (omega (arith, few)))))

pub skips-rise : (number : ℕ) (ks : List Skip) → number + length ks < 2 ^ 32 →
    T (entries.is_sorted bytes_cmp (skip_pairs number ks))
skips-rise number [] few = tt
skips-rise number (k ∷ ks) few =
    to_T _ (both-true _ _ (from_T _ (skips-below number (number + 1) ks (omega arith) (omega (arith, few))))
    (from_T _ (skips-rise (number + 1) ks (omega (arith, few)))))

-- ---- area 6

abbrev pub applied_pairs : ℕ → ℕ → List KeyValue
applied_pairs n scn = (applied_key, be64 n ++ be64 scn) ∷ []

pub applied-read : (n scn : ℕ) → n < 2 ^ 62 → scn < 2 ^ 64 → read_area 6 applied_step (0, 0) (applied_pairs n scn) ≡ Ok (n, scn)
applied-read n scn f g =
    let count : number_in w64 0 (be64 n ++ be64 scn) ≡ n = from_be_bytes-to_be_bytes_8 n (omega (arith, f)) in
    let last : number_in w64 8 (be64 n ++ be64 scn) ≡ scn = from_be_bytes-to_be_bytes_8 scn g in
    let small : nat_lt n (2 ^ 62) ≡ true = grind (arith, nat_tests, f) in
    ap (λ o. or_err o (6, applied_key) >>= λ next. Ok next)
    (ap (λ x. when_true (nat_lt x (2 ^ 62)) (x, number_in w64 8 (be64 n ++ be64 scn))) count
    ∙ ap (λ x. when_true (nat_lt n (2 ^ 62)) (n, x)) last
    ∙ test-passed (nat_lt n (2 ^ 62)) (n, scn) small)

-- ---- area 7

abbrev pub mark_value : Mark → List ℕ
mark_value k =
    1 ∷ be64 k.q ++ be64 k.m ++ be64 k.before ++ be32 k.place.seq ++ be64 k.place.at ++ be32 k.place.done
    ++ be64 k.q_scn ++ be64 k.m_scn ++ be64 k.commit_scn

abbrev pub mark_pairs : Option Mark → List KeyValue
mark_pairs None = []
mark_pairs (Some k) = (mark_key, mark_value k) ∷ []

-- a mark whose numbers are below 2^62
record IsSmall (k : Mark) : Type 0 where
  q : k.q < 2 ^ 62
  m : k.m < 2 ^ 62
  before : k.before < 2 ^ 62
  at : k.place.at < 2 ^ 62

below-limit : (n : ℕ) → nat_lt n (2 ^ 62) ≡ true → n < 2 ^ 62
below-limit n e = grind (arith, nat_tests)

small : (logs : List LogEntry) (n : ℕ) (k : Mark) → is_mark_in logs n k ≡ true → IsSmall k
small logs n k e =
    let six = and-left _ _ e in
    let five = and-left _ _ six in
    let four = and-left _ _ five in
    let three = and-left _ _ four in
    let two = and-left _ _ three in
    record {
      q = below-limit k.q (and-left _ _ two);
      m = below-limit k.m (and-right _ _ two);
      before = below-limit k.before (and-right _ _ three);
      at = below-limit k.place.at (and-right _ _ four);
    }

mark-is : (n : ℕ) (k : Mark) → IsMark k → IsSmall k → mark_in n (mark_value k) ≡ at_count n k
mark-is n k is low =
    let fq = low.q in
    let fm = low.m in
    let fb = low.before in
    let fa = low.at in
    let q = from_be_bytes-to_be_bytes_8 k.q (omega (arith, fq)) in
    let m = from_be_bytes-to_be_bytes_8 k.m (omega (arith, fm)) in
    let before = from_be_bytes-to_be_bytes_8 k.before (omega (arith, fb)) in
    let seq = from_be_bytes-to_be_bytes_4 k.place.seq is.seq in
    let at = from_be_bytes-to_be_bytes_8 k.place.at (omega (arith, fa)) in
    let done = from_be_bytes-to_be_bytes_4 k.place.done is.done in
    let rec : number_in w64 1 (mark_value k) ≡ k.place.rec = q ∙ sym is.rec in
    let q_scn = from_be_bytes-to_be_bytes_8 k.q_scn is.q_scn in
    let m_scn = from_be_bytes-to_be_bytes_8 k.m_scn is.m_scn in
    let commit_scn = from_be_bytes-to_be_bytes_8 k.commit_scn is.commit_scn in
    λ i. record {
      q = q i;
      m = m i;
      before = before i;
      place = record { seq = seq i; at = at i; done = done i; rec = rec i };
      q_scn = q_scn i;
      m_scn = m_scn i;
      commit_scn = commit_scn i;
      n = n;
    }

pub mark-read : (logs : List LogEntry) (n : ℕ) (k : Mark) → IsMark k → is_mark_in logs n k ≡ true →
    read_area 7 (mark_step logs n) None (mark_pairs (Some k)) ≡ Ok (Some (at_count n k))
mark-read logs n k is placed =
    ap (λ x. or_err (when_true (is_mark_in logs n x) (Some x)) (7, mark_key) >>= λ next. Ok next)
    (mark-is n k is (small logs n k placed))
    ∙ ap (λ b. or_err (when_true b (Some (at_count n k))) (7, mark_key) >>= λ next. Ok next) placed

pub marks-read : (logs : List LogEntry) (n : ℕ) (mark : Option Mark) → IfSome mark IsMark →
    IfSome mark (λ k. IsTrue (is_mark_in logs n k)) →
    read_area 7 (mark_step logs n) None (mark_pairs mark) ≡ Ok (option_map (at_count n) mark)
marks-read logs n None is placed = refl
marks-read logs n (Some k) is placed = mark-read logs n k is placed
