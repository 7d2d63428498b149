-- Laws of spelling again: pairs that give a part of a state are the pairs of that part, area by area.
use Rattle.std.proofs.Common.{◌≡◌, ℕ, zero, suc, ◌+◌, ◌^◌, ◌<◌, ◌≤◌, List, [], ◌∷◌, ◌++◌, map, filter, length, take, drop, Bool, true, false, cond, not, refl, sym, ap, ◌∙◌, subst, Option, Some, None, Ok, Err, Result, arith, append_assoc}
use Rattle.std.specs.Prelude.{◌&&◌, ◌==◌, nat_le, nat_lt, if◌then◌else◌, slice_get, unwrap_or}
use Rattle.std.proofs.Math.Dec.{T}
use Rattle.std.proofs.lemmas.Bool.Decides.{nat_tests}
use Rattle.std.proofs.lemmas.List.{append-nil, length-append, length-drop, take-append-drop, take_all, take_at, drop_at}
use Rattle.std.specs.Int.{w32, w64}
use Rattle.std.specs.List.{AllByRecursion}
use Rattle.std.specs.Option.{option_map, option_and_then}
use Rattle.std.specs.declared.cmp.Ordering.TheVariants.{Greater}
use Rattle.std.specs.Ordering.{is_lt, ordering_reverse}
use Rattle.std.specs.Cmp.{tied_itself}
use Rattle.std.specs.Cmp.Lexicographic.{nat_list_cmp_total}
use Rattle.std.specs.FinMap.Entries as entries
use Rattle.rl_value.specs.Order.{bytes_cmp, same_bytes}
use Rattle.rl_value.specs.Outcome.{◌>>=◌, or_err}
use Rattle.rl_ports.specs.Store.{Store}
use Rattle.redo_vec.specs.declared.table.TableRow.{TableRow}
use Rattle.redo_vec.specs.Cutting.{number_in}
use Rattle.redo_vec.specs.Ranges.{AreBytes, IsTable}
use Rattle.redo_vec.specs.Reading.{Read, table_at, xid_at}
use Rattle.redo_vec.specs.Spelling as spelling
use Rattle.redo_vec.specs.Spelling.{be32, be64}
use Rattle.redo_vec.proofs.ChangeLaws.{xid_sound}
use Rattle.redo_vec.proofs.TableLaws.{body, table_sound}
use Rattle.redo_spec.specs.Dictionary.{table_fault, with_table}
use Rattle.redo_spec.specs.Log.{header_bytes}
use Rattle.redo_spec.specs.LogHeader.{header_in, header_fault}
use Rattle.redo_spec.specs.Skips.{Rule, Tables as OfTables, Transaction, Skip, is_pattern, has_rule, skip_limit}
use Rattle.skip_guard.specs.declared.guard.Level.{Level}
use Rattle.skip_guard.specs.declared.guard.Level.TheVariants.{All, Standby}
use Rattle.log_registry.specs.declared.entry.LogEntry.{LogEntry}
use Rattle.standby_spec.specs.declared.mark.Mark.{Mark}
use Rattle.standby_spec.specs.Layout.{level_byte, standby_key, applied_key, mark_key, rule_bytes}
use Rattle.standby_spec.specs.Writings.{log_limit}
use Rattle.standby_spec.specs.HasLayout.{IsStoreOfBytes}
use Rattle.standby_spec.specs.Loading.{StorePlace, KeyValue, of_area, has_key, read_area, when_true, read_whole, byte_in, Identity, level_of, identity_in, with_first_log, standby_step, no_fault, is_log_of, log_step, tables_with, table_step, rule_in, with_rule, skip_step, Applied, applied_step, mark_in, is_mark_in, mark_step}
use Rattle.standby_spec.proofs.AreaLaws.{number-rises}
use Rattle.redo_spec.proofs.FieldLaws.{bytes_fit, drop_fits, spelled4, spelled8, joined, header_passed, header_spelled}
use Rattle.standby_spec.proofs.ReadLaws.{log_pair, table_pair, skip_pair, skip_pairs, applied_pairs, mark_value, mark_pairs}
use Rattle.standby_spec.proofs.StoreLaws.{and-left, and-right, first-of, second-of, same_nat, bytes_is}

-- ---- what was given

pub if-given : {A : Type 0} (b : Bool) (x : Option A) (y : A) → (if b then x else None) ≡ Some y → (b ≡ true) × (x ≡ Some y)
if-given true x y e = (refl, e)
if-given false x y e = absurd (cc)

pub when-given : {A : Type 0} (b : Bool) (x y : A) → when_true b x ≡ Some y → (b ≡ true) × (x ≡ y)
when-given true x y e = (refl, cc)
when-given false x y e = absurd (cc)

pub then-given : {A B : Type 0} (f : A → Option B) (o : Option A) (y : B) → option_and_then f o ≡ Some y → (x : A) ×
    ((o ≡ Some x) × (f x ≡ Some y))
then-given f None y e = absurd (cc)
then-given f (Some x) y e = (x, (refl, e))

pub map-given : {A B : Type 0} (f : A → B) (o : Option A) (y : B) → option_map f o ≡ Some y → (x : A) × ((o ≡ Some x) × (f x ≡ y))
map-given f None y e = absurd (cc)
map-given f (Some x) y e = (x, (refl, cc))

whole-given : {A : Type 0} (r : Read A) (y : A) → read_whole r ≡ Some y → r ≡ Ok (y, [])
whole-given (Ok (x, [])) y e = let same : x ≡ y = cc in ap (λ z. Ok (z, [])) same
whole-given (Ok (x, b ∷ left)) y e = absurd (cc)
whole-given (Err f) y e = absurd (cc)

pub ok-same : {A : Type 0} (x y : A) → ◌≡◌ {A = Result A StorePlace} (Ok x) (Ok y) → x ≡ y
ok-same x y e = cc

some-same : {A : Type 0} (x y : A) → Some x ≡ Some y → x ≡ y
some-same x y e = cc

pub step-given : {A : Type 0} (area : ℕ) (step : A → KeyValue → Option A) (x y : A) (p : KeyValue) (ps : List KeyValue) →
    read_area area step x (p ∷ ps) ≡ Ok y → (next : A) × ((step x p ≡ Some next) × (read_area area step next ps ≡ Ok y))
step-given area step x y p ps e =
    elim (step x p) as (λ o. (or_err o (area, p.0) >>= λ next. read_area area step next ps) ≡ Ok y →
    (next : _) × ((o ≡ Some next) × (read_area area step next ps ≡ Ok y))) [
      | Some next ↦ λ is. (next, (refl, is))
      | None ↦ λ is. absurd (cc)
    ] e

no-fault : {F : Type 0} (o : Option F) → no_fault o ≡ true → o ≡ None
no-fault None e = refl
no-fault (Some f) e = absurd (cc)

-- ---- pairs of bytes

abbrev pub ArePairsOfBytes : List KeyValue → Type 0
ArePairsOfBytes ps = AllByRecursion (λ p. AreBytes p.0 × AreBytes p.1) ps

abbrev pair-of : (ℕ × List ℕ) × List ℕ → KeyValue
pair-of e = (e.0.1, e.1)

area-bytes-step : (a : ℕ) (e : (ℕ × List ℕ) × List ℕ) (s : Store) → AreBytes e.0.1 × AreBytes e.1 →
    ArePairsOfBytes (of_area a s) → (t : Bool) →
    ArePairsOfBytes (map pair-of (cond t (e ∷ filter (λ x. x.0.0 == a) s) (filter (λ x. x.0.0 == a) s)))
area-bytes-step a e s f rest true = (f, rest)
area-bytes-step a e s f rest false = rest

pub area-bytes : (a : ℕ) (s : Store) → IsStoreOfBytes s → ArePairsOfBytes (of_area a s)
area-bytes a [] f = tt
area-bytes a (e ∷ s) f = area-bytes-step a e s f.0 (area-bytes a s f.1) (e.0.0 == a)

-- a key of four bytes is the spelling of its number
key-number : (key : List ℕ) → AreBytes key → (length key == 4) ≡ true → key ≡ be32 (number_in w32 0 key)
key-number key f e =
    let long : length key ≡ 4 = same_nat (length key) 4 e in
    sym (take_all 4 key (omega (arith, long))) ∙ spelled4 0 key (bytes_fit key f) (omega (arith, long))

last-byte : (n : ℕ) (v : List ℕ) → length v ≡ suc n → drop n v ≡ unwrap_or (slice_get v n) 0 ∷ []
last-byte n [] e = absurd (omega (arith, e))
last-byte zero (x ∷ []) e = refl
last-byte zero (x ∷ y ∷ v) e = absurd (omega (arith, e))
last-byte (suc n) (x ∷ v) e = last-byte n v (omega (arith, e))

byte-first : (n : ℕ) (v : List ℕ) → n < length v → drop n v ≡ byte_in n v ∷ drop (suc n) v
byte-first n [] lt = absurd (omega (arith, lt))
byte-first zero (x ∷ v) lt = refl
byte-first (suc n) (x ∷ v) lt = byte-first n v (omega (arith, lt))

-- one key at most
one-key : (key : List ℕ) (p q : KeyValue) → same_bytes p.0 key ≡ true → same_bytes q.0 key ≡ true →
    T (is_lt (bytes_cmp p.0 q.0)) → ⊥
one-key key p q e f lt =
    let same : p.0 ≡ q.0 = bytes_is p.0 key e ∙ sym (bytes_is q.0 key f) in
    let itself : T (is_lt (bytes_cmp p.0 p.0)) = subst (λ x. T (is_lt (bytes_cmp p.0 x))) (sym same) lt in
    subst (λ r. T (is_lt r)) (tied_itself nat_list_cmp_total p.0) itself

-- ---- area 1

level-spelled : (b : ℕ) (level : Level) → level_of b ≡ Some level → b ≡ level_byte level
level-spelled b level e =
    elim (b == 1) as (λ t. (b == 1) ≡ t → (if t then Some All else if b == 2 then Some Standby else None) ≡ Some level →
    b ≡ level_byte level) [
      | true ↦ λ is given. let same : All ≡ level = cc in same_nat b 1 is ∙ ap level_byte same
      | false ↦ λ other given. elim (b == 2) as (λ t. (b == 2) ≡ t → (if t then Some Standby else None) ≡ Some level →
          b ≡ level_byte level) [
            | true ↦ λ is given. let same : Standby ≡ level = cc in same_nat b 2 is ∙ ap level_byte same
            | false ↦ λ is given. absurd (cc)
          ] refl given
    ] refl e

abbrev pub identity_pairs : Identity → List KeyValue
identity_pairs i = (standby_key, be32 i.dbid ++ be32 i.first ++ be64 i.base ++ level_byte i.level ∷ []) ∷ []

identity-spelled : (value : List ℕ) (level : Level) → AreBytes value → length value ≡ 17 →
    level_of (byte_in 16 value) ≡ Some level →
    value ≡ be32 (number_in w32 0 value) ++ be32 (number_in w32 4 value) ++ be64 (number_in w64 8 value) ++ level_byte level ∷ []
identity-spelled value level f long is =
    let fits = bytes_fit value f in
    let to4 : take 4 value ≡ be32 (number_in w32 0 value) = spelled4 0 value fits (omega (arith, long)) in
    let to8 = joined 4 4 value (be32 (number_in w32 0 value)) (be32 (number_in w32 4 value)) to4
    (spelled4 4 value fits (omega (arith, long))) in
    let to16 = joined 8 8 value (be32 (number_in w32 0 value) ++ be32 (number_in w32 4 value)) (be64 (number_in w64 8 value)) to8
    (spelled8 8 value fits (omega (arith, long))) in
    let last : drop 16 value ≡ level_byte level ∷ [] =
    last-byte 16 value long ∙ ap (λ b. b ∷ []) (level-spelled (byte_in 16 value) level is) in
    sym (take-append-drop 16 value) ∙ (λ i. to16 i ++ last i)

identity-taken : (logs : List KeyValue) (so_far : Option Identity) (p : KeyValue) (next : Option Identity) → AreBytes p.1 →
    standby_step logs so_far p ≡ Some next → (same_bytes p.0 standby_key ≡ true) ×
    ((i : Identity) × ((next ≡ Some i) × (p ∷ [] ≡ identity_pairs i)))
identity-taken logs so_far (key, value) next f e =
    let a = if-given (same_bytes key standby_key && (length value == 17)) _ next e in
    let b = map-given Some (option_and_then (λ level. with_first_log logs (identity_in value level))
    (level_of (byte_in 16 value))) next a.1 in
    let c = then-given (λ level. with_first_log logs (identity_in value level)) (level_of (byte_in 16 value)) b.0 b.1.0 in
    let d = when-given (has_key (be32 (identity_in value c.0).first) logs) (identity_in value c.0) b.0 c.1.1 in
    let named = and-left (same_bytes key standby_key) (length value == 17) a.0 in
    let k : key ≡ standby_key = bytes_is key standby_key named in
    let v = identity-spelled value c.0 f (same_nat (length value) 17
    (and-right (same_bytes key standby_key) (length value == 17) a.0)) c.1.0 in
    (named, (b.0, (sym b.1.1, (λ i. (k i, v i) ∷ []) ∙ ap identity_pairs d.1)))

pub identity-pairs : (logs ps : List KeyValue) (i : Identity) → ArePairsOfBytes ps → T (entries.is_sorted bytes_cmp ps) →
    read_area 1 (standby_step logs) None ps ≡ Ok (Some i) → ps ≡ identity_pairs i
identity-pairs logs [] i f h e = absurd (cc)
identity-pairs logs (p ∷ []) i f h e =
    let a = step-given 1 (standby_step logs) None (Some i) p [] e in
    let b = identity-taken logs None p a.0 f.0.1 a.1.0 in
    let whole : a.0 ≡ Some i = ok-same a.0 (Some i) a.1.1 in
    let is : Some b.1.0 ≡ Some i = sym b.1.1.0 ∙ whole in
    b.1.1.1 ∙ ap identity_pairs (some-same b.1.0 i is)
identity-pairs logs (p ∷ q ∷ ps) i f h e =
    let a = step-given 1 (standby_step logs) None (Some i) p (q ∷ ps) e in
    let b = step-given 1 (standby_step logs) a.0 (Some i) q ps a.1.1 in
    absurd (one-key standby_key p q (identity-taken logs None p a.0 f.0.1 a.1.0).0 (identity-taken logs a.0 q b.0 f.1.0.1 b.1.0).0
    (first-of _ _ (first-of _ _ h)))

-- ---- area 2

log-taken : (i : Identity) (before : List LogEntry) (p : KeyValue) (next : List LogEntry) → AreBytes p.0 → AreBytes p.1 →
    log_step i before p ≡ Some next → (e : LogEntry) × ((next ≡ before ++ e ∷ []) × (p ≡ log_pair e))
log-taken i before (key, value) next f g e =
    let a = when-given ((length key == 4) && (length value == 48) && is_log_of i key value && nat_lt (length before) log_limit)
    (before ++ record { head = header_in value; length = number_in w64 40 value } ∷ []) next e in
    let three = and-left ((length key == 4) && (length value == 48) && is_log_of i key value)
    (nat_lt (length before) log_limit) a.0 in
    let good = and-right ((length key == 4) && (length value == 48)) (is_log_of i key value) three in
    let two = and-left ((length key == 4) && (length value == 48)) (is_log_of i key value) three in
    let short = and-left (length key == 4) (length value == 48) two in
    let long : length value ≡ 48 = same_nat (length value) 48 (and-right (length key == 4) (length value == 48) two) in
    let fault : header_fault (number_in w32 0 key) value ≡ None = no-fault (header_fault (number_in w32 0 key) value)
    (and-left _ _ (and-left _ _ (and-left _ _ good))) in
    let passed = header_passed (number_in w32 0 key) value fault in
    let k : key ≡ be32 (header_in value).seq = key-number key f short ∙ ap be32 (sym passed.is) in
    let front = header_spelled (number_in w32 0 key) value (bytes_fit value g) passed in
    let rest : drop 40 value ≡ be64 (number_in w64 40 value) =
    sym (take_all 8 (drop 40 value) (omega (arith, long, length-drop 40 value))) ∙
    spelled8 40 value (bytes_fit value g) (omega (arith, long)) in
    let v : value ≡ header_bytes (header_in value) ++ be64 (number_in w64 40 value) =
    sym (take-append-drop 40 value) ∙ (λ j. front j ++ rest j) in
    (record { head = header_in value; length = number_in w64 40 value }, (sym a.1, λ j. (k j, v j)))

logs-spelled : (i : Identity) (before : List LogEntry) (ps : List KeyValue) (logs : List LogEntry) → ArePairsOfBytes ps →
    read_area 2 (log_step i) before ps ≡ Ok logs → (more : List LogEntry) × ((logs ≡ before ++ more) × (ps ≡ map log_pair more))
logs-spelled i before [] logs f e = ([], (sym (ok-same before logs e) ∙ sym (append-nil before), refl))
logs-spelled i before (p ∷ ps) logs f e =
    let a = step-given 2 (log_step i) before logs p ps e in
    let b = log-taken i before p a.0 f.0.0 f.0.1 a.1.0 in
    let c = logs-spelled i a.0 ps logs f.1 a.1.1 in
    let first = b.1.1 in
    let rest = c.1.1 in
    (b.0 ∷ c.0, (c.1.0 ∙ ap (λ x. x ++ c.0) b.1.0 ∙ append_assoc before (b.0 ∷ []) c.0, λ j. first j ∷ rest j))

pub log-pairs : (i : Identity) (ps : List KeyValue) (logs : List LogEntry) → ArePairsOfBytes ps →
    read_area 2 (log_step i) [] ps ≡ Ok logs → ps ≡ map log_pair logs
log-pairs i ps logs f e = let a = logs-spelled i [] ps logs f e in a.1.1 ∙ ap (map log_pair) (sym a.1.0)

-- ---- area 3

pub both-fit : (xs ys : List ℕ) → AreBytes xs → AreBytes ys → AreBytes (xs ++ ys)
both-fit [] ys f g = g
both-fit (x ∷ xs) ys f g = (f.0, both-fit xs ys f.1 g)

table-taken : (before : List TableRow) (p : KeyValue) (next : List TableRow) → AreBytes p.0 → AreBytes p.1 →
    table_step before p ≡ Some next → (t : TableRow) × ((next ≡ with_table t before) × ((p ≡ table_pair t) × IsTable t))
table-taken before (key, value) next f g e =
    let a = if-given (length key == 4) (option_and_then (tables_with before) (read_whole (table_at 0 (key ++ value)))) next e in
    let b = then-given (tables_with before) (read_whole (table_at 0 (key ++ value))) next a.1 in
    let read = whole-given (table_at 0 (key ++ value)) b.0 b.1.0 in
    let sound = table_sound 0 (key ++ value) (b.0, []) (bytes_fit (key ++ value) (both-fit key value f g)) read in
    let c = when-given (no_fault (table_fault before b.0)) (with_table b.0 before) next b.1.1 in
    let long : length key ≡ 4 = same_nat (length key) 4 a.0 in
    let all : key ++ value ≡ body b.0 = sound.0.parts ∙ append-nil (body b.0) in
    let k : key ≡ be32 b.0.id = sym (take_at key value 4 long) ∙ ap (take 4) all ∙
    take_at (be32 b.0.id) (spelling.table b.0) 4 refl in
    let v : value ≡ spelling.table b.0 = sym (drop_at key value 4 long) ∙ ap (drop 4) all ∙
    drop_at (be32 b.0.id) (spelling.table b.0) 4 refl in
    (b.0, (sym c.1, ((λ j. (k j, v j)), sound.1)))

abbrev AreLessIds : ℕ → List TableRow → Type 0
AreLessIds id ts = AllByRecursion (λ t. (t.id < id) × (t.id < 2 ^ 32)) ts

behind-all : (t : TableRow) (before : List TableRow) → AreLessIds t.id before → with_table t before ≡ before ++ t ∷ []
behind-all t [] all = refl
behind-all t (u ∷ us) all =
    let low : u.id < t.id = all.0.0 in
    let apart : nat_lt t.id u.id ≡ false = grind (arith, nat_tests) in
    ap (λ b. if b then t ∷ u ∷ us else u ∷ with_table t us) apart ∙ ap (λ ts. u ∷ ts) (behind-all t us all.1)

-- numbers whose bytes are in order are
pub number-less : (m n : ℕ) → m < 2 ^ 32 → n < 2 ^ 32 → T (is_lt (bytes_cmp (be32 m) (be32 n))) → m < n
number-less m n f g lt =
    elim (nat_lt m n) as (λ b. nat_lt m n ≡ b → m < n) [
      | true ↦ λ e. grind (arith, nat_tests)
      | false ↦ λ e. elim (m == n) as (λ b. (m == n) ≡ b → m < n) [
        | true ↦ λ is. absurd (subst (λ r. T (is_lt r)) (tied_itself nat_list_cmp_total (be32 m))
            (subst (λ x. T (is_lt (bytes_cmp (be32 m) (be32 x)))) (sym (same_nat m n is)) lt))
        | false ↦ λ other.
            let more : n < m = grind (arith, nat_tests) in
            let back : bytes_cmp (be32 m) (be32 n) ≡ Greater =
            nat_list_cmp_total.antisymm (be32 m) (be32 n) ∙ ap ordering_reverse (number-rises n m g f more) in
            absurd (subst (λ r. T (is_lt r)) back lt)
      ] refl
    ] refl

-- ids that are below those of the pairs that come
less-more : (id : ℕ) (t : TableRow) (before : List TableRow) → t.id < 2 ^ 32 → t.id < id → AreLessIds t.id before →
    AreLessIds id (before ++ t ∷ [])
less-more id t [] f lt all = ((lt, f), tt)
less-more id t (u ∷ us) f lt all = let low : u.id < t.id =
    all.0.0 in ((omega (arith, low, lt), all.0.1), less-more id t us f lt all.1)

-- each table before has an id whose bytes are below those of the keys that come
abbrev AreBelowKeys : List TableRow → List KeyValue → Type 0
AreBelowKeys before ps = AllByRecursion (λ t. (t.id < 2 ^ 32) × T (entries.below_all bytes_cmp (be32 t.id) ps)) before

less-of : (before : List TableRow) (t : TableRow) (p : KeyValue) (ps : List KeyValue) → t.id < 2 ^ 32 → p ≡ table_pair t →
    AreBelowKeys before (p ∷ ps) → AreLessIds t.id before
less-of [] t p ps f is all = tt
less-of (u ∷ us) t p ps f is all =
    let lt : T (is_lt (bytes_cmp (be32 u.id) (be32 t.id))) =
    subst (λ (x : KeyValue). T (is_lt (bytes_cmp (be32 u.id) x.0))) is (first-of _ _ all.0.1) in
    ((number-less u.id t.id all.0.0 f lt, all.0.0), less-of us t p ps f is all.1)

below-rest : (before : List TableRow) (t : TableRow) (p : KeyValue) (ps : List KeyValue) → t.id < 2 ^ 32 → p ≡ table_pair t →
    AreBelowKeys before (p ∷ ps) →
    T (entries.below_all bytes_cmp p.0 ps) → AreBelowKeys (before ++ t ∷ []) ps
below-rest [] t p ps f is all h = ((f, subst (λ (x : KeyValue). T (entries.below_all bytes_cmp x.0 ps)) is h), tt)
below-rest (u ∷ us) t p ps f is all h = ((all.0.0, second-of _ _ all.0.1), below-rest us t p ps f is all.1 h)

tables-spelled : (before : List TableRow) (ps : List KeyValue) (ts : List TableRow) → ArePairsOfBytes ps →
    T (entries.is_sorted bytes_cmp ps) → AreBelowKeys before ps →
    read_area 3 table_step before ps ≡ Ok ts → (more : List TableRow) × ((ts ≡ before ++ more) × (ps ≡ map table_pair more))
tables-spelled before [] ts f h below e = ([], (sym (ok-same before ts e) ∙ sym (append-nil before), refl))
tables-spelled before (p ∷ ps) ts f h below e =
    let a = step-given 3 table_step before ts p ps e in
    let b = table-taken before p a.0 f.0.0 f.0.1 a.1.0 in
    let id = b.1.1.1.id in
    let first = b.1.1.0 in
    let next : a.0 ≡ before ++ b.0 ∷ [] = b.1.0 ∙ behind-all b.0 before (less-of before b.0 p ps id first below) in
    let c = tables-spelled (before ++ b.0 ∷ []) ps ts f.1 (second-of _ _ h)
    (below-rest before b.0 p ps id first below (first-of _ _ h))
    (ap (λ x. read_area 3 table_step x ps) (sym next) ∙ a.1.1) in
    let rest = c.1.1 in
    (b.0 ∷ c.0, (c.1.0 ∙ append_assoc before (b.0 ∷ []) c.0, λ j. first j ∷ rest j))

pub table-pairs : (ps : List KeyValue) (ts : List TableRow) → ArePairsOfBytes ps → T (entries.is_sorted bytes_cmp ps) →
    read_area 3 table_step [] ps ≡ Ok ts →
    ps ≡ map table_pair ts
table-pairs ps ts f h e = let a = tables-spelled [] ps ts f h tt e in a.1.1 ∙ ap (map table_pair) (sym a.1.0)

with-fits : (t : TableRow) (ts : List TableRow) → t.id < 2 ^ 32 → AllByRecursion (λ u. u.id < 2 ^ 32) ts →
    AllByRecursion (λ u. u.id < 2 ^ 32) (with_table t ts)
with-fits t [] f all = (f, tt)
with-fits t (u ∷ us) f all = elim (nat_lt t.id u.id) as (λ b. AllByRecursion (λ x. x.id < 2 ^ 32)
    (if b then t ∷ u ∷ us else u ∷ with_table t us)) [
      | true ↦ (f, all)
      | false ↦ (all.0, with-fits t us f all.1)
    ]

-- ids of tables that were read fit their field and rise
pub read-ids : (before : List TableRow) (ps : List KeyValue) (ts : List TableRow) → ArePairsOfBytes ps →
    read_area 3 table_step before ps ≡ Ok ts →
    AllByRecursion (λ t. t.id < 2 ^ 32) before → AllByRecursion (λ t. t.id < 2 ^ 32) ts
read-ids before [] ts f e all = subst (λ x. AllByRecursion (λ t. t.id < 2 ^ 32) x) (ok-same before ts e) all
read-ids before (p ∷ ps) ts f e all =
    let a = step-given 3 table_step before ts p ps e in
    let b = table-taken before p a.0 f.0.0 f.0.1 a.1.0 in
    read-ids a.0 ps ts f.1 a.1.1 (subst (λ x. AllByRecursion (λ t. t.id < 2 ^ 32) x) (sym b.1.0)
    (with-fits b.0 before b.1.1.1.id all))

-- ---- area 4

rule-spelled : (value : List ℕ) (r : Rule) → AreBytes value → 9 ≤ length value →
    rule_in (byte_in 8 value) (drop 9 value) ≡ Some r →
    drop 8 value ≡ rule_bytes r
rule-spelled value r f long e =
    let front : drop 8 value ≡ byte_in 8 value ∷ drop 9 value = byte-first 8 value (omega (arith, long)) in
    elim (byte_in 8 value == 1) as (λ t. (byte_in 8 value == 1) ≡ t →
    (if t then when_true (is_pattern (drop 9 value)) (OfTables (drop 9 value))
    else if byte_in 8 value == 2 then option_map Transaction (read_whole (xid_at 0 (drop 9 value))) else None) ≡ Some r →
    drop 8 value ≡ rule_bytes r) [
      | true ↦ λ is given.
          let a = when-given (is_pattern (drop 9 value)) (OfTables (drop 9 value)) r given in
          front ∙ ap (λ b. b ∷ drop 9 value) (same_nat (byte_in 8 value) 1 is) ∙ ap rule_bytes a.1
      | false ↦ λ other given. elim (byte_in 8 value == 2) as (λ t. (byte_in 8 value == 2) ≡ t →
          (if t then option_map Transaction (read_whole (xid_at 0 (drop 9 value))) else None) ≡ Some r →
          drop 8 value ≡ rule_bytes r) [
            | true ↦ λ is found.
                let a = map-given Transaction (read_whole (xid_at 0 (drop 9 value))) r found in
                let read = whole-given (xid_at 0 (drop 9 value)) a.0 a.1.0 in
                let sound = xid_sound 0 (drop 9 value) (a.0, []) (drop_fits 9 value (bytes_fit value f)) read in
                front ∙ (let b = same_nat (byte_in 8 value) 2 is in let x = sound.0.parts ∙ append-nil (spelling.xid a.0) in
                λ j. b j ∷ x j) ∙ ap rule_bytes a.1.1
            | false ↦ λ is found. absurd (cc)
          ] refl given
    ] refl e

skip-taken : (before : List Skip) (p : KeyValue) (next : List Skip) → AreBytes p.0 → AreBytes p.1 →
    skip_step before p ≡ Some next →
    (k : Skip) × ((next ≡ before ++ k ∷ []) × (p ≡ skip_pair (length before + 1) k))
skip-taken before (key, value) next f g e =
    let a = if-given (same_bytes key (be32 (length before + 1)) && nat_le 9 (length value))
    (option_and_then (with_rule before (number_in w64 0 value)) (rule_in (byte_in 8 value) (drop 9 value))) next e in
    let b = then-given (with_rule before (number_in w64 0 value)) (rule_in (byte_in 8 value) (drop 9 value)) next a.1 in
    let c = when-given (not (has_rule before b.0) && nat_lt (length before) skip_limit && nat_lt (number_in w64 0 value) (2 ^ 62))
    (before ++ record { rule = b.0; from = number_in w64 0 value } ∷ []) next b.1.1 in
    let named = and-left (same_bytes key (be32 (length before + 1))) (nat_le 9 (length value)) a.0 in
    let enough : nat_le 9 (length value) ≡ true = and-right (same_bytes key (be32 (length before + 1)))
    (nat_le 9 (length value)) a.0 in
    let long : 9 ≤ length value = grind (arith, nat_tests) in
    let k : key ≡ be32 (length before + 1) = bytes_is key (be32 (length before + 1)) named in
    let front : take 8 value ≡ be64 (number_in w64 0 value) = spelled8 0 value (bytes_fit value g) (omega (arith, long)) in
    let rest = rule-spelled value b.0 g long b.1.0 in
    let v : value ≡ be64 (number_in w64 0 value) ++ rule_bytes b.0 = sym (take-append-drop 8 value) ∙ (λ j. front j ++ rest j) in
    (record { rule = b.0; from = number_in w64 0 value }, (sym c.1, λ j. (k j, v j)))

skips-spelled : (before : List Skip) (ps : List KeyValue) (skips : List Skip) → ArePairsOfBytes ps →
    read_area 4 skip_step before ps ≡ Ok skips →
    (more : List Skip) × ((skips ≡ before ++ more) × (ps ≡ skip_pairs (length before + 1) more))
skips-spelled before [] skips f e = ([], (sym (ok-same before skips e) ∙ sym (append-nil before), refl))
skips-spelled before (p ∷ ps) skips f e =
    let a = step-given 4 skip_step before skips p ps e in
    let b = skip-taken before p a.0 f.0.0 f.0.1 a.1.0 in
    let c = skips-spelled a.0 ps skips f.1 a.1.1 in
    let first = b.1.1 in
    let count : length a.0 ≡ length before + 1 = ap length b.1.0 ∙ length-append before (b.0 ∷ []) in
    let rest : ps ≡ skip_pairs (length before + 1 + 1) c.0 = c.1.1 ∙ ap (λ n. skip_pairs (n + 1) c.0) count in
    (b.0 ∷ c.0, (c.1.0 ∙ ap (λ x. x ++ c.0) b.1.0 ∙ append_assoc before (b.0 ∷ []) c.0, λ j. first j ∷ rest j))

pub rule-pairs : (ps : List KeyValue) (skips : List Skip) → ArePairsOfBytes ps → read_area 4 skip_step [] ps ≡ Ok skips →
    ps ≡ skip_pairs 1 skips
rule-pairs ps skips f e = let a = skips-spelled [] ps skips f e in a.1.1 ∙ ap (skip_pairs 1) (sym a.1.0)

-- ---- area 6

applied-taken : (so_far next : Applied) (p : KeyValue) → AreBytes p.1 → applied_step so_far p ≡ Some next →
    (same_bytes p.0 applied_key ≡ true) × (p ∷ [] ≡ applied_pairs next.0 next.1)
applied-taken so_far next (key, value) f e =
    let a = when-given (same_bytes key applied_key && (length value == 16) && nat_lt (number_in w64 0 value) (2 ^ 62))
    (number_in w64 0 value, number_in w64 8 value) next e in
    let two = and-left (same_bytes key applied_key && (length value == 16)) (nat_lt (number_in w64 0 value) (2 ^ 62)) a.0 in
    let named = and-left (same_bytes key applied_key) (length value == 16) two in
    let long : length value ≡ 16 = same_nat (length value) 16 (and-right (same_bytes key applied_key) (length value == 16) two) in
    let fits = bytes_fit value f in
    let to8 : take 8 value ≡ be64 (number_in w64 0 value) = spelled8 0 value fits (omega (arith, long)) in
    let to16 = joined 8 8 value (be64 (number_in w64 0 value)) (be64 (number_in w64 8 value)) to8
    (spelled8 8 value fits (omega (arith, long))) in
    let k : key ≡ applied_key = bytes_is key applied_key named in
    let v : value ≡ be64 (number_in w64 0 value) ++ be64 (number_in w64 8 value) =
    sym (take_all 16 value (omega (arith, long))) ∙ to16 in
    (named, (λ j. (k j, v j) ∷ []) ∙ ap (λ (x : Applied). applied_pairs x.0 x.1) a.1)

pub applied-one : (ps : List KeyValue) (next : Applied) → ArePairsOfBytes ps → T (entries.is_sorted bytes_cmp ps) →
    has_key applied_key ps ≡ true →
    read_area 6 applied_step (0, 0) ps ≡ Ok next → ps ≡ applied_pairs next.0 next.1
applied-one [] next f h there e = absurd (cc)
applied-one (p ∷ []) next f h there e =
    let a = step-given 6 applied_step (0, 0) next p [] e in
    (applied-taken (0, 0) a.0 p f.0.1 a.1.0).1 ∙ ap (λ (x : Applied). applied_pairs x.0 x.1) (ok-same a.0 next a.1.1)
applied-one (p ∷ q ∷ ps) next f h there e =
    let a = step-given 6 applied_step (0, 0) next p (q ∷ ps) e in
    let b = step-given 6 applied_step a.0 next q ps a.1.1 in
    absurd (one-key applied_key p q (applied-taken (0, 0) a.0 p f.0.1 a.1.0).0 (applied-taken a.0 b.0 q f.1.0.1 b.1.0).0
    (first-of _ _ (first-of _ _ h)))

-- ---- area 7

mark-spelled : (n : ℕ) (value : List ℕ) → AreBytes value → length value ≡ 65 → byte_in 0 value ≡ 1 →
    value ≡ mark_value (mark_in n value)
mark-spelled n value f long one =
    let fits = bytes_fit value f in
    let k = mark_in n value in
    let to1 : take 1 value ≡ 1 ∷ [] = ap (take 1) (byte-first 0 value (omega (arith, long))) ∙ ap (λ b. b ∷ []) one in
    let to9 = joined 1 8 value (1 ∷ []) (be64 k.q) to1 (spelled8 1 value fits (omega (arith, long))) in
    let to17 = joined 9 8 value ((1 ∷ []) ++ be64 k.q) (be64 k.m) to9 (spelled8 9 value fits (omega (arith, long))) in
    let to25 = joined 17 8 value ((1 ∷ []) ++ be64 k.q ++ be64 k.m) (be64 k.before) to17
    (spelled8 17 value fits (omega (arith, long))) in
    let to29 = joined 25 4 value ((1 ∷ []) ++ be64 k.q ++ be64 k.m ++ be64 k.before) (be32 k.place.seq) to25
    (spelled4 25 value fits (omega (arith, long))) in
    let to37 = joined 29 8 value ((1 ∷ []) ++ be64 k.q ++ be64 k.m ++ be64 k.before ++ be32 k.place.seq) (be64 k.place.at) to29
    (spelled8 29 value fits (omega (arith, long))) in
    let to41 = joined 37 4 value ((1 ∷ []) ++ be64 k.q ++ be64 k.m ++ be64 k.before ++ be32 k.place.seq ++ be64 k.place.at)
    (be32 k.place.done) to37
    (spelled4 37 value fits (omega (arith, long))) in
    let to49 = joined 41 8 value ((1 ∷ []) ++ be64 k.q ++ be64 k.m ++ be64 k.before ++ be32 k.place.seq ++ be64 k.place.at ++
    be32 k.place.done)
    (be64 k.q_scn) to41 (spelled8 41 value fits (omega (arith, long))) in
    let to57 = joined 49 8 value ((1 ∷ []) ++ be64 k.q ++ be64 k.m ++ be64 k.before ++ be32 k.place.seq ++ be64 k.place.at ++
    be32 k.place.done
    ++ be64 k.q_scn) (be64 k.m_scn) to49 (spelled8 49 value fits (omega (arith, long))) in
    let to65 = joined 57 8 value ((1 ∷ []) ++ be64 k.q ++ be64 k.m ++ be64 k.before ++ be32 k.place.seq ++ be64 k.place.at ++
    be32 k.place.done
    ++ be64 k.q_scn ++ be64 k.m_scn) (be64 k.commit_scn) to57 (spelled8 57 value fits (omega (arith, long))) in
    sym (take_all 65 value (omega (arith, long))) ∙ to65

mark-taken : (logs : List LogEntry) (n : ℕ) (so_far next : Option Mark) (p : KeyValue) → AreBytes p.1 →
    mark_step logs n so_far p ≡ Some next →
    (same_bytes p.0 mark_key ≡ true) × (p ∷ [] ≡ mark_pairs next)
mark-taken logs n so_far next (key, value) f e =
    let a = when-given (same_bytes key mark_key && (length value == 65) && (byte_in 0 value == 1) &&
    is_mark_in logs n (mark_in n value)) (Some (mark_in n value)) next e in
    let three = and-left (same_bytes key mark_key && (length value == 65) && (byte_in 0 value == 1))
    (is_mark_in logs n (mark_in n value)) a.0 in
    let two = and-left (same_bytes key mark_key && (length value == 65)) (byte_in 0 value == 1) three in
    let one : byte_in 0 value ≡ 1 = same_nat (byte_in 0 value) 1
    (and-right (same_bytes key mark_key && (length value == 65)) (byte_in 0 value == 1) three) in
    let named = and-left (same_bytes key mark_key) (length value == 65) two in
    let long : length value ≡ 65 = same_nat (length value) 65 (and-right (same_bytes key mark_key) (length value == 65) two) in
    let k : key ≡ mark_key = bytes_is key mark_key named in
    let v = mark-spelled n value f long one in
    (named, (λ j. (k j, v j) ∷ []) ∙ ap mark_pairs a.1)

pub mark-one : (logs : List LogEntry) (n : ℕ) (ps : List KeyValue) (mark : Option Mark) → ArePairsOfBytes ps →
    T (entries.is_sorted bytes_cmp ps) →
    read_area 7 (mark_step logs n) None ps ≡ Ok mark → ps ≡ mark_pairs mark
mark-one logs n [] mark f h e = ap mark_pairs (ok-same None mark e)
mark-one logs n (p ∷ []) mark f h e =
    let a = step-given 7 (mark_step logs n) None mark p [] e in
    (mark-taken logs n None a.0 p f.0.1 a.1.0).1 ∙ ap mark_pairs (ok-same a.0 mark a.1.1)
mark-one logs n (p ∷ q ∷ ps) mark f h e =
    let a = step-given 7 (mark_step logs n) None mark p (q ∷ ps) e in
    let b = step-given 7 (mark_step logs n) a.0 mark q ps a.1.1 in
    absurd (one-key mark_key p q (mark-taken logs n None a.0 p f.0.1 a.1.0).0 (mark-taken logs n a.0 b.0 q f.1.0.1 b.1.0).0
    (first-of _ _ (first-of _ _ h)))
