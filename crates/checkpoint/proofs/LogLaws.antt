-- Logs as they are read: each comes behind those before it.
use Rattle.std.proofs.Common.{◌≡◌, ℕ, ◌+◌, ◌^◌, ◌<◌, ◌≤◌, List, [], ◌∷◌, ◌++◌, length, drop, Bool, true, false, refl, sym, ap, ◌∙◌, subst, Option, Some, None, arith, inl, inr}
use Rattle.std.specs.Prelude.{◌&&◌, ◌==◌, ◌⊎◌, nat_le, nat_lt, if◌then◌else◌}
use Rattle.std.proofs.lemmas.Bool.Decides.{nat_tests}
use Rattle.std.proofs.lemmas.List.{length-append, length-drop, take-append-drop, take_all}
use Rattle.std.specs.Int.{w32, w64}
use Rattle.std.specs.List.{AllByRecursion}
use Rattle.redo_vec.specs.Cutting.{number_in}
use Rattle.redo_vec.specs.Ranges.{AreBytes}
use Rattle.redo_vec.specs.Spelling.{be32, be64}
use Rattle.redo_spec.specs.Log.{header_bytes}
use Rattle.redo_spec.specs.LogHeader.{header_in, header_fault}
use Rattle.redo_spec.proofs.ListLaws.{all_append}
use Rattle.log_registry.specs.declared.entry.LogEntry.{LogEntry}
use Rattle.log_registry.specs.Registered.{IsRising, with_log, entry_of, entry_with}
use Rattle.standby_spec.specs.HasLayout.{IsLogOf}
use Rattle.standby_spec.specs.Loading.{Identity, when_true, no_fault, is_log_of, log_step}
use Rattle.standby_spec.specs.Writings.{log_limit}
use Rattle.redo_spec.proofs.FieldLaws.{bytes_fit, drop_fits, spelled8, header_passed, header_spelled, header_fits, below64}
use Rattle.standby_spec.proofs.SpellLaws.{when-given}
use Rattle.standby_spec.proofs.StoreLaws.{and-left, and-right, same_nat}
use Rattle.kept_layout.specs.declared.identity.Identity.{Identity as KeptIdentity}
use Rattle.kept_layout.specs.Pairs.{identity_of, log_of_pair}
use Rattle.checkpoint.specs.Areas.{is_above}
use Rattle.checkpoint.specs.Read.{LiesBelow, AreLogsTo}
use Rattle.checkpoint.proofs.Numbers.{le_of, key_number, lies_under, below_on, below_itself}

-- ---- a log behind others

abbrev AreUnder : ℕ → List LogEntry → Type 0
AreUnder n logs = AllByRecursion (λ e. e.head.seq < n) logs

pub with_behind : (e : LogEntry) (logs : List LogEntry) → AreUnder e.head.seq logs → with_log e logs ≡ logs ++ e ∷ []
with_behind e [] all = refl
with_behind e (x ∷ logs) all =
    let low : x.head.seq < e.head.seq = all.0 in
    let apart : nat_lt e.head.seq x.head.seq ≡ false = grind (arith, nat_tests) in
    ap (λ b. if b then e ∷ x ∷ logs else x ∷ with_log e logs) apart ∙ ap (λ es. x ∷ es) (with_behind e logs all.1)

pub none_there : (n : ℕ) (logs : List LogEntry) → AreUnder n logs → entry_of n logs ≡ None
none_there n [] all = refl
none_there n (x ∷ logs) all =
    let low : x.head.seq < n = all.0 in
    let other : (x.head.seq == n) ≡ false = grind (arith, nat_tests) in
    ap (λ b. if b then Some x else entry_of n logs) other ∙ none_there n logs all.1

are_under : (dbid first : ℕ) (last key : List ℕ) (n : ℕ) (logs : List LogEntry) → n < 2 ^ 32 → is_above last key ≡ true →
    key ≡ be32 n → AllByRecursion (IsLogOf dbid first) logs → AllByRecursion (λ e. LiesBelow last e.head.seq) logs →
    AreUnder n logs
are_under dbid first last key n [] f up is all below = tt
are_under dbid first last key n (x ∷ logs) f up is all below = (
  lies_under last key x.head.seq n all.0.fits.seq f below.0 up is,
  are_under dbid first last key n logs f up is all.1 below.1,
)

all_on : (last key : List ℕ) (logs : List LogEntry) → is_above last key ≡ true → AllByRecursion (λ e. LiesBelow last e.head.seq)
    logs →
    AllByRecursion (λ e. LiesBelow key e.head.seq) logs
all_on last key [] up all = tt
all_on last key (x ∷ logs) up all = (below_on last key x.head.seq up all.0, all_on last key logs up all.1)

-- ---- the log of a pair

no-fault : {F : Type 0} (o : Option F) → no_fault o ≡ true → o ≡ None
no-fault None e = refl
no-fault (Some f) e = absurd (cc)

pub record IsFromPair (i : Identity) (key : List ℕ) (e : LogEntry) : Type 0 where
  pub log : IsLogOf i.dbid i.first e
  pub place : key ≡ be32 e.head.seq

pub log_from : (i : Identity) (key value : List ℕ) (e : LogEntry) → AreBytes key → AreBytes value →
    log_of_pair i (key, value) ≡ Some e → IsFromPair i key e
log_from i key value e f g given =
    let a = when-given ((length key == 4) && (length value == 48) && is_log_of i key value)
    (entry_with (header_in value) (number_in w64 40 value)) e given in
    let good = and-right ((length key == 4) && (length value == 48)) (is_log_of i key value) a.0 in
    let two = and-left ((length key == 4) && (length value == 48)) (is_log_of i key value) a.0 in
    let short = and-left (length key == 4) (length value == 48) two in
    let long : length value ≡ 48 = same_nat (length value) 48 (and-right (length key == 4) (length value == 48) two) in
    let room : nat_le 40 (number_in w64 40 value) ≡ true = and-right (no_fault (header_fault (number_in w32 0 key) value) &&
    nat_le i.first (number_in w32 0 key) && ((header_in value).dbid == i.dbid)) (nat_le 40 (number_in w64 40 value)) good in
    let three : (no_fault (header_fault (number_in w32 0 key) value) && nat_le i.first (number_in w32 0 key)
    && ((header_in value).dbid == i.dbid)) ≡ true = and-left _ _ good in
    let same : (header_in value).dbid ≡ i.dbid = same_nat (header_in value).dbid i.dbid (and-right _ _ three) in
    let two_more : (no_fault (header_fault (number_in w32 0 key) value) && nat_le i.first (number_in w32 0 key)) ≡ true =
    and-left _ _ three in
    let from : nat_le i.first (number_in w32 0 key) ≡ true = and-right _ _ two_more in
    let fault : header_fault (number_in w32 0 key) value ≡ None = no-fault (header_fault (number_in w32 0 key) value)
    (and-left _ _ two_more) in
    let passed = header_passed (number_in w32 0 key) value fault in
    let seq : number_in w32 0 key ≡ (header_in value).seq = sym passed.is in
    let front = header_spelled (number_in w32 0 key) value (bytes_fit value g) passed in
    let rest : drop 40 value ≡ be64 (number_in w64 40 value) =
    sym (take_all 8 (drop 40 value) (omega (arith, long, length-drop 40 value))) ∙
    spelled8 40 value (bytes_fit value g) (omega (arith, long)) in
    let whole : value ≡ header_bytes (header_in value) ++ be64 (number_in w64 40 value) =
    sym (take-append-drop 40 value) ∙ (λ j. front j ++ rest j) in
    let faultless : header_fault (header_in value).seq (header_bytes (header_in value) ++ be64 (number_in w64 40 value)) ≡ None =
    sym (λ j. header_fault (seq j) (whole j)) ∙ fault in
    let low : nat_le i.first (header_in value).seq ≡ true = ap (nat_le i.first) (sym seq) ∙ from in
    subst (IsFromPair i key) a.1 (record {
      log = record {
        fits = header_fits value (bytes_fit value g);
        good = faultless;
        same = same;
        behind = le_of i.first (header_in value).seq low;
        least = le_of 40 (number_in w64 40 value) room;
        room = below64 (drop 40 value) (drop_fits 40 value (bytes_fit value g));
      };
      place = key_number key f short ∙ ap be32 seq;
    })

-- ---- one step

step_none : (a b : Bool) (e : LogEntry) (logs : List LogEntry) → when_true a e ≡ None → when_true (a && b) (logs ++ e ∷ []) ≡ None
step_none true b e logs is = absurd (cc)
step_none false b e logs is = refl

pub no_log : (i : Identity) (key value : List ℕ) (logs : List LogEntry) → log_of_pair i (key, value) ≡ None →
    log_step i logs (key, value) ≡ None
no_log i key value logs is = step_none ((length key == 4) && (length value == 48) && is_log_of i key value)
    (nat_lt (length logs) log_limit)
    (entry_with (header_in value) (number_in w64 40 value)) logs is

step_some : (a b : Bool) (x e : LogEntry) (logs : List LogEntry) → when_true a x ≡ Some e → b ≡ true →
    when_true (a && b) (logs ++ x ∷ []) ≡ Some (logs ++ e ∷ [])
step_some true b x e logs is room =
    let same : x ≡ e = cc in
    ap (λ t. when_true t (logs ++ x ∷ [])) room ∙ ap (λ y. Some (logs ++ y ∷ [])) same
step_some false b x e logs is room = absurd (cc)

pub a_log : (i : Identity) (key value : List ℕ) (e : LogEntry) (logs : List LogEntry) → log_of_pair i (key, value) ≡ Some e →
    length logs < log_limit → log_step i logs (key, value) ≡ Some (logs ++ e ∷ [])
a_log i key value e logs is few =
    let room : nat_lt (length logs) log_limit ≡ true = grind (arith, nat_tests, few) in
    step_some ((length key == 4) && (length value == 48) && is_log_of i key value) (nat_lt (length logs) log_limit)
    (entry_with (header_in value) (number_in w64 40 value)) e logs is room

step_full : (a b : Bool) (xs : List LogEntry) → b ≡ false → when_true (a && b) xs ≡ None
step_full true b xs full = ap (λ t. when_true t xs) full
step_full false b xs full = refl

pub many_logs : (i : Identity) (key value : List ℕ) (logs : List LogEntry) → log_limit ≤ length logs →
    log_step i logs (key, value) ≡ None
many_logs i key value logs many =
    let full : nat_lt (length logs) log_limit ≡ false = grind (arith, nat_tests, many) in
    step_full ((length key == 4) && (length value == 48) && is_log_of i key value) (nat_lt (length logs) log_limit)
    (logs ++ entry_with (header_in value) (number_in w64 40 value) ∷ []) full

-- the sequences of the logs that were read are below that of the next
pub under_next : (i : KeptIdentity) (last key : List ℕ) (count : ℕ) (e : LogEntry) (logs : List LogEntry) →
    AreLogsTo i last count logs → is_above last key ≡ true → IsFromPair (identity_of i) key e → AreUnder e.head.seq logs
under_next i last key count e logs read up from =
    are_under i.dbid i.first last key e.head.seq logs from.log.fits.seq up from.place read.each read.below

-- what was read with one log more
pub one_log_more : (i : KeptIdentity) (last key : List ℕ) (count : ℕ) (e : LogEntry) (logs : List LogEntry) →
    AreLogsTo i last count logs → is_above last key ≡ true → IsFromPair (identity_of i) key e → length logs < log_limit →
    IsRising (logs ++ e ∷ []) → AreLogsTo i key (count + 1) (logs ++ e ∷ [])
one_log_more i last key count e logs read up from few rising =
    let was = read.counted in
    let more : length (logs ++ e ∷ []) ≡ length logs + 1 = length-append logs (e ∷ []) in
    record {
      each = all_append (IsLogOf i.dbid i.first) logs (e ∷ []) read.each (from.log, tt);
      below = all_append (λ x. LiesBelow key x.head.seq) logs (e ∷ []) (all_on last key logs up read.below)
          (below_itself key e.head.seq from.place, tt);
      counted = omega (arith, was, more);
      few = omega (arith, few, more);
      rising = rising;
    }

-- before the first log
pub no_logs_yet : (i : KeptIdentity) (last : List ℕ) (count : ℕ) (logs : List LogEntry) → logs ≡ [] → count ≡ 0 →
    AreLogsTo i last count logs
no_logs_yet i last count logs none wrong =
    subst (λ (es : List LogEntry). AreLogsTo i last count es) (sym none)
    (record { each = tt; below = tt; counted = wrong; few = omega arith; rising = tt })

-- ---- the log of a pair

pub log_taken : (i : KeptIdentity) (last key value : List ℕ) (count : ℕ) (e : LogEntry) (logs next : List LogEntry) →
    AreBytes key →
    AreBytes value → Some e ≡ log_of_pair (identity_of i) (key, value) → AreLogsTo i last count logs → is_above last key ≡ true →
    length logs < log_limit → next ≡ with_log e logs → IsRising next →
    (log_step (identity_of i) logs (key, value) ≡ Some next) × AreLogsTo i key (count + 1) next
log_taken i last key value count e logs next kb vb pair read up room added rising =
    let from = log_from (identity_of i) key value e kb vb (sym pair) in
    let behind : logs ++ e ∷ [] ≡ next =
    sym (added ∙ with_behind e logs (under_next i last key count e logs read up from)) in (
      a_log (identity_of i) key value e logs (sym pair) room ∙ ap (λ xs. Some xs) behind,
      subst (λ (es : List LogEntry). AreLogsTo i key (count + 1) es) behind (one_log_more i last key count e logs read up from
          room (subst IsRising (sym behind) rising)),
    )

pub log_refused : (i : KeptIdentity) (last key value : List ℕ) (count : ℕ) (e : LogEntry) (logs : List LogEntry) → AreBytes key →
    AreBytes value → Some e ≡ log_of_pair (identity_of i) (key, value) → AreLogsTo i last count logs → is_above last key ≡ true →
    ((entry_of e.head.seq logs ≡ None → ⊥) ⊎ (log_limit ≤ length logs)) → log_step (identity_of i) logs (key, value) ≡ None
log_refused i last key value count e logs kb vb pair read up (inl there) =
    absurd (there (none_there e.head.seq logs
    (under_next i last key count e logs read up (log_from (identity_of i) key value e kb vb (sym pair)))))
log_refused i last key value count e logs kb vb pair read up (inr many) = many_logs (identity_of i) key value logs many
