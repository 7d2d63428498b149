-- The log that holds record q: it is registered, the standing behind the record has its header, and the place there names its
-- sequence.
use Rattle.std.proofs.Common.{◌≡◌, ℕ, zero, suc, ◌+◌, ◌-◌, ◌≤◌, ◌<◌, List, [], ◌∷◌, take, drop, length, true, false, refl, sym, ap, ◌∙◌, Option, Some, None, Result, Ok, Err, arith}
use Rattle.std.specs.Prelude.{◌==◌, nat_lt, if◌then◌else◌}
use Rattle.std.specs.Option.{option_map}
use Rattle.std.specs.List.{AllByRecursion}
use Rattle.std.proofs.lemmas.Bool.Decides.{nat_tests}
use Rattle.rl_value.specs.declared.cause.CutFault.{CutFault}
use Rattle.rl_value.specs.declared.verdict.Stop.{Stop}
use Rattle.rl_value.specs.declared.verdict.Stop.TheVariants.{Gap}
use Rattle.redo_vec.specs.declared.redo_rec.RedoRec.{RedoRec}
use Rattle.redo_vec.specs.declared.vector.Vector.{Vector}
use Rattle.redo_vec.specs.Cutting.{first_record}
use Rattle.redo_vec.specs.Reading.{Fault, record_at}
use Rattle.redo_spec.specs.declared.header.Header.{Header}
use Rattle.redo_spec.specs.History.{Entry, History, history_after}
use Rattle.redo_spec.specs.Standing.{Standing, standing_after, standing_after_all, standing_at_record, record_after}
use Rattle.redo_spec.specs.Law.{record_fault, dictionary_left, admitted_or, admission}
use Rattle.redo_spec.specs.Redo.{Redo}
use Rattle.redo_spec.proofs.ListLaws.{all_append}
use Rattle.redo_spec.proofs.AdmissionLaws.{fault_first, fault_later}
use Rattle.redo_wire.specs.declared.raw.Raw.{Raw}
use Rattle.redo_wire.specs.declared.cutting.LogPlace.{LogPlace}
use Rattle.redo_wire.specs.Stream.{cut_off, cut_or, with_raw, raw_of_bytes, log_place_behind}
use Rattle.log_registry.specs.declared.entry.LogEntry.{LogEntry}
use Rattle.log_registry.specs.Registered.{RiseFrom, entry_of, entries_from}
use Rattle.redo_reader.specs.declared.place.Place.{Place}
use Rattle.redo_reader.specs.Ahead.{Ahead, ahead_in, in_log, bytes_or_none, nothing_but, unless_broken, log_begin, cause_of, redo_with, redo_of_raws}
use Rattle.redo_reader.specs.Reading.{place_after_raw}
use Rattle.redo_reader.specs.Behind.{place_after_raws}

-- ---- the standing

-- the header of the last of these records, or this one
abbrev pub last_head : Option Header → List Entry → Option Header
last_head o [] = o
last_head o (e ∷ es) = last_head (Some e.0) es

head_all : (vec : ℕ) (vs : List Vector) (s : Standing) → (standing_after_all vec vs s).head ≡ s.head
head_all vec [] s = refl
head_all vec (v ∷ vs) s = head_all (vec + 1) vs (standing_after vec v s)

head_record : (e : Entry) (s : Standing) → (record_after e s).head ≡ Some e.0
head_record (h, r) s = head_all 1 r.vectors (standing_at_record (h, r) s)

pub head_well : (es : List Entry) (s : Standing) (h : History) → (admission s h es).fault ≡ None →
    (admission s h es).standing.head ≡ last_head s.head es
head_well [] s h e = refl
head_well (x ∷ xs) s h e =
    let s1 = record_after x s in
    let h1 = history_after (s.rec + 1) x h in
    let fits = fault_first (record_fault s x) (dictionary_left s x) s h (admission s1 h1 xs) e in
    let later = fault_later (record_fault s x) (dictionary_left s x) s h (admission s1 h1 xs) e in
    ap (λ o. (admitted_or o (dictionary_left s x) s h (admission s1 h1 xs)).standing.head) fits
    ∙ head_well xs s1 h1 later
    ∙ ap (λ o. last_head o xs) (head_record x s)

-- ---- the records as they are cut off

-- the header, and the sequence, of the last of these, or this one
abbrev pub last_raw_head : Option Header → List Raw → Option Header
last_raw_head o [] = o
last_raw_head o (raw ∷ raws) = last_raw_head (Some raw.head) raws

abbrev pub last_seq : ℕ → List Raw → ℕ
last_seq seq [] = seq
last_seq seq (raw ∷ raws) = last_seq raw.head.seq raws

pub seq_behind : (p : Place) (raws : List Raw) → (place_after_raws p raws).seq ≡ last_seq p.seq raws
seq_behind p [] = refl
seq_behind p (raw ∷ raws) = seq_behind (place_after_raw raw) raws

decoded_head : (q rec : ℕ) (o : Option Header) (raw : Raw) (raws : List Raw) (later : Redo) (r : Result RedoRec Fault) →
    ((k : ℕ) → k ≤ length later.entries → last_head (Some raw.head) (take k later.entries) ≡
    last_raw_head (Some raw.head) (take k raws)) →
    q ≤ length (redo_with raw.head r rec later).entries →
    last_head o (take q (redo_with raw.head r rec later).entries) ≡ last_raw_head o (take q (raw ∷ raws))
decoded_head zero rec o raw raws later r next fits = refl
decoded_head (suc q) rec o raw raws later (Ok r) next fits = next q (omega (arith, fits))
decoded_head (suc q) rec o raw raws later (Err f) next fits = absurd (omega (arith, fits))

-- the records that decode have the headers of those that were cut off
pub heads_decoded : (raws : List Raw) (stop : Stop) (q rec : ℕ) (o : Option Header) →
    q ≤ length (redo_of_raws rec raws stop).entries →
    last_head o (take q (redo_of_raws rec raws stop).entries) ≡ last_raw_head o (take q raws)
heads_decoded [] stop zero rec o fits = refl
heads_decoded [] stop (suc q) rec o fits = absurd (omega (arith, fits))
heads_decoded (raw ∷ raws) stop q rec o fits =
    decoded_head q rec o raw raws (redo_of_raws (rec + 1) raws stop) (record_at raw.bytes)
    (λ k within. heads_decoded raws stop k (rec + 1) (Some raw.head) within) fits

-- ---- they are of registered logs

-- the registered log of its sequence has its header
abbrev pub IsOf : List LogEntry → Raw → Type 0
IsOf registry raw = option_map (λ e. e.head) (entry_of raw.head.seq registry) ≡ Some raw.head

pub head_registered : (registry : List LogEntry) (seq : ℕ) (o : Option Header) (raws : List Raw) →
    AllByRecursion (IsOf registry) raws →
    o ≡ option_map (λ e. e.head) (entry_of seq registry) →
    option_map (λ e. e.head) (entry_of (last_seq seq raws) registry) ≡ last_raw_head o raws
head_registered registry seq o [] of begins = sym begins
head_registered registry seq o (raw ∷ raws) of begins =
    head_registered registry raw.head.seq (Some raw.head) raws of.1 (sym of.0)

pub last_registered : (registry : List LogEntry) (seq : ℕ) (o : Option Header) (raws : List Raw) →
    AllByRecursion (IsOf registry) raws →
    1 ≤ length raws → option_map (λ e. e.head) (entry_of (last_seq seq raws) registry) ≡ last_raw_head o raws
last_registered registry seq o [] of some = absurd (omega (arith, some))
last_registered registry seq o (raw ∷ raws) of some =
    head_registered registry raw.head.seq (Some raw.head) raws of.1 (sym of.0)

-- an entry is found under its own sequence
abbrev pub IsIn : List LogEntry → LogEntry → Type 0
IsIn registry e = entry_of e.head.seq registry ≡ Some e

in_behind : (first : LogEntry) (all es : List LogEntry) (least : ℕ) → first.head.seq < least → RiseFrom least es →
    AllByRecursion (IsIn all) es → AllByRecursion (IsIn (first ∷ all)) es
in_behind first all [] least low rise is = tt
in_behind first all (e ∷ es) least low rise is =
    let above : least ≤ e.head.seq = rise.0 in
    let apart : (first.head.seq == e.head.seq) ≡ false = grind (arith, nat_tests, low, above) in (
      ap (λ b. if b then Some first else entry_of e.head.seq all) apart ∙ is.0,
      in_behind first all es (e.head.seq + 1) (omega (arith, low, above)) rise.1 is.1,
    )

pub all_in : (least : ℕ) (es : List LogEntry) → RiseFrom least es → AllByRecursion (IsIn es) es
all_in least [] rise = tt
all_in least (e ∷ es) rise =
    let same : (e.head.seq == e.head.seq) ≡ true = grind (arith, nat_tests) in (
      ap (λ b. if b then Some e else entry_of e.head.seq es) same,
      in_behind e es es (e.head.seq + 1) (omega arith) rise.1 (all_in (e.head.seq + 1) es rise.1),
    )

pub from_in : (registry : List LogEntry) (seq : ℕ) (es : List LogEntry) → AllByRecursion (IsIn registry) es →
    AllByRecursion (IsIn registry) (entries_from seq es)
from_in registry seq [] is = tt
from_in registry seq (e ∷ es) is =
    elim (nat_lt e.head.seq seq) as (λ b. AllByRecursion (IsIn registry) (if b then entries_from seq es else e ∷ es)) [
      | true ↦ from_in registry seq es is.1
      | false ↦ is
    ]

-- the records of a log have its header
abbrev HasHead : Header → Raw → Type 0
HasHead h raw = raw.head ≡ h

cut_by : (h : Header) (count : ℕ) (p : LogPlace) (bytes : List ℕ) (r : Result (List ℕ × List ℕ) CutFault) →
    ((at : LogPlace) (rest : List ℕ) → AllByRecursion (HasHead h) (cut_off h count at rest).raws) →
    AllByRecursion (HasHead h) (cut_or r p bytes (λ found rest. with_raw (raw_of_bytes h p found)
    (cut_off h count (log_place_behind p found) rest))).raws
cut_by h count p bytes (Err fault) later = tt
cut_by h count p bytes (Ok x) later = (refl, later (log_place_behind p x.0) x.1)

cut_heads : (h : Header) (count : ℕ) (p : LogPlace) (bytes : List ℕ) → AllByRecursion (HasHead h) (cut_off h count p bytes).raws
cut_heads h zero p [] = tt
cut_heads h zero p (b ∷ bytes) = tt
cut_heads h (suc count) p bytes = cut_by h count p bytes (first_record bytes) (λ at rest. cut_heads h count at rest)

of_log : (registry : List LogEntry) (e : LogEntry) (raws : List Raw) → IsIn registry e → AllByRecursion (HasHead e.head) raws →
    AllByRecursion (IsOf registry) raws
of_log registry e [] is heads = tt
of_log registry e (raw ∷ raws) is heads =
    let found : entry_of raw.head.seq registry ≡ Some e = ap (λ (h : Header). entry_of h.seq registry) heads.0 ∙ is in (
      ap (option_map (λ (x : LogEntry). x.head)) found ∙ ap Some (sym heads.0),
      of_log registry e raws is heads.1,
    )

of_unbroken : (registry : List LogEntry) (fault : Option CutFault) (rec : ℕ) (later : Ahead) →
    AllByRecursion (IsOf registry) later.raws → AllByRecursion (IsOf registry) (unless_broken fault rec later).raws
of_unbroken registry None rec later of = of
of_unbroken registry (Some fault) rec later of = tt

of_one : (registry : List LogEntry) (e : LogEntry) (p : LogPlace) (bytes : List ℕ) (later : ℕ → Ahead) → IsIn registry e →
    ((rec : ℕ) → AllByRecursion (IsOf registry) (later rec).raws) →
    AllByRecursion (IsOf registry) (in_log e.head p bytes later).raws
of_one registry e p bytes later is next =
    let c = cut_off e.head (e.head.count - p.done) p (drop p.at bytes) in
    all_append (IsOf registry) c.raws (unless_broken (cause_of e.head c) c.place.rec (later (c.place.rec - 1))).raws
    (of_log registry e c.raws is (cut_heads e.head (e.head.count - p.done) p (drop p.at bytes)))
    (of_unbroken registry (cause_of e.head c) c.place.rec (later (c.place.rec - 1)) (next (c.place.rec - 1)))

pub of_registry : (logs : ℕ → Option (List ℕ)) (registry : List LogEntry) (seq : ℕ) (p : LogPlace) (es : List LogEntry) →
    AllByRecursion (IsIn registry) es → AllByRecursion (IsOf registry) (ahead_in logs seq p es).raws
of_registry logs registry seq p [] is = tt
of_registry logs registry seq p (e ∷ es) is =
    elim (e.head.seq == seq) as (λ b. AllByRecursion (IsOf registry)
    (if b then in_log e.head p (bytes_or_none (logs seq)) (λ rec. ahead_in logs (seq + 1) (log_begin rec) es) else
    nothing_but (Gap seq (e.head.seq - 1))).raws) [
      | true ↦ of_one registry e p (bytes_or_none (logs seq)) (λ rec. ahead_in logs (seq + 1) (log_begin rec) es) is.0
          (λ rec. of_registry logs registry (seq + 1) (log_begin rec) es is.1)
      | false ↦ tt
    ]
