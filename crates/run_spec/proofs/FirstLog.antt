-- The dictionary of a standby's redo is that of its first log: no record of a later log is taken before it is whole.
use Rattle.std.proofs.Common.{◌≡◌, ℕ, zero, suc, ◌+◌, ◌-◌, ◌≤◌, ◌<◌, List, [], ◌∷◌, ◌++◌, drop, length, Bool, true, false, not, refl, sym, ap, ◌∙◌, subst, Option, Some, None, Result, Ok, Err, arith}
use Rattle.std.specs.Prelude.{◌==◌, ◌&&◌, ◌||◌, nat_lt, if◌then◌else◌}
use Rattle.std.specs.List.{AllByRecursion}
use Rattle.std.proofs.lemmas.Bool.Decides.{nat_tests}
use Rattle.rl_value.specs.declared.cause.HeadFault.{HeadFault}
use Rattle.rl_value.specs.declared.cause.CutFault.{CutFault}
use Rattle.rl_value.specs.declared.cause.Cause.{Cause}
use Rattle.redo_vec.specs.declared.vector.Vector.{Vector}
use Rattle.redo_vec.specs.declared.redo_rec.RedoRec.{RedoRec}
use Rattle.redo_vec.specs.Cutting.{first_record as first_cut}
use Rattle.redo_vec.specs.Reading.{Fault, record_at}
use Rattle.redo_spec.specs.declared.header.Header.{Header}
use Rattle.redo_spec.specs.LogHeader.{header_in, header_fault}
use Rattle.redo_spec.specs.Dictionary.{is_of_dictionary}
use Rattle.redo_spec.specs.History.{Entry, History, no_history, history_after}
use Rattle.redo_spec.specs.Standing.{Standing, beginning, standing_after_all, standing_at_record, record_after}
use Rattle.redo_spec.specs.Law.{dictionary_fault, vector_fault, vectors_fault, whole_fault, record_fault, dictionary_left, admitted_or, admission}
use Rattle.redo_spec.specs.Redo.{Redo, Records, records_in, records_of, records_of_cut, decoded_or, redo_behind, redo_after_records, redo_ended_by, redo_from}
use Rattle.redo_spec.proofs.ListLaws.{all_append}
use Rattle.rl_value.specs.declared.verdict.Stop.TheVariants.{Gap}
use Rattle.log_registry.specs.declared.entry.LogEntry.{LogEntry}
use Rattle.log_registry.specs.declared.fault.RegFault.{RegFault}
use Rattle.log_registry.specs.declared.fault.RegFault.TheVariants as refusals
use Rattle.log_registry.specs.Registered.{of_database, entry_unless_refused, answer_of_inspect, AreToldBy, RiseFrom, IsRising, entry_of, entries_from}
use Rattle.redo_reader.specs.Ahead.{bytes_or_none, told_logs}
use Rattle.redo_reader.proofs.RedoLaws.{are_from}
use Rattle.primary.proofs.DictionaryLaws.{record_keeps}
use Rattle.primary.proofs.FitLaws.{none_first, none_second, no_fault}
use Rattle.standby_spec.specs.StandbyRedo.{Archived}
use Rattle.run_spec.specs.Created.{dictionary_by}
use Rattle.run_spec.proofs.Starting.{first_record}

-- ---- a record of another log

not-taken : (finished same own : Bool) → finished ≡ false → same ≡ false →
    ((finished && own) || (not finished && not own) || (not finished && not same)) ≡ false → ⊥
not-taken true same own part apart e = absurd (cc)
not-taken false true own part apart e = absurd (cc)
not-taken false false true part apart e = absurd (cc)
not-taken false false false part apart e = absurd (cc)

late-vectors : (h : Header) (vs : List Vector) (s : Standing) → vectors_fault h 1 vs s ≡ None → (h.seq == s.first) ≡ false →
    s.dictionary.finished ≡ false → (standing_after_all 1 vs s).dictionary ≡ s.dictionary
late-vectors h [] s fits apart part = refl
late-vectors h (v ∷ vs) s fits apart part =
    absurd (not-taken s.dictionary.finished (h.seq == s.first) (is_of_dictionary v) part apart
    (no_fault _ _ (none_first (dictionary_fault h s v) _ (none_first (vector_fault h s v) _ fits))))

late-part : (e : Entry) (s : Standing) → record_fault s e ≡ None → (e.0.seq == s.first) ≡ false →
    s.dictionary.finished ≡ false → (record_after e s).dictionary ≡ s.dictionary
late-part (h, r) s fits apart part =
    late-vectors h r.vectors (standing_at_record (h, r) s) (none_second (whole_fault s (h, r)) _ fits) apart part

late-record : (e : Entry) (s : Standing) → record_fault s e ≡ None → (e.0.seq == s.first) ≡ false →
    (record_after e s).dictionary ≡ s.dictionary
late-record e s fits apart =
    elim s.dictionary.finished as (λ w. s.dictionary.finished ≡ w → (record_after e s).dictionary ≡ s.dictionary) [
      | true ↦ λ whole. record_keeps e s fits whole
      | false ↦ λ part. late-part e s fits apart part
    ] refl

-- ---- records of other logs

-- a record of a log of another sequence
abbrev pub IsLate : ℕ → Entry → Type 0
IsLate first e = (e.0.seq == first) ≡ false

late-all : (es : List Entry) (s : Standing) (h : History) → AllByRecursion (IsLate s.first) es →
    (admission s h es).standing.dictionary ≡ s.dictionary
late-all [] s h late = refl
late-all (e ∷ es) s h late =
    elim (record_fault s e) as (λ o. record_fault s e ≡ o → (admitted_or o (dictionary_left s e) s h
    (admission (record_after e s) (history_after (s.rec + 1) e h) es)).standing.dictionary ≡ s.dictionary) [
      | Some fault ↦ λ is. refl
      | None ↦ λ fits.
          late-all es (record_after e s) (history_after (s.rec + 1) e h)
          (subst (λ (f : ℕ). AllByRecursion (IsLate f) es) (sym (first_record e s)) late.1)
          ∙ late-record e s fits late.0
    ] refl

late-append : (xs ys : List Entry) (s : Standing) (h : History) → AllByRecursion (IsLate s.first) ys →
    (admission s h (xs ++ ys)).standing.dictionary ≡ (admission s h xs).standing.dictionary
late-append [] ys s h late = late-all ys s h late
late-append (x ∷ xs) ys s h late =
    let s1 = record_after x s in
    let h1 = history_after (s.rec + 1) x h in
    elim (record_fault s x) as (λ o.
    (admitted_or o (dictionary_left s x) s h (admission s1 h1 (xs ++ ys))).standing.dictionary ≡
    (admitted_or o (dictionary_left s x) s h (admission s1 h1 xs)).standing.dictionary) [
      | Some fault ↦ refl
      | None ↦ late-append xs ys s1 h1 (subst (λ (f : ℕ). AllByRecursion (IsLate f) ys) (sym (first_record x s)) late)
    ]

-- ---- the records of later logs

decoded-late : (h : Header) (first : ℕ) (r : Result RedoRec Fault) (later : Records) → (h.seq == first) ≡ false →
    AllByRecursion (IsLate first) later.entries → AllByRecursion (IsLate first) (decoded_or h r later).entries
decoded-late h first (Err fault) later apart late = tt
decoded-late h first (Ok r) later apart late = (apart, late)

cut-late : (h : Header) (first count : ℕ) (r : Result (List ℕ × List ℕ) CutFault) → (h.seq == first) ≡ false →
    ((rest : List ℕ) → AllByRecursion (IsLate first) (records_in h count rest).entries) →
    AllByRecursion (IsLate first) (records_of_cut r (λ cut rest. decoded_or h (record_at cut) (records_in h count rest))).entries
cut-late h first count (Err fault) apart later = tt
cut-late h first count (Ok cut) apart later =
    decoded-late h first (record_at cut.0) (records_in h count cut.1) apart (later cut.1)

records-late : (h : Header) (first count : ℕ) (bytes : List ℕ) → (h.seq == first) ≡ false →
    AllByRecursion (IsLate first) (records_in h count bytes).entries
records-late h first zero [] apart = tt
records-late h first zero (b ∷ bytes) apart = tt
records-late h first (suc count) bytes apart =
    cut-late h first count (first_cut bytes) apart (λ rest. records-late h first count rest apart)

behind-late : (first : ℕ) (cause : Option Cause) (rec : ℕ) (entries : List Entry) (later : Redo) →
    AllByRecursion (IsLate first) entries → AllByRecursion (IsLate first) later.entries →
    AllByRecursion (IsLate first) (redo_behind cause rec entries later).entries
behind-late first None rec entries later own late = all_append (IsLate first) entries later.entries own late
behind-late first (Some cause) rec entries later own late = own

-- the header of an entry is that of its log
abbrev head-in : Header → Result LogEntry RegFault → Header
head-in h (Ok e) = e.head
head-in h (Err fault) = h

database-head : (b : Bool) (h : Header) (size : ℕ) (e : LogEntry) → let x : LogEntry =
    record { head = h; length = size } in let good : Result LogEntry RegFault =
    Ok x in (if b then good else Err refusals.WrongDb) ≡ Ok e → h ≡ e.head
database-head true h size e is = ap (λ (r : Result LogEntry RegFault). head-in h r) is
database-head false h size e is = absurd (cc)

inspected-head : (o : Option HeadFault) (dbid : ℕ) (h : Header) (size : ℕ) (e : LogEntry) →
    entry_unless_refused o (of_database dbid h size) ≡ Ok e → h ≡ e.head
inspected-head (Some fault) dbid h size e is = absurd (cc)
inspected-head None dbid h size e is = database-head (h.dbid == dbid) h size e is

pub told-head : (e : LogEntry) (found : Option (List ℕ)) → answer_of_inspect e.head.seq e.head.dbid found ≡ Ok e →
    header_in (bytes_or_none found) ≡ e.head
told-head e None is = absurd (cc)
told-head e (Some bytes) is =
    inspected-head (header_fault e.head.seq bytes) e.head.dbid (header_in bytes) (length bytes) e is

apart-from : (first seq at : ℕ) (found : Header) → found.seq ≡ at → (at == seq) ≡ true → first < seq →
    (found.seq == first) ≡ false
apart-from first seq at found is same past = grind (arith, nat_tests, is, same, past)

-- the records of logs that come behind the first one
later-logs : (logs : Archived) (first seq rec : ℕ) (es : List LogEntry) → AreToldBy logs es → first < seq →
    AllByRecursion (IsLate first) (redo_from seq rec (told_logs logs es)).entries
later-logs logs first seq rec [] told past = tt
later-logs logs first seq rec (e ∷ es) told past =
    let bytes = bytes_or_none (logs e.head.seq) in
    let r = records_of bytes in
    let head : header_in bytes ≡ e.head = told-head e (logs e.head.seq) told.0 in
    elim (e.head.seq == seq) as (λ b. (e.head.seq == seq) ≡ b → AllByRecursion (IsLate first)
    (if b then redo_after_records rec r (redo_from (seq + 1) (rec + length r.entries) (told_logs logs es))
    else redo_ended_by (Gap seq (e.head.seq - 1))).entries) [
      | true ↦ λ is.
          behind-late first r.cause rec r.entries (redo_from (seq + 1) (rec + length r.entries) (told_logs logs es))
          (records-late (header_in bytes) first (header_in bytes).count (drop 40 bytes)
          (apart-from first seq e.head.seq (header_in bytes) (ap (λ (h : Header). h.seq) head) is past))
          (later-logs logs first (seq + 1) (rec + length r.entries) es told.1 (omega (arith, past)))
      | false ↦ λ is. tt
    ] refl

-- ---- the first log

-- the registered logs from the first one on begin with it
record BeginsWith (seq : ℕ) (es : List LogEntry) (e : LogEntry) : Type 0 where
  rest : List LogEntry
  is : entries_from seq es ≡ e ∷ rest

found-seq : (seq : ℕ) (es : List LogEntry) (e : LogEntry) → entry_of seq es ≡ Some e → e.head.seq ≡ seq
found-seq seq [] e is = absurd (cc)
found-seq seq (x ∷ xs) e is =
    elim (x.head.seq == seq) as (λ b. (x.head.seq == seq) ≡ b → (if b then Some x else entry_of seq xs) ≡ Some e →
    e.head.seq ≡ seq) [
      | true ↦ λ at given.
          let same : x ≡ e = cc in
          let here : x.head.seq ≡ seq = grind (arith, nat_tests, at) in
          ap (λ (y : LogEntry). y.head.seq) (sym same) ∙ here
      | false ↦ λ at given. found-seq seq xs e given
    ] refl is

found-above : (least seq : ℕ) (es : List LogEntry) (e : LogEntry) → RiseFrom least es → entry_of seq es ≡ Some e → least ≤ seq
found-above least seq [] e rise is = absurd (cc)
found-above least seq (x ∷ xs) e rise is =
    let low = rise.0 in
    elim (x.head.seq == seq) as (λ b. (x.head.seq == seq) ≡ b → (if b then Some x else entry_of seq xs) ≡ Some e →
    least ≤ seq) [
      | true ↦ λ at given. grind (arith, nat_tests, at, low)
      | false ↦ λ at given. let above = found-above (x.head.seq + 1) seq xs e rise.1 given in omega (arith, above, low)
    ] refl is

begins-with : (least seq : ℕ) (es : List LogEntry) (e : LogEntry) → RiseFrom least es → entry_of seq es ≡ Some e →
    BeginsWith seq es e
begins-with least seq [] e rise is = absurd (cc)
begins-with least seq (x ∷ xs) e rise is =
    elim (x.head.seq == seq) as (λ b. (x.head.seq == seq) ≡ b → (if b then Some x else entry_of seq xs) ≡ Some e →
    BeginsWith seq (x ∷ xs) e) [
      | true ↦ λ at given.
          let same : x ≡ e = cc in
          let here : nat_lt x.head.seq seq ≡ false = grind (arith, nat_tests, at) in
          record {
            rest = xs;
            is = ap (λ b. if b then entries_from seq xs else x ∷ xs) here ∙ ap (λ (y : LogEntry). y ∷ xs) same;
          }
      | false ↦ λ at given.
          let above = found-above (x.head.seq + 1) seq xs e rise.1 given in
          let later = begins-with (x.head.seq + 1) seq xs e rise.1 given in
          let before : nat_lt x.head.seq seq ≡ true = grind (arith, nat_tests, above) in
          record {
            rest = later.rest;
            is = ap (λ b. if b then entries_from seq xs else x ∷ xs) before ∙ later.is;
          }
    ] refl is

behind-first : (first base : ℕ) (cause : Option Cause) (entries : List Entry) (later : Redo) →
    AllByRecursion (IsLate first) later.entries →
    dictionary_by first base (redo_behind cause 0 entries later).entries ≡ dictionary_by first base entries
behind-first first base None entries later late =
    late-append entries later.entries (beginning first base) (no_history 0) late
behind-first first base (Some cause) entries later late = refl

of-first : (logs : Archived) (first base : ℕ) (e : LogEntry) (rest : List LogEntry) → AreToldBy logs (e ∷ rest) →
    e.head.seq ≡ first →
    dictionary_by first base (redo_from first 0 (told_logs logs (e ∷ rest))).entries ≡
    dictionary_by first base (records_of (bytes_or_none (logs first))).entries
of-first logs first base e rest told seq =
    let bytes = bytes_or_none (logs e.head.seq) in
    let r = records_of bytes in
    let later = redo_from (first + 1) (0 + length r.entries) (told_logs logs rest) in
    let same : (e.head.seq == first) ≡ true = grind (arith, nat_tests, seq) in
    ap (λ b. dictionary_by first base
    (if b then redo_after_records 0 r later else redo_ended_by (Gap first (e.head.seq - 1))).entries) same
    ∙ behind-first first base r.cause r.entries later
    (later-logs logs first (first + 1) (0 + length r.entries) rest told.1 (omega arith))
    ∙ ap (λ (k : ℕ). dictionary_by first base (records_of (bytes_or_none (logs k))).entries) seq

-- the dictionary of the redo of registered logs is that of the first of them
pub first-log : (logs : Archived) (first base : ℕ) (es : List LogEntry) (e : LogEntry) → AreToldBy logs es → IsRising es →
    entry_of first es ≡ Some e →
    dictionary_by first base (redo_from first 0 (told_logs logs (entries_from first es))).entries ≡
    dictionary_by first base (records_of (bytes_or_none (logs first))).entries
first-log logs first base es e told rise found =
    let b = begins-with 0 first es e rise found in
    ap (λ (l : List LogEntry). dictionary_by first base (redo_from first 0 (told_logs logs l)).entries) b.is
    ∙ of-first logs first base e b.rest (subst (AreToldBy logs) b.is (are_from logs es first told)) (found-seq first es e found)
