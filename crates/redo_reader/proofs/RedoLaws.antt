-- What is ahead of a log's first record, decoded, is the redo from there on.
use Rattle.std.proofs.Common.{◌≡◌, ℕ, zero, suc, ◌-◌, ◌+◌, ◌≤◌, Bool, true, false, List, [], ◌∷◌, ◌++◌, length, drop, Option, Some, None, Result, Ok, Err, refl, sym, ap, ◌∙◌, arith}
use Rattle.std.specs.Prelude.{◌==◌, if◌then◌else◌, nat_lt}
use Rattle.std.specs.Option.{option_or}
use Rattle.std.specs.List.{concat}
use Rattle.std.proofs.lemmas.List.{append-nil}
use Rattle.std.proofs.lemmas.Bool.Decides.{nat_tests}
use Rattle.rl_value.specs.declared.cause.HeadFault.{HeadFault}
use Rattle.rl_value.specs.declared.cause.CutFault.{CutFault}
use Rattle.rl_value.specs.declared.cause.Cause.{Cause}
use Rattle.rl_value.specs.declared.cause.Cause.TheVariants.{Cut as CutCause, Vector}
use Rattle.rl_value.specs.declared.verdict.Stop.TheVariants.{Gap, Malformed}
use Rattle.redo_vec.specs.declared.redo_rec.RedoRec.{RedoRec}
use Rattle.redo_vec.specs.Cutting.{first_record}
use Rattle.redo_vec.specs.Reading.{Fault, record_at}
use Rattle.redo_spec.specs.declared.header.Header.{Header}
use Rattle.redo_spec.specs.LogHeader.{header_in, header_fault}
use Rattle.redo_spec.specs.History.{Entry}
use Rattle.redo_spec.specs.Redo.{Redo, Records, redo_ended_by, redo_behind, redo_after_records, records_in, records_of, redo_from, decoded_or as entry_or}
use Rattle.redo_wire.specs.declared.header.TheConstants.{HEADER_LENGTH}
use Rattle.redo_wire.specs.declared.raw.Raw.{Raw}
use Rattle.redo_wire.specs.declared.cutting.LogPlace.{LogPlace}
use Rattle.redo_wire.specs.Stream.{Cut, Run, cut_off, cut_or, with_raw, raw_of_bytes, log_place_behind, run_of, stream_at, as_cut, end_fault}
use Rattle.redo_wire.specs.Records.{missing_after, records_of_raws as entries_of_raws}
use Rattle.log_registry.specs.declared.entry.LogEntry.{LogEntry}
use Rattle.log_registry.specs.declared.fault.RegFault.{RegFault}
use Rattle.log_registry.specs.declared.fault.RegFault.TheVariants as refusals
use Rattle.log_registry.specs.Registered.{AreToldBy, entries_from, answer_of_inspect, of_database, entry_unless_refused}
use Rattle.redo_reader.specs.Ahead.{Ahead, bytes_or_none, nothing_but, raws_before, unless_broken, cause_of, log_begin, in_log, ahead_in, redo_with, redo_of_raws, redo_of, redo_ahead, told_logs, first_place}

-- ---- the place behind a cut

cut_counts : (h : Header) (k : ℕ) (p : LogPlace) (bytes : List ℕ) →
    ((q : LogPlace) (rest : List ℕ) → (cut_off h k q rest).place.rec ≡ q.rec + length (cut_off h k q rest).raws) →
    (r : Result (List ℕ × List ℕ) CutFault)
    → let c = cut_or r p bytes (λ found rest. with_raw (raw_of_bytes h p found) (cut_off h k (log_place_behind p found) rest)) in
    c.place.rec ≡ p.rec + length c.raws
cut_counts h k p bytes later (Err fault) = omega arith
cut_counts h k p bytes later (Ok x) = later (log_place_behind p x.0) x.1 ∙ omega arith

-- a cut counts its records
counted : (h : Header) (k : ℕ) (p : LogPlace) (bytes : List ℕ) →
    (cut_off h k p bytes).place.rec ≡ p.rec + length (cut_off h k p bytes).raws
counted h zero p [] = omega arith
counted h zero p (b ∷ bytes) = omega arith
counted h (suc k) p bytes = cut_counts h k p bytes (counted h k) (first_record bytes)

-- ---- records and then what comes later

-- with an entry before
abbrev with_first : Entry → Redo → Redo
with_first e r = record { entries = e ∷ r.entries; stop = r.stop }

joined_first : (cause : Option Cause) (rec : ℕ) (e : Entry) (entries : List Entry) (later : Redo) →
    with_first e (redo_behind cause (rec + 1) entries later) ≡ redo_behind cause rec (e ∷ entries) later
joined_first None rec e entries later = refl
joined_first (Some cause) rec e entries later =
    let same : rec + 1 + length entries + 1 ≡ rec + length (e ∷ entries) + 1 = omega arith in
    ap (λ (n : ℕ). record { entries = e ∷ entries; stop = Malformed n cause }) same

abbrev Later : Option CutFault → ℕ → ℕ → Ahead → List Raw → Type 0
Later fault n rec later raws = redo_of_raws rec (raws ++ (unless_broken fault n later).raws) (unless_broken fault n later).stop ≡
    redo_after_records rec (entries_of_raws raws fault) (redo_of (rec + length raws) later)

follows : (h : Header) (fault : Option CutFault) (n rec : ℕ) (later : Ahead) (raws : List Raw) (r : Result RedoRec Fault) →
    Later fault n (rec + 1) later raws → (raw : Raw)
    → redo_with h r rec (redo_of_raws (rec + 1) (raws ++ (unless_broken fault n later).raws) (unless_broken fault n later).stop) ≡
    redo_after_records rec (entry_or h r (entries_of_raws raws fault)) (redo_of (rec + length (raw ∷ raws)) later)
follows h fault n rec later raws (Err f) e raw =
    let same : rec + 1 ≡ rec + 0 + 1 = omega arith in
    ap (λ (k : ℕ). redo_ended_by (Malformed k (Vector f.fault f.place))) same
follows h fault n rec later raws (Ok r) e raw =
    let same : rec + 1 + length raws ≡ rec + length (raw ∷ raws) = omega arith in
    let d : Records = entries_of_raws raws fault in
    ap (with_first (h, r)) e
    ∙ joined_first d.cause rec (h, r) d.entries (redo_of (rec + 1 + length raws) later)
    ∙ ap (λ (k : ℕ). redo_behind d.cause rec ((h, r) ∷ d.entries) (redo_of k later)) same

-- cut records of a log and then the later ones, decoded
decoded_after : (fault : Option CutFault) (n rec : ℕ) (later : Ahead) (raws : List Raw) → n ≡ rec + length raws + 1 →
    Later fault n rec later raws
decoded_after None n rec later [] e =
    let same : rec ≡ rec + 0 = omega arith in
    ap (λ (k : ℕ). redo_of k later) same
decoded_after (Some fault) n rec later [] e = ap (λ (k : ℕ). redo_ended_by (Malformed k (CutCause fault))) e
decoded_after fault n rec later (raw ∷ raws) e = follows raw.head fault n rec later raws (record_at raw.bytes)
    (decoded_after fault n (rec + 1) later raws (omega arith)) raw

-- ---- one log

one_decodes : (h : Header) (fault : Option CutFault) (raws : List Raw) (r : Result RedoRec Fault) →
    (entry_or h r (entries_of_raws raws fault)).cause ≡ None →
    ((entries_of_raws raws fault).cause ≡ None → length (entries_of_raws raws fault).entries ≡ length raws)
    → length (entry_or h r (entries_of_raws raws fault)).entries ≡ suc (length raws)
one_decodes h fault raws (Err f) e later = absurd cc
one_decodes h fault raws (Ok r) e later = ap suc (later e)

-- with no fault as many records decode as were cut
all_decode : (fault : Option CutFault) (raws : List Raw) → (entries_of_raws raws fault).cause ≡ None →
    length (entries_of_raws raws fault).entries ≡ length raws
all_decode None [] e = refl
all_decode (Some fault) [] e = absurd cc
all_decode fault (raw ∷ raws) e = one_decodes raw.head fault raws (record_at raw.bytes) e (all_decode fault raws)

-- later records count only where no fault ends those before
only_without_fault : (cause : Option Cause) (rec : ℕ) (entries : List Entry) (a b : Redo) → (cause ≡ None → a ≡ b) →
    redo_behind cause rec entries a ≡ redo_behind cause rec entries b
only_without_fault None rec entries a b e = ap (λ (r : Redo). redo_behind None rec entries r) (e refl)
only_without_fault (Some cause) rec entries a b e = refl

-- what a cutter promises of all of a log's bytes: the laws of its pieces, for one piece
pub record CutterLaws : Type 0 where
  pub pieces : (h : Header) (rec at done : ℕ) (pieces : List (List ℕ)) →
      as_cut (run_of (stream_at h rec at done) pieces) ≡
      cut_off h (h.count - done) (record { rec = rec; at = at; done = done }) (concat pieces)
  pub end : (h : Header) (rec at done : ℕ) (pieces : List (List ℕ)) →
      end_fault (run_of (stream_at h rec at done) pieces).stream ≡
      missing_after h (cut_off h (h.count - done) (record { rec = rec; at = at; done = done }) (concat pieces))
  pub records : (h : Header) (rec at done : ℕ) (pieces : List (List ℕ)) → done ≤ h.count → let run =
      run_of (stream_at h rec at done) pieces in records_in h (h.count - done) (concat pieces) ≡
      entries_of_raws run.raws (option_or run.cause (end_fault run.stream))

-- the records of a log are those that are cut off it, decoded
records_cut : CutterLaws → (h : Header) (rec : ℕ) (bytes : List ℕ) → let c =
    cut_off h (h.count - 0) (log_begin rec) bytes in records_in h h.count bytes ≡ entries_of_raws c.raws (cause_of h c)
records_cut laws h rec bytes =
    let r : Run = run_of (stream_at h (rec + 1) HEADER_LENGTH 0) (bytes ∷ []) in
    let c : Cut = cut_off h (h.count - 0) (log_begin rec) (concat (bytes ∷ [])) in
    let whole : h.count - 0 ≡ h.count = omega arith in
    let one : concat (bytes ∷ []) ≡ bytes = append-nil bytes in
    let cut : as_cut r ≡ c = laws.pieces h (rec + 1) HEADER_LENGTH 0 (bytes ∷ []) in
    let end : end_fault r.stream ≡ missing_after h c = laws.end h (rec + 1) HEADER_LENGTH 0 (bytes ∷ []) in
    let all : records_in h (h.count - 0) (concat (bytes ∷ [])) ≡ entries_of_raws r.raws (option_or r.cause (end_fault r.stream)) =
    laws.records h (rec + 1) HEADER_LENGTH 0 (bytes ∷ []) (omega arith) in
    ap (λ (k : ℕ). records_in h k bytes) (sym whole)
    ∙ ap (λ (b : List ℕ). records_in h (h.count - 0) b) (sym one)
    ∙ all
    ∙ ap (λ (f : Option CutFault). entries_of_raws r.raws (option_or r.cause f)) end
    ∙ ap (λ (d : Cut). entries_of_raws d.raws (option_or d.cause (missing_after h c))) cut
    ∙ ap (λ (b : List ℕ). let d = cut_off h (h.count - 0) (log_begin rec) b in entries_of_raws d.raws (cause_of h d)) one

-- what a log gives and then the later ones, decoded
log_decoded : CutterLaws → (h : Header) (rec : ℕ) (bytes : List ℕ) (later : ℕ → Ahead) (logs : ℕ → Redo) →
    ((k : ℕ) → redo_of k (later k) ≡ logs k)
    → redo_of rec (in_log h (log_begin rec) bytes later) ≡
    (let r = records_in h h.count (drop HEADER_LENGTH bytes) in redo_after_records rec r (logs (rec + length r.entries)))
log_decoded laws h rec bytes later logs e =
    let c : Cut = cut_off h (h.count - 0) (log_begin rec) (drop HEADER_LENGTH bytes) in
    let r : Records = entries_of_raws c.raws (cause_of h c) in
    let place : c.place.rec ≡ rec + 1 + length c.raws = counted h (h.count - 0) (log_begin rec) (drop HEADER_LENGTH bytes) in
    let number : c.place.rec ≡ rec + length c.raws + 1 = place ∙ omega arith in
    let behind : c.place.rec - 1 ≡ rec + length c.raws = omega arith in
    let same : records_in h h.count (drop HEADER_LENGTH bytes) ≡ r = records_cut laws h rec (drop HEADER_LENGTH bytes) in
    ap (λ (k : ℕ). redo_of rec (raws_before c.raws (unless_broken (cause_of h c) c.place.rec (later k)))) behind
    ∙ decoded_after (cause_of h c) c.place.rec rec (later (rec + length c.raws)) c.raws number
    ∙ ap (redo_after_records rec r) (e (rec + length c.raws))
    ∙ only_without_fault r.cause rec r.entries (logs (rec + length c.raws)) (logs (rec + length r.entries))
    (λ none. ap (λ (k : ℕ). logs (rec + k)) (sym (all_decode (cause_of h c) c.raws none)))
    ∙ ap (λ (q : Records). redo_after_records rec q (logs (rec + length q.entries))) (sym same)

-- ---- all logs

-- the header of an entry that was found
abbrev head_in : Header → Result LogEntry RegFault → Header
head_in h (Ok e) = e.head
head_in h (Err fault) = h

of_one : (b : Bool) (h : Header) (size : ℕ) (e : LogEntry) → let x : LogEntry =
    record { head = h; length = size } in let good : Result LogEntry RegFault =
    Ok x in (if b then good else Err refusals.WrongDb) ≡ Ok e → h ≡ e.head
of_one true h size e is = ap (λ (r : Result LogEntry RegFault). head_in h r) is
of_one false h size e is = absurd cc

-- the header of an entry is that of its log
header_told : (fault : Option HeadFault) (dbid : ℕ) (h : Header) (size : ℕ) (e : LogEntry) →
    entry_unless_refused fault (of_database dbid h size) ≡ Ok e → h ≡ e.head
header_told (Some fault) dbid h size e is = absurd cc
header_told None dbid h size e is = of_one (h.dbid == dbid) h size e is

head_of : (logs : ℕ → Option (List ℕ)) (e : LogEntry) (found : Option (List ℕ)) →
    answer_of_inspect e.head.seq e.head.dbid found ≡ Ok e → header_in (bytes_or_none found) ≡ e.head
head_of logs e None is = absurd cc
head_of logs e (Some bytes) is = header_told (header_fault e.head.seq bytes) e.head.dbid (header_in bytes) (length bytes) e is

either : {R : Type 0} → (b : Bool) (x y other : R) → (b ≡ true → x ≡ y) → (if b then x else other) ≡ (if b then y else other)
either true x y other e = e refl
either false x y other e = refl

equal : (a b : ℕ) → (a == b) ≡ true → a ≡ b
equal a b e = grind (arith, nat_tests)

spread : (b : Bool) (rec : ℕ) (a other : Ahead) → redo_of rec (if b then a else other) ≡
    (if b then redo_of rec a else redo_of rec other)
spread true rec a other = refl
spread false rec a other = refl

kept_or : (b : Bool) (logs : ℕ → Option (List ℕ)) (a c : List LogEntry) → AreToldBy logs a → AreToldBy logs c →
    AreToldBy logs (if b then a else c)
kept_or true logs a c x y = x
kept_or false logs a c x y = y

-- the registered logs from this sequence on, decoded
pub decoded_logs : CutterLaws → (logs : ℕ → Option (List ℕ)) (entries : List LogEntry) (seq rec : ℕ) → AreToldBy logs entries →
    redo_of rec (ahead_in logs seq (log_begin rec) entries) ≡ redo_from seq rec (told_logs logs entries)
decoded_logs laws logs [] seq rec are = refl
decoded_logs laws logs (e ∷ entries) seq rec are =
    let bytes : List ℕ = bytes_or_none (logs e.head.seq) in
    let later : ℕ → Redo = λ k. redo_from (seq + 1) k (told_logs logs entries) in
    let head : header_in bytes ≡ e.head = head_of logs e (logs e.head.seq) are.0 in
    spread (e.head.seq == seq) rec (in_log e.head (log_begin rec) (bytes_or_none (logs seq))
    (λ k. ahead_in logs (seq + 1) (log_begin k) entries)) (nothing_but (Gap seq (e.head.seq - 1)))
    ∙ either (e.head.seq == seq) (redo_of rec (in_log e.head (log_begin rec) (bytes_or_none (logs seq))
    (λ k. ahead_in logs (seq + 1) (log_begin k) entries)))
    (let r = records_of bytes in redo_after_records rec r (later (rec + length r.entries)))
    (redo_ended_by (Gap seq (e.head.seq - 1)))
    (λ same. ap (λ (s : ℕ). redo_of rec (in_log e.head (log_begin rec) (bytes_or_none (logs s))
    (λ k. ahead_in logs (seq + 1) (log_begin k) entries))) (sym (equal e.head.seq seq same))
    ∙ log_decoded laws e.head rec bytes (λ k. ahead_in logs (seq + 1) (log_begin k) entries) later
    (λ k. decoded_logs laws logs entries (seq + 1) k are.1)
    ∙ ap (λ (h : Header). let r = records_in h h.count (drop HEADER_LENGTH bytes) in
    redo_after_records rec r (later (rec + length r.entries))) (sym head))

pub are_from : (logs : ℕ → Option (List ℕ)) (registry : List LogEntry) (seq : ℕ) → AreToldBy logs registry →
    AreToldBy logs (entries_from seq registry)
are_from logs [] seq are = tt
are_from logs (e ∷ entries) seq are = kept_or (nat_lt e.head.seq seq) logs (entries_from seq entries) (e ∷ entries)
    (are_from logs entries seq are.1) are

-- what is ahead of a log's first record
pub redo_of_place : CutterLaws → (logs : ℕ → Option (List ℕ)) (registry : List LogEntry) (seq rec : ℕ) → AreToldBy logs registry →
    redo_ahead logs registry (first_place seq rec) ≡ redo_from seq rec (told_logs logs (entries_from seq registry))
redo_of_place laws logs registry seq rec are = decoded_logs laws logs (entries_from seq registry) seq rec
    (are_from logs registry seq are)
