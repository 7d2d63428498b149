-- A spelled log is read as what it says: its header, its records, and nothing else.
use Rattle.std.proofs.Common.{◌≡◌, ℕ, ◌+◌, ◌-◌, ◌≤◌, ◌<◌, ◌||◌, ◌==◌, nat_lt, nat_le, not, codes, true, false, cond, List, [], ◌∷◌, ◌++◌, length, take, drop, map, Ok, Some, None, refl, sym, ap, ◌∙◌, arith}
use Rattle.std.specs.Int.{w16, w32}
use Rattle.std.specs.List.{flat_map, AllByRecursion}
use Rattle.std.proofs.lemmas.Bool.Decides.{nat_tests}
use Rattle.std.proofs.lemmas.List.{length-append, append-nil}
use Rattle.std.proofs.lemmas.Nat.{from_be_bytes-to_be_bytes_2, from_be_bytes-to_be_bytes_4, from_be_bytes-to_be_bytes_8}
use Rattle.std.proofs.Math.Seq.{take-append_seam, drop-append_seam}
use Rattle.rl_value.specs.declared.cause.CutFault.TheVariants as cuts
use Rattle.rl_value.specs.declared.cause.HeadFault.TheVariants as heads
use Rattle.rl_value.specs.Order.{same_bytes}
use Rattle.rl_value.specs.declared.verdict.Stop.TheVariants.{Drained, Gap}
use Rattle.rl_value.specs.Outcome.{first_fault, refused_by}
use Rattle.redo_vec.specs.declared.vector.Vector.{Vector}
use Rattle.redo_vec.specs.declared.vector.Vector.TheVariants as vectors
use Rattle.redo_vec.specs.declared.redo_rec.RedoRec.{RedoRec}
use Rattle.redo_vec.specs.Spelling.{vector, record_bytes}
use Rattle.redo_vec.specs.Ranges.{IsRecord}
use Rattle.redo_vec.specs.Cutting.{number_in, first_record}
use Rattle.redo_vec.specs.Reading.{record_at}
use Rattle.redo_spec.specs.declared.header.Header.{Header}
use Rattle.redo_spec.specs.Log.{Log, IsHeader, IsLog, header_bytes, log_bytes}
use Rattle.redo_spec.specs.LogHeader.{header_in, header_fault}
use Rattle.redo_spec.specs.Redo.{records_of_cut, decoded_or, with_entry, records_in, records_of, entries_of, redo_after_records, redo_ended_by, redo_from, fold_of_header, fold_of_log}
use Rattle.redo_spec.specs.Fold.{fold_of_redo}

-- ---- one record at the front

some_byte : (v : Vector) → 1 ≤ length (vector v)
some_byte (vectors.Start x) = omega arith
some_byte (vectors.Change c) = omega arith
some_byte (vectors.Undo x) = omega arith
some_byte (vectors.Commit x) = omega arith
some_byte (vectors.Rollback x) = omega arith
some_byte (vectors.Table t) = omega arith
some_byte vectors.DictEnd = omega arith

some_body : (vs : List Vector) → 1 ≤ length vs → 1 ≤ length (flat_map vector vs)
some_body [] some = absurd (omega (arith, some))
some_body (v ∷ vs) some = let first = some_byte v in omega (arith, first, length-append (vector v) (flat_map vector vs))

tests_pass : {X : Type 0} (long size count : ℕ) (x : X) → 15 ≤ size → size ≤ 65536 → size ≤ long → 1 ≤ count → count ≤ 255 →
    refused_by (first_fault (
    (nat_lt long 4, cuts.Truncated)
    ∷ (nat_lt size 15 || nat_lt 65536 size, cuts.Length)
    ∷ (nat_lt long size, cuts.Truncated)
    ∷ (count == 0 || nat_lt 255 count, cuts.Count)
    ∷ [])) x ≡ Ok x
tests_pass long size count x low high within some most =
    let a : nat_lt long 4 ≡ false = grind (arith, nat_tests, low, within) in
    let b : nat_lt size 15 ≡ false = grind (arith, nat_tests, low) in
    let c : nat_lt 65536 size ≡ false = grind (arith, nat_tests, high) in
    let d : nat_lt long size ≡ false = grind (arith, nat_tests, within) in
    let e : (count == 0) ≡ false = grind (arith, nat_tests, some) in
    let f : nat_lt 255 count ≡ false = grind (arith, nat_tests, most) in
    rw (a, b, c, d, e, f) refl

pub cut_by : (bytes : List ℕ) (size count : ℕ) → number_in w32 0 bytes ≡ size → number_in w16 12 bytes ≡ count →
    15 ≤ size → size ≤ 65536 → size ≤ length bytes → 1 ≤ count → count ≤ 255 →
    first_record bytes ≡ Ok (take size bytes, drop size bytes)
cut_by bytes size count is_size is_count low high within some most =
    ap (λ (s : ℕ). refused_by (first_fault (
    (nat_lt (length bytes) 4, cuts.Truncated)
    ∷ (nat_lt s 15 || nat_lt 65536 s, cuts.Length)
    ∷ (nat_lt (length bytes) s, cuts.Truncated)
    ∷ (number_in w16 12 bytes == 0 || nat_lt 255 (number_in w16 12 bytes), cuts.Count)
    ∷ [])) (take s bytes, drop s bytes)) is_size
    ∙ ap (λ (k : ℕ). refused_by (first_fault (
    (nat_lt (length bytes) 4, cuts.Truncated)
    ∷ (nat_lt size 15 || nat_lt 65536 size, cuts.Length)
    ∷ (nat_lt (length bytes) size, cuts.Truncated)
    ∷ (k == 0 || nat_lt 255 k, cuts.Count)
    ∷ [])) (take size bytes, drop size bytes)) is_count
    ∙ tests_pass (length bytes) size count (take size bytes, drop size bytes) low high within some most

record_length : (r : RedoRec) → length (record_bytes r) ≡ 14 + length (flat_map vector r.vectors)
record_length r = omega arith

-- a spelled record is cut off, whatever follows it
cut_first : (r : RedoRec) (rest : List ℕ) → IsRecord r → first_record (record_bytes r ++ rest) ≡ Ok (record_bytes r, rest)
cut_first r rest ok =
    let size = 14 + length (flat_map vector r.vectors) in
    let body = some_body r.vectors ok.some in
    let short = ok.size in
    let most = ok.most in
    let long : length (record_bytes r ++ rest) ≡ size + length rest =
    length-append (record_bytes r) rest ∙ ap (λ n. n + length rest) (record_length r) in
    let is_size : number_in w32 0 (record_bytes r ++ rest) ≡ size = from_be_bytes-to_be_bytes_4 size (omega (arith, short)) in
    let is_count : number_in w16 12 (record_bytes r ++ rest) ≡ length r.vectors =
    from_be_bytes-to_be_bytes_2 (length r.vectors) (omega (arith, most)) in
    let taken : take size (record_bytes r ++ rest) ≡ record_bytes r =
    ap (λ n. take n (record_bytes r ++ rest)) (sym (record_length r)) ∙ take-append_seam (record_bytes r) rest in
    let left : drop size (record_bytes r ++ rest) ≡ rest =
    ap (λ n. drop n (record_bytes r ++ rest)) (sym (record_length r)) ∙ drop-append_seam (record_bytes r) rest in
    cut_by (record_bytes r ++ rest) size (length r.vectors) is_size is_count (omega (arith, body)) short
    (omega (arith, long)) ok.some most
    ∙ (λ i. Ok (taken i, left i))

-- ---- the records of a log

-- the law of `redo_vec` by which a spelled record is read
abbrev pub SpelledIsRead : Type 0
SpelledIsRead = (r : RedoRec) → IsRecord r → record_at (record_bytes r) ≡ Ok r

records_read : SpelledIsRead → (h : Header) (rs : List RedoRec) → AllByRecursion IsRecord rs →
    records_in h (length rs) (flat_map record_bytes rs) ≡ record { entries = map (λ r. (h, r)) rs; cause = None }
records_read read h [] ok = refl
records_read read h (r ∷ rs) ok =
    let later = flat_map record_bytes rs in
    ap (λ o. records_of_cut o (λ cut rest. decoded_or h (record_at cut) (records_in h (length rs) rest))) (cut_first r later ok.0)
    ∙ ap (λ o. decoded_or h o (records_in h (length rs) later)) (read r ok.0)
    ∙ ap (with_entry (h, r)) (records_read read h rs ok.1)

header_again : (h : Header) (rest : List ℕ) → IsHeader h → header_in (header_bytes h ++ rest) ≡ h
header_again h rest ok =
    let dbid = from_be_bytes-to_be_bytes_4 h.dbid ok.dbid in
    let seq = from_be_bytes-to_be_bytes_4 h.seq ok.seq in
    let first = from_be_bytes-to_be_bytes_8 h.first ok.first in
    let next = from_be_bytes-to_be_bytes_8 h.next ok.next in
    let count = from_be_bytes-to_be_bytes_4 h.count ok.count in
    λ k. record { seq = seq k; dbid = dbid k; first = first k; next = next k; count = count k }

-- a spelled header whose numbers are in order has no fault
pub header_fits : (seq : ℕ) (h : Header) (rest : List ℕ) → IsHeader h → (h.seq == seq) ≡ true → 1 ≤ h.first →
    h.first < h.next → 1 ≤ h.count →
    header_fault seq (header_bytes h ++ rest) ≡ None
header_fits seq h rest ok is_seq some rising counted =
    let bytes = header_bytes h ++ rest in
    let enough : 40 ≤ length bytes = omega arith in
    let long : nat_lt (length bytes) 40 ≡ false = grind (arith, nat_tests, enough) in
    let first : (h.first == 0) ≡ false = grind (arith, nat_tests, some) in
    let range : nat_le h.next h.first ≡ false = grind (arith, nat_tests, rising) in
    let count : (h.count == 0) ≡ false = grind (arith, nat_tests, counted) in
    ap (λ (g : Header). first_fault (
    (nat_lt (length bytes) 40, heads.Short)
    ∷ (not (same_bytes (take 4 bytes) (codes "SRL1")), heads.Magic)
    ∷ (not (number_in w16 4 bytes == 1), heads.Version)
    ∷ (not (number_in w16 6 bytes == 1), heads.Thread)
    ∷ (not (g.seq == seq), heads.Sequence)
    ∷ (g.first == 0 || nat_le g.next g.first, heads.Range)
    ∷ (g.count == 0, heads.Records)
    ∷ (not (number_in w32 36 bytes == 0), heads.Reserved)
    ∷ [])) (header_again h rest ok)
    ∙ rw (long, is_seq, first, range, count) refl

same_number : (n : ℕ) → (n == n) ≡ true
same_number n = grind (arith, nat_tests)

log_read : SpelledIsRead → (l : Log) → IsLog l → records_of (log_bytes l) ≡ record { entries = entries_of l; cause = None }
log_read read l ok =
    let rest = flat_map record_bytes l.records in
    ap (λ h. records_in h h.count rest) (header_again l.head rest ok.head)
    ∙ ap (λ n. records_in l.head n rest) ok.counted
    ∙ records_read read l.head l.records ok.each

redo_read : SpelledIsRead → (seq : ℕ) (l : Log) → IsLog l →
    redo_from seq 0 ((seq, log_bytes l) ∷ []) ≡ record { entries = entries_of l; stop = Drained }
redo_read read seq l ok =
    ap (λ b. cond b (redo_after_records 0 (records_of (log_bytes l)) (redo_ended_by Drained)) (redo_ended_by (Gap seq (seq - 1))))
    (same_number seq)
    ∙ ap (λ r. redo_after_records 0 r (redo_ended_by Drained)) (log_read read l ok)
    ∙ ap (λ es. record { entries = es; stop = Drained }) (append-nil (entries_of l))

-- The fold of a spelled log is the fold of its records.
pub log_is_read : SpelledIsRead → (seq : ℕ) (l : Log) → IsLog l → header_fault seq (log_bytes l) ≡ None →
    fold_of_log seq (Some (log_bytes l)) ≡ fold_of_redo seq (l.head.first - 1) (entries_of l) Drained
log_is_read read seq l ok fits =
    ap (λ o. fold_of_header o seq (log_bytes l)) fits
    ∙ ap (λ redo. fold_of_redo seq ((header_in (log_bytes l)).first - 1) redo.entries redo.stop) (redo_read read seq l ok)
    ∙ ap (λ h. fold_of_redo seq (h.first - 1) (entries_of l) Drained)
    (header_again l.head (flat_map record_bytes l.records) ok.head)
