-- Bytes that are read without a fault are the spelling of what is read: a header, its records, and nothing else.
use Rattle.std.proofs.Common.{◌≡◌, ℕ, zero, suc, ◌+◌, ◌-◌, ◌≤◌, ◌||◌, ◌==◌, nat_lt, Bool, true, false, cond, List, [], ◌∷◌, ◌++◌, length, take, drop, map, Result, Ok, Err, Option, Some, None, refl, sym, ap, subst, ◌∙◌, arith}
use Rattle.std.specs.Int.{w16, w32, from_be_bytes}
use Rattle.std.specs.List.{flat_map, AllByRecursion}
use Rattle.std.proofs.lemmas.Bool.{ltb-false, or_parts}
use Rattle.std.proofs.lemmas.List.{length-take, length-drop, nil_from_length, take-take, drop-take, take-append-drop}
use Rattle.rl_value.specs.declared.cause.CutFault.{CutFault}
use Rattle.rl_value.specs.Outcome.{refused_by}
use Rattle.redo_vec.specs.declared.redo_rec.RedoRec.{RedoRec}
use Rattle.redo_vec.specs.Spelling.{record_bytes}
use Rattle.redo_vec.specs.Ranges.{AreBytes, IsRecord}
use Rattle.redo_vec.specs.Cutting.{number_in, first_record}
use Rattle.redo_vec.specs.Reading.{Fault, record_at}
use Rattle.redo_spec.specs.declared.header.Header.{Header}
use Rattle.redo_spec.specs.History.{Entry}
use Rattle.redo_spec.specs.Log.{IsSpelled}
use Rattle.redo_spec.specs.LogHeader.{header_in, header_fault}
use Rattle.redo_spec.specs.Redo.{records_of_cut, decoded_or, records_in, records_of}
use Rattle.redo_spec.proofs.FieldLaws.{IsBytes, are_bytes, bytes_fit, drop_fits, take_fits, front2, front4, header_passed, header_spelled, header_fits}
use Rattle.redo_spec.proofs.LogLaws.{cut_by}

-- ---- the law of `redo_vec` by which a read record is spelled

pub record ReadIsSpelled : Type 0 where
  pub fits : (bytes : List ℕ) (r : RedoRec) → AreBytes bytes → first_record bytes ≡ Ok (bytes, []) →
      record_at bytes ≡ Ok r → IsRecord r
  pub spelled : (bytes : List ℕ) (r : RedoRec) → AreBytes bytes → first_record bytes ≡ Ok (bytes, []) → record_at bytes ≡ Ok r →
      bytes ≡ record_bytes r

-- ---- one record at the front

took : {A : Type 0} (test : Bool) (fault : CutFault) (o : Option CutFault) (x y : A) →
    refused_by (cond test (Some fault) o) x ≡ Ok y → (test ≡ false) × (refused_by o x ≡ Ok y)
took false fault o x y e = (refl, e)
took true fault o x y e = absurd (cc)

took_all : {A : Type 0} (x y : A) → refused_by {E = CutFault} None x ≡ Ok y → x ≡ y
took_all x y e = cc

some_count : (k : ℕ) → (k == 0) ≡ false → 1 ≤ k
some_count zero e = absurd (cc)
some_count (suc k) e = omega arith

cut_fits : (bytes : List ℕ) (size : ℕ) → 15 ≤ size → size ≤ 65536 → size ≤ length bytes → number_in w32 0 bytes ≡ size →
    1 ≤ number_in w16 12 bytes → number_in w16 12 bytes ≤ 255 →
    first_record (take size bytes) ≡ Ok (take size bytes, [])
cut_fits bytes size low high long is some few =
    let count : length (take size bytes) ≡ size = omega (arith, long, length-take size bytes) in
    let number : number_in w32 0 (take size bytes) ≡ size =
    sym (front4 (take size bytes)) ∙ ap (from_be_bytes w32) (take-take 4 size bytes (omega (arith, low))) ∙ front4 bytes ∙ is in
    let rest : 12 + (size - 12) ≡ size = omega (arith, low) in
    let behind : drop 12 (take size bytes) ≡ take (size - 12) (drop 12 bytes) =
    ap (λ k. drop 12 (take k bytes)) (sym rest) ∙ drop-take 12 (size - 12) bytes in
    let vectors : number_in w16 12 (take size bytes) ≡ number_in w16 12 bytes =
    ap (from_be_bytes w16) behind
    ∙ sym (front2 (take (size - 12) (drop 12 bytes)))
    ∙ ap (from_be_bytes w16) (take-take 2 (size - 12) (drop 12 bytes) (omega (arith, low)))
    ∙ front2 (drop 12 bytes) in
    let cut = take size bytes in
    let whole : take size cut ≡ cut = take-take size size bytes (omega arith) in
    let nothing : drop size cut ≡ [] = nil_from_length (drop size cut) (omega (arith, count, length-drop size cut)) in
    cut_by cut size (number_in w16 12 bytes) number vectors low high (omega (arith, count)) some few
    ∙ (λ i. Ok (whole i, nothing i))

-- a record that is cut off, and what is left
record IsFront (bytes cut rest : List ℕ) : Type 0 where
  whole : first_record cut ≡ Ok (cut, [])
  parts : bytes ≡ cut ++ rest
  bytes_fit : IsBytes cut
  rest_fits : IsBytes rest

front_is : (bytes cut rest : List ℕ) → IsBytes bytes → first_record bytes ≡ Ok (cut, rest) → IsFront bytes cut rest
front_is bytes cut rest fits e =
    let size = number_in w32 0 bytes in
    let pair : List ℕ × List ℕ = (take size bytes, drop size bytes) in
    let a = took (nat_lt (length bytes) 4) _ _ pair (cut, rest) e in
    let b = took (nat_lt size 15 || nat_lt 65536 size) _ _ pair (cut, rest) a.1 in
    let c = took (nat_lt (length bytes) size) _ _ pair (cut, rest) b.1 in
    let d = took (number_in w16 12 bytes == 0 || nat_lt 255 (number_in w16 12 bytes)) _ _ pair (cut, rest) c.1 in
    let whole = took_all pair (cut, rest) d.1 in
    let cut_is : take size bytes ≡ cut = ap (λ (p : List ℕ × List ℕ). p.0) whole in
    let rest_is : drop size bytes ≡ rest = ap (λ (p : List ℕ × List ℕ). p.1) whole in
    let limits = or_parts (nat_lt size 15) (nat_lt 65536 size) b.0 in
    let counts = or_parts (number_in w16 12 bytes == 0) (nat_lt 255 (number_in w16 12 bytes)) d.0 in
    record {
      whole = subst (λ (c : List ℕ). first_record c ≡ Ok (c, [])) cut_is
          (cut_fits bytes size (ltb-false size 15 limits.0) (ltb-false 65536 size limits.1)
          (ltb-false (length bytes) size c.0) refl
          (some_count (number_in w16 12 bytes) counts.0) (ltb-false 255 (number_in w16 12 bytes) counts.1));
      parts = sym (take-append-drop size bytes) ∙ (λ i. cut_is i ++ rest_is i);
      bytes_fit = subst IsBytes cut_is (take_fits size bytes fits);
      rest_fits = subst IsBytes rest_is (drop_fits size bytes fits);
    }

-- ---- the records of a log

record AreSpelled (count : ℕ) (bytes : List ℕ) (entries : List Entry) : Type 0 where
  each : AllByRecursion IsRecord (map (λ e. e.1) entries)
  parts : bytes ≡ flat_map record_bytes (map (λ e. e.1) entries)
  counted : count ≡ length entries

decoded_sound : ReadIsSpelled → (h : Header) (count : ℕ) (bytes cut rest : List ℕ) (found : Result RedoRec Fault) →
    record_at cut ≡ found → IsFront bytes cut rest →
    (decoded_or h found (records_in h count rest)).cause ≡ None →
    ((records_in h count rest).cause ≡ None → AreSpelled count rest (records_in h count rest).entries) →
    AreSpelled (suc count) bytes (decoded_or h found (records_in h count rest)).entries
decoded_sound law h count bytes cut rest (Err fault) is front e more = absurd (cc)
decoded_sound law h count bytes cut rest (Ok r) is front e more =
    let are = are_bytes cut front.bytes_fit in
    let spelled = law.spelled cut r are front.whole is in
    let later = more e in
    let after = later.parts in
    record {
      each = (law.fits cut r are front.whole is, later.each);
      parts = front.parts ∙ (λ i. spelled i ++ after i);
      counted = ap suc later.counted;
    }

cut_sound : ReadIsSpelled → (h : Header) (count : ℕ) (bytes : List ℕ) (found : Result (List ℕ × List ℕ) CutFault) →
    first_record bytes ≡ found → IsBytes bytes →
    (records_of_cut found (λ cut rest. decoded_or h (record_at cut) (records_in h count rest))).cause ≡ None →
    ((rest : List ℕ) → IsBytes rest → (records_in h count rest).cause ≡ None →
    AreSpelled count rest (records_in h count rest).entries) →
    AreSpelled (suc count) bytes (records_of_cut found (λ cut rest. decoded_or h (record_at cut)
    (records_in h count rest))).entries
cut_sound law h count bytes (Err fault) is fits e more = absurd (cc)
cut_sound law h count bytes (Ok (cut, rest)) is fits e more =
    let front = front_is bytes cut rest fits is in
    decoded_sound law h count bytes cut rest (record_at cut) refl front e (λ later. more rest front.rest_fits later)

records_sound : ReadIsSpelled → (h : Header) (count : ℕ) (bytes : List ℕ) → IsBytes bytes →
    (records_in h count bytes).cause ≡ None → AreSpelled count bytes (records_in h count bytes).entries
records_sound law h zero [] fits e = record { each = tt; parts = refl; counted = refl }
records_sound law h zero (b ∷ bytes) fits e = absurd (cc)
records_sound law h (suc count) bytes fits e = cut_sound law h count bytes (first_record bytes) refl fits e
    (λ rest ok later. records_sound law h count rest ok later)

-- ---- the log

map_length : (entries : List Entry) → length (map (λ e. e.1) entries) ≡ length entries
map_length [] = refl
map_length (e ∷ entries) = ap suc (map_length entries)

-- Bytes that are read without a fault are the spelling of the log that is read.
pub read_is_spelled : ReadIsSpelled → (seq : ℕ) (bytes : List ℕ) → AreBytes bytes → header_fault seq bytes ≡ None →
    (records_of bytes).cause ≡ None →
    IsSpelled (record { head = header_in bytes; records = map (λ e. e.1) (records_of bytes).entries }) bytes
read_is_spelled law seq bytes are head e =
    let fits = bytes_fit bytes are in
    let h = header_in bytes in
    let front = header_spelled seq bytes fits (header_passed seq bytes head) in
    let found = records_sound law h h.count (drop 40 bytes) (drop_fits 40 bytes fits) e in
    let back = found.parts in
    record {
      log = record {
        head = header_fits bytes fits;
        each = found.each;
        counted = found.counted ∙ sym (map_length (records_of bytes).entries);
      };
      spelled = sym (take-append-drop 40 bytes) ∙ (λ i. front i ++ back i);
    }
