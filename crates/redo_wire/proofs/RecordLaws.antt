-- How cut records stand in their log, and that decoded they are the log's records.
use Rattle.std.proofs.Common.{◌≡◌, ℕ, zero, suc, ◌-◌, ◌+◌, ◌≤◌, ◌<◌, Bool, true, false, List, [], ◌∷◌, Option, Some, None, Result, Ok, Err, refl, sym, ap, subst, ◌∙◌, arith}
use Rattle.std.specs.Prelude.{is_some, ◌||◌, ◌==◌, if◌then◌else◌}
use Rattle.std.specs.Option.{option_or}
use Rattle.std.specs.List.{concat}
use Rattle.std.proofs.lemmas.Bool.Decides.{nat_tests}
use Rattle.rl_value.specs.declared.cause.CutFault.{CutFault}
use Rattle.rl_value.specs.declared.cause.CutFault.TheVariants as cuts
use Rattle.redo_vec.specs.Cutting.{first_record}
use Rattle.redo_vec.specs.Reading.{record_at}
use Rattle.redo_spec.specs.declared.header.Header.{Header}
use Rattle.redo_spec.specs.Redo.{Records, decoded_or, records_in, records_of_cut as read_or}
use Rattle.redo_wire.specs.declared.raw.Raw.{Raw}
use Rattle.redo_wire.specs.declared.cutting.LogPlace.{LogPlace}
use Rattle.redo_wire.specs.Stream.{Cut, with_raw, cut_or, cut_off, log_place_behind, raw_of_bytes, Stream, cut_of_piece, told_after, stream_after, Run, run_of, stream_at, end_fault}
use Rattle.redo_wire.specs.Records.{AreFramed, missing_after, records_of_raws}
use Rattle.redo_wire.proofs.FirstLaws.{alone}
use Rattle.redo_wire.proofs.StreamLaws.{told_twice, pieces_give}

framed_by : (h : Header) (k : ℕ) (p : LogPlace) (bytes : List ℕ) → p.done + suc k ≤ h.count →
    ((q : LogPlace) (rest : List ℕ) → q.done + k ≤ h.count → AreFramed h q (cut_off h k q rest).raws) →
    (r : Result (List ℕ × List ℕ) CutFault) → first_record bytes ≡ r
    → AreFramed h p (cut_or r p bytes (λ found rest. with_raw (raw_of_bytes h p found)
    (cut_off h k (log_place_behind p found) rest))).raws
framed_by h k p bytes le later (Ok x) e = (
  record {
    rec = refl;
    head = refl;
    end = refl;
    done = refl;
    within = omega arith;
    whole = alone bytes x e;
  },
  later (log_place_behind p x.0) x.1 (omega arith),
)
framed_by h k p bytes le later (Err fault) e = tt

-- cut records stand one behind the other
pub framed_off : (h : Header) (k : ℕ) (p : LogPlace) (bytes : List ℕ) → p.done + k ≤ h.count →
    AreFramed h p (cut_off h k p bytes).raws
framed_off h zero p [] le = tt
framed_off h zero p (b ∷ bytes) le = tt
framed_off h (suc k) p bytes le = framed_by h k p bytes le (λ q rest less. framed_off h k q rest less) (first_record bytes) refl

-- ---- decoded

-- what a cut gives to the end of the log's bytes
abbrev Decoded : Header → Cut → Records
Decoded h c = records_of_raws c.raws (option_or c.cause (missing_after h c))

all_done : (h : Header) (p : LogPlace) → p.done ≡ h.count →
    missing_after h (record { raws = []; place = p; left = []; cause = None }) ≡ None
all_done h p e = let same : (p.done == h.count) ≡ true = grind (arith, nat_tests) in rw same refl

not_done : (h : Header) (p : LogPlace) (left : List ℕ) → p.done < h.count →
    missing_after h (record { raws = []; place = p; left = left; cause = None }) ≡ Some cuts.Truncated
not_done h p left lt = let other : (p.done == h.count) ≡ false = grind (arith, nat_tests) in rw other refl

read_by : (h : Header) (k : ℕ) (p : LogPlace) (bytes : List ℕ) → p.done < h.count →
    ((q : LogPlace) (rest : List ℕ) → q.done ≡ p.done + 1 → records_in h k rest ≡ Decoded h (cut_off h k q rest)) →
    (r : Result (List ℕ × List ℕ) CutFault)
    → read_or r (λ cut rest. decoded_or h (record_at cut) (records_in h k rest)) ≡
    Decoded h (cut_or r p bytes (λ found rest. with_raw (raw_of_bytes h p found)
    (cut_off h k (log_place_behind p found) rest)))
read_by h k p bytes lt later (Ok x) = ap (decoded_or h (record_at x.0)) (later (log_place_behind p x.0) x.1 refl)
read_by h k p bytes lt later (Err cuts.Truncated) = ap (records_of_raws []) (sym (not_done h p bytes lt))
read_by h k p bytes lt later (Err cuts.Length) = refl
read_by h k p bytes lt later (Err cuts.Count) = refl
read_by h k p bytes lt later (Err cuts.Trailing) = refl

-- the records of bytes are those that are cut off them, decoded
pub read_as_cut : (h : Header) (k : ℕ) (p : LogPlace) (bytes : List ℕ) → p.done + k ≡ h.count →
    records_in h k bytes ≡ Decoded h (cut_off h k p bytes)
read_as_cut h zero p [] e = ap (records_of_raws []) (sym (all_done h p (omega arith)))
read_as_cut h zero p (b ∷ bytes) e = refl
read_as_cut h (suc k) p bytes e = read_by h k p bytes (omega arith) (λ q rest f. read_as_cut h k q rest (omega arith))
    (first_record bytes)

-- ---- any list of pieces

run_head : (s : Stream) (pieces : List (List ℕ)) → (run_of s pieces).stream.head ≡ s.head
run_head s [] = refl
run_head s (piece ∷ pieces) = run_head (stream_after s piece) pieces

told_none : (fault_told : Bool) → fault_told ≡ told_after fault_told None
told_none true = refl
told_none false = refl

run_told : (s : Stream) (pieces : List (List ℕ)) → (run_of s pieces).stream.fault_told ≡
    told_after s.fault_told (run_of s pieces).cause
run_told s [] = told_none s.fault_told
run_told s (piece ∷ pieces) = run_told (stream_after s piece) pieces ∙
    sym (told_twice s.fault_told (cut_of_piece s piece).cause (run_of (stream_after s piece) pieces).cause)

-- what the end of the log's bytes tells is what it tells behind the bytes as a whole
pub pieces_end : (h : Header) (rec at done : ℕ) (pieces : List (List ℕ)) →
    end_fault (run_of (stream_at h rec at done) pieces).stream ≡
    missing_after h (cut_off h (h.count - done) (record { rec = rec; at = at; done = done }) (concat pieces))
pieces_end h rec at done pieces =
    let s : Stream = stream_at h rec at done in
    let r : Run = run_of s pieces in
    ap (λ (o : Bool). if o || (r.stream.place.done == r.stream.head.count) then None else Some cuts.Truncated) (run_told s pieces)
    ∙ ap (λ (g : Header). if is_some r.cause || (r.stream.place.done == g.count) then None else Some cuts.Truncated)
    (run_head s pieces)
    ∙ ap (missing_after h) (pieces_give h rec at done pieces)

-- the records of a log are those that its pieces give, decoded, and then the fault that feeding or the end tells
pub pieces_read : (h : Header) (rec at done : ℕ) (pieces : List (List ℕ)) → done ≤ h.count
    → records_in h (h.count - done) (concat pieces) ≡ records_of_raws (run_of (stream_at h rec at done) pieces).raws
    (option_or (run_of (stream_at h rec at done) pieces).cause (end_fault (run_of (stream_at h rec at done) pieces).stream))
pieces_read h rec at done pieces le =
    let r : Run = run_of (stream_at h rec at done) pieces in
    read_as_cut h (h.count - done) (record { rec = rec; at = at; done = done }) (concat pieces) (omega arith)
    ∙ ap (λ (o : Option CutFault). records_of_raws (cut_off h (h.count - done) (record { rec = rec; at = at; done = done })
    (concat pieces)).raws (option_or (cut_off h (h.count - done) (record { rec = rec; at = at; done = done })
    (concat pieces)).cause o)) (sym (pieces_end h rec at done pieces))
    ∙ ap (λ (c : Cut). records_of_raws c.raws (option_or c.cause (end_fault r.stream))) (sym (pieces_give h rec at done pieces))

-- what a cutter gives of its bytes stands one behind the other from its place on
pub framed_at : (s : Stream) (h : Header) (p : LogPlace) (bytes : List ℕ) (c : Cut) (raws : List Raw) → p.done ≤ h.count →
    cut_off h (h.count - p.done) p bytes ≡ c → raws ≡ c.raws → h ≡ s.head → p ≡ s.place → AreFramed s.head s.place raws
framed_at s h p bytes c raws le e is head place =
    let all : (cut_off h (h.count - p.done) p bytes).raws ≡ raws = ap (λ (d : Cut). d.raws) e ∙ sym is in
    let here : AreFramed h p raws = subst (AreFramed h p) all (framed_off h (h.count - p.done) p bytes (omega arith)) in
    subst (λ (q : LogPlace). AreFramed s.head q raws) place (subst (λ (g : Header). AreFramed g p raws) head here)
