-- Whether a fault is shown of a log's pieces: as of its bytes as a whole, and exactly where its records end with one.
use Rattle.std.proofs.Common.{◌≡◌, ℕ, ◌-◌, Bool, true, false, List, [], ◌∷◌, ◌++◌, Option, Some, None, Result, Ok, Err, refl, sym, ap, ◌∙◌, append_assoc, arith}
use Rattle.std.specs.Prelude.{is_some}
use Rattle.std.specs.List.{flat_map, concat}
use Rattle.std.specs.Option.{option_or}
use Rattle.rl_value.specs.declared.cause.CutFault.{CutFault}
use Rattle.redo_vec.specs.declared.redo_rec.RedoRec.{RedoRec}
use Rattle.redo_vec.specs.Reading.{Fault, record_at}
use Rattle.redo_vec.specs.Spelling.{record_bytes}
use Rattle.redo_spec.specs.declared.header.Header.{Header}
use Rattle.redo_spec.specs.Log.{Log, IsLog}
use Rattle.redo_spec.specs.Redo.{Records, decoded_or, records_in}
use Rattle.redo_wire.specs.declared.raw.Raw.{Raw}
use Rattle.redo_wire.specs.Records.{records_of_raws}
use Rattle.redo_wire.specs.Stream.{Cut, Stream, stream_at, cut_of_piece, stream_after, run_of, end_fault}
use Rattle.redo_text.specs.Streaming.{Place, Shown, shown_at, raw_after, raws_after, cut_after, piece_after, pieces_ended}
use Rattle.redo_text.proofs.StreamTexts.{ended_after, after_on, after_append, or_none, PiecesGiven, PiecesLeft, SpelledIsRead, PiecesRead, run_records, spelled_run}

-- ---- pieces

-- whether a fault was shown behind these records and what ends them
abbrev ends : Place → List Raw → Option CutFault → Bool
ends p raws cause = (cut_after (raws_after p raws) cause).ended

ended_cut : (p : Place) (cause : Option CutFault) → p.ended ≡ true → (cut_after p cause).ended ≡ true
ended_cut p None e = e
ended_cut p (Some fault) e = refl

ended_ends : (p : Place) (raws : List Raw) (cause : Option CutFault) → p.ended ≡ true → ends p raws cause ≡ true
ended_ends p raws cause e = ap (λ (q : Place). (cut_after q cause).ended) (ended_after p raws e) ∙ ended_cut p cause e

ends_by : (o later end : Option CutFault) (p : Place) (a b : List Raw) →
    ends (cut_after (raws_after p a) o) b (option_or later end) ≡ ends p (a ++ b) (option_or (option_or o later) end)
ends_by None later end p a b = ap (λ (q : Place). (cut_after q (option_or later end)).ended) (sym (after_append p a b))
ends_by (Some fault) later end p a b = ended_ends (cut_after (raws_after p a) (Some fault)) b (option_or later end) refl

run_ended : (s : Shown) (pieces : List (List ℕ)) → pieces_ended s pieces
    ≡ ends s.place (run_of s.stream pieces).raws
    (option_or (run_of s.stream pieces).cause (end_fault (run_of s.stream pieces).stream))
run_ended s [] = refl
run_ended s (piece ∷ pieces) =
    let c = cut_of_piece s.stream piece in
    let later = run_of (stream_after s.stream piece) pieces in
    run_ended (piece_after s piece) pieces ∙ ends_by c.cause later.cause (end_fault later.stream) s.place c.raws later.raws

-- a fault that was shown is not taken back
pub ended_kept : (s : Shown) (pieces : List (List ℕ)) → s.place.ended ≡ true → pieces_ended s pieces ≡ true
ended_kept s pieces e =
    run_ended s pieces ∙ ended_ends s.place (run_of s.stream pieces).raws
    (option_or (run_of s.stream pieces).cause (end_fault (run_of s.stream pieces).stream)) e

pub ended_as_two : PiecesGiven → PiecesLeft → (s : Shown) (a b : List ℕ) →
    pieces_ended s ((a ++ b) ∷ []) ≡ pieces_ended s (a ∷ b ∷ [])
ended_as_two given left s a b =
    let one = cut_of_piece s.stream a in
    let two = cut_of_piece (stream_after s.stream a) b in
    let end : Option CutFault = end_fault (stream_after (stream_after s.stream a) b) in
    run_ended s ((a ++ b) ∷ [])
    ∙ ap (λ (t : Stream). ends s.place ((cut_of_piece s.stream (a ++ b)).raws ++ [])
    (option_or (option_or (cut_of_piece s.stream (a ++ b)).cause None) (end_fault t))) (left s.stream a b)
    ∙ ap (λ (c : Cut). ends s.place (c.raws ++ []) (option_or (option_or c.cause None) end)) (given s.stream a b)
    ∙ ap (λ (raws : List Raw). ends s.place raws (option_or (option_or (option_or one.cause two.cause) None) end))
    (append_assoc one.raws two.raws [])
    ∙ ap (λ (o : Option CutFault). ends s.place (one.raws ++ (two.raws ++ [])) (option_or o end))
    (or_none (option_or one.cause two.cause) ∙ ap (option_or one.cause) (sym (or_none two.cause)))
    ∙ sym (run_ended s (a ∷ b ∷ []))

-- ---- the records of the log

decoded_ends_by : (p : Place) (raw : Raw) (raws : List Raw) (cause : Option CutFault) (r : Result RedoRec Fault) →
    p.ended ≡ false → ((q : Place) → q.ended ≡ false → ends q raws cause ≡ is_some (records_of_raws raws cause).cause)
    → ends (raw_after p raw r) raws cause ≡ is_some (decoded_or raw.head r (records_of_raws raws cause)).cause
decoded_ends_by p raw raws cause (Err f) e later = ended_ends (raw_after p raw (Err f)) raws cause refl
decoded_ends_by p raw raws cause (Ok r) e later = later (raw_after p raw (Ok r)) e

decoded_ends : (p : Place) (raws : List Raw) (cause : Option CutFault) → p.ended ≡ false →
    ends p raws cause ≡ is_some (records_of_raws raws cause).cause
decoded_ends p [] None e = e
decoded_ends p [] (Some fault) e = refl
decoded_ends p (raw ∷ raws) cause e =
    ap (λ (q : Place). (cut_after q cause).ended) (after_on p raw raws e)
    ∙ decoded_ends_by p raw raws cause (record_at raw.bytes) e (λ q f. decoded_ends q raws cause f)

by_records : (h : Header) (pieces : List (List ℕ)) → pieces_ended (shown_at h) pieces ≡ is_some (run_records h pieces).cause
by_records h pieces =
    let r = run_of (stream_at h 1 40 0) pieces in
    run_ended (shown_at h) pieces ∙ decoded_ends (shown_at h).place r.raws (option_or r.cause (end_fault r.stream)) refl

pub ended_exact : PiecesRead → (h : Header) (pieces : List (List ℕ)) →
    pieces_ended (shown_at h) pieces ≡ is_some (records_in h h.count (concat pieces)).cause
ended_exact cut h pieces =
    let all : h.count - 0 ≡ h.count = omega arith in
    by_records h pieces
    ∙ ap (λ (x : Records). is_some x.cause) (sym (cut h 1 40 0 pieces (omega arith)))
    ∙ ap (λ (k : ℕ). is_some (records_in h k (concat pieces)).cause) all

-- a spelled log has no fault
pub log_whole : SpelledIsRead → PiecesRead → (l : Log) (pieces : List (List ℕ)) → IsLog l →
    concat pieces ≡ flat_map record_bytes l.records → pieces_ended (shown_at l.head) pieces ≡ false
log_whole read cut l pieces ok whole =
    by_records l.head pieces ∙ ap (λ (x : Records). is_some x.cause) (spelled_run read cut l pieces ok whole)
