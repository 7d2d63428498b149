-- The text of a log's pieces is that of its bytes as a whole, and that of its records.
use Rattle.std.proofs.Common.{◌≡◌, ℕ, ◌+◌, ◌-◌, ◌≤◌, Bool, true, false, List, [], ◌∷◌, ◌++◌, length, take, drop, map, Option, Some, None, Result, Ok, Err, refl, sym, ap, ◌∙◌, append_assoc, arith}
use Rattle.std.specs.Prelude.{if◌then◌else◌, is_some}
use Rattle.std.specs.Int.{w16, w32}
use Rattle.std.specs.List.{flat_map, concat, AllByRecursion}
use Rattle.std.specs.Option.{option_or}
use Rattle.std.proofs.lemmas.List.{append-nil, length-append}
use Rattle.std.proofs.lemmas.Nat.{from_be_bytes-to_be_bytes_2, from_be_bytes-to_be_bytes_4}
use Rattle.std.proofs.Math.Seq.{take-append_seam, drop-append_seam}
use Rattle.rl_value.specs.declared.cause.CutFault.{CutFault}
use Rattle.redo_vec.specs.declared.redo_rec.RedoRec.{RedoRec}
use Rattle.redo_vec.specs.declared.vector.Vector.{Vector}
use Rattle.redo_vec.specs.declared.vector.Vector.TheVariants as vectors
use Rattle.redo_vec.specs.Cutting.{number_in, first_record}
use Rattle.redo_vec.specs.Ranges.{IsRecord}
use Rattle.redo_vec.specs.Reading.{Fault, record_at}
use Rattle.redo_vec.specs.Spelling.{vector, record_bytes}
use Rattle.redo_spec.specs.declared.header.Header.{Header}
use Rattle.redo_spec.specs.History.{Entry}
use Rattle.redo_spec.specs.Log.{Log, IsLog}
use Rattle.redo_spec.specs.Redo.{Records, records_of_cut, decoded_or, with_entry, records_in}
use Rattle.redo_spec.proofs.LogLaws.{cut_by}
use Rattle.redo_wire.specs.declared.raw.Raw.{Raw}
use Rattle.redo_wire.specs.Records.{missing_after, records_of_raws}
use Rattle.redo_wire.specs.Stream.{Cut, Stream, stream_at, cut_off, cut_of_piece, stream_after, told_after, run_of, as_cut, joined_cut, end_fault}
use Rattle.redo_text.specs.Showing.{record_text, records_text}
use Rattle.redo_text.specs.Streaming.{Place, Shown, shown_at, raw_text, raw_after, raws_text, raws_after, cut_text, cut_after, piece_after, pieces_text}

-- ---- records behind others

abbrev pub read_of : Raw → Result RedoRec Fault
read_of raw = record_at raw.bytes

ended_text : (p : Place) (raws : List Raw) → p.ended ≡ true → raws_text p raws ≡ []
ended_text p [] e = refl
ended_text p (raw ∷ raws) e = rw e refl

pub ended_after : (p : Place) (raws : List Raw) → p.ended ≡ true → raws_after p raws ≡ p
ended_after p [] e = refl
ended_after p (raw ∷ raws) e = rw e refl

ended_cut : (p : Place) (cause : Option CutFault) → p.ended ≡ true → cut_text p cause ≡ []
ended_cut p None e = refl
ended_cut p (Some fault) e = rw e refl

other : {A : Type 0} (t : Bool) (x y : A) → t ≡ false → (if t then x else y) ≡ y
other true x y e = absurd cc
other false x y e = refl

-- a place that has not ended
text_on : (p : Place) (raw : Raw) (raws : List Raw) → p.ended ≡ false →
    raws_text p (raw ∷ raws) ≡ raw_text p raw (read_of raw) ++ raws_text (raw_after p raw (read_of raw)) raws
text_on p raw raws e = other p.ended [] (raw_text p raw (read_of raw) ++ raws_text (raw_after p raw (read_of raw)) raws) e

pub after_on : (p : Place) (raw : Raw) (raws : List Raw) → p.ended ≡ false →
    raws_after p (raw ∷ raws) ≡ raws_after (raw_after p raw (read_of raw)) raws
after_on p raw raws e = other p.ended p (raws_after (raw_after p raw (read_of raw)) raws) e

text_by : (t : Bool) (p : Place) (raw : Raw) (a b : List Raw) → p.ended ≡ t →
    raws_text (raw_after p raw (read_of raw)) (a ++ b)
    ≡ raws_text (raw_after p raw (read_of raw)) a ++ raws_text (raws_after (raw_after p raw (read_of raw)) a) b
    → raws_text p (raw ∷ (a ++ b)) ≡ raws_text p (raw ∷ a) ++ raws_text (raws_after p (raw ∷ a)) b
text_by true p raw a b e later =
    ended_text p (raw ∷ (a ++ b)) e ∙ sym (
    ap (λ (t : List ℕ). t ++ raws_text (raws_after p (raw ∷ a)) b) (ended_text p (raw ∷ a) e)
    ∙ ap (λ (q : Place). raws_text q b) (ended_after p (raw ∷ a) e) ∙ ended_text p b e)
text_by false p raw a b e later =
    text_on p raw (a ++ b) e ∙ ap (λ (t : List ℕ). raw_text p raw (read_of raw) ++ t) later
    ∙ sym (append_assoc (raw_text p raw (read_of raw)) (raws_text (raw_after p raw (read_of raw)) a)
    (raws_text (raws_after (raw_after p raw (read_of raw)) a) b))
    ∙ ap (λ (t : List ℕ). t ++ raws_text (raws_after (raw_after p raw (read_of raw)) a) b) (sym (text_on p raw a e))
    ∙ ap (λ (q : Place). raws_text p (raw ∷ a) ++ raws_text q b) (sym (after_on p raw a e))

text_append : (p : Place) (a b : List Raw) → raws_text p (a ++ b) ≡ raws_text p a ++ raws_text (raws_after p a) b
text_append p [] b = refl
text_append p (raw ∷ a) b = text_by p.ended p raw a b refl (text_append (raw_after p raw (read_of raw)) a b)

after_by : (t : Bool) (p : Place) (raw : Raw) (a b : List Raw) → p.ended ≡ t →
    raws_after (raw_after p raw (read_of raw)) (a ++ b) ≡ raws_after (raws_after (raw_after p raw (read_of raw)) a) b
    → raws_after p (raw ∷ (a ++ b)) ≡ raws_after (raws_after p (raw ∷ a)) b
after_by true p raw a b e later =
    ended_after p (raw ∷ (a ++ b)) e ∙ sym (
    ap (λ (q : Place). raws_after q b) (ended_after p (raw ∷ a) e) ∙ ended_after p b e)
after_by false p raw a b e later =
    after_on p raw (a ++ b) e ∙ later ∙ ap (λ (q : Place). raws_after q b) (sym (after_on p raw a e))

pub after_append : (p : Place) (a b : List Raw) → raws_after p (a ++ b) ≡ raws_after (raws_after p a) b
after_append p [] b = refl
after_append p (raw ∷ a) b = after_by p.ended p raw a b refl (after_append (raw_after p raw (read_of raw)) a b)

-- ---- pieces

-- a fault that was told is told once
silent : (s : Stream) (pieces : List (List ℕ)) → s.fault_told ≡ true → (run_of s pieces).raws ≡ []
silent s [] e = refl
silent s (piece ∷ pieces) e =
    let told : (stream_after s piece).fault_told ≡ true = rw e refl in
    let none : (cut_of_piece s piece).raws ≡ [] = rw e refl in
    ap (λ (raws : List Raw). raws ++ (run_of (stream_after s piece) pieces).raws) none ∙ silent (stream_after s piece) pieces told

told_by : (t : Bool) (o : Option CutFault) → is_some o ≡ true → told_after t o ≡ true
told_by true o e = refl
told_by false o e = e

-- the text of records and of what ends them
abbrev texts : Place → List Raw → Option CutFault → List ℕ
texts p raws cause = raws_text p raws ++ cut_text (raws_after p raws) cause

ended_texts : (p : Place) (raws : List Raw) (cause : Option CutFault) → p.ended ≡ true → texts p raws cause ≡ []
ended_texts p raws cause e =
    ap (λ (t : List ℕ). t ++ cut_text (raws_after p raws) cause) (ended_text p raws e)
    ∙ ap (λ (q : Place). cut_text q cause) (ended_after p raws e) ∙ ended_cut p cause e

pieces_by : (o later end : Option CutFault) (p : Place) (a b : List Raw) (tail : List ℕ) → (is_some o ≡ true → b ≡ []) →
    tail ≡ texts (cut_after (raws_after p a) o) b (option_or later end)
    → texts p a o ++ tail ≡ texts p (a ++ b) (option_or (option_or o later) end)
pieces_by None later end p a b tail none is =
    let q = raws_after p a in
    ap (λ (t : List ℕ). t ++ tail) (append-nil (raws_text p a))
    ∙ ap (λ (t : List ℕ). raws_text p a ++ t) is
    ∙ sym (append_assoc (raws_text p a) (raws_text q b) (cut_text (raws_after q b) (option_or later end)))
    ∙ ap (λ (t : List ℕ). t ++ cut_text (raws_after q b) (option_or later end)) (sym (text_append p a b))
    ∙ ap (λ (r : Place). raws_text p (a ++ b) ++ cut_text r (option_or later end)) (sym (after_append p a b))
pieces_by (Some fault) later end p a b tail none is =
    let nothing : tail ≡ [] = is ∙ ended_texts (cut_after (raws_after p a) (Some fault)) b (option_or later end) refl in
    ap (λ (t : List ℕ). texts p a (Some fault) ++ t) nothing ∙ append-nil (texts p a (Some fault))
    ∙ ap (λ (raws : List Raw). texts p raws (Some fault)) (sym (append-nil a))
    ∙ ap (λ (raws : List Raw). texts p (a ++ raws) (Some fault)) (sym (none refl))

run_text : (s : Shown) (pieces : List (List ℕ)) → pieces_text s pieces
    ≡ texts s.place (run_of s.stream pieces).raws
    (option_or (run_of s.stream pieces).cause (end_fault (run_of s.stream pieces).stream))
run_text s [] = refl
run_text s (piece ∷ pieces) =
    let c = cut_of_piece s.stream piece in
    let later = run_of (stream_after s.stream piece) pieces in
    pieces_by c.cause later.cause (end_fault later.stream) s.place c.raws later.raws (pieces_text (piece_after s piece) pieces)
    (λ e. silent (stream_after s.stream piece) pieces (told_by s.stream.fault_told c.cause e))
    (run_text (piece_after s piece) pieces)

-- behind a fault nothing is shown
pub ended_silent : (s : Shown) (pieces : List (List ℕ)) → s.place.ended ≡ true → pieces_text s pieces ≡ []
ended_silent s pieces e =
    run_text s pieces ∙ ended_texts s.place (run_of s.stream pieces).raws
    (option_or (run_of s.stream pieces).cause (end_fault (run_of s.stream pieces).stream)) e

pub or_none : (o : Option CutFault) → option_or o None ≡ o
or_none None = refl
or_none (Some fault) = refl

-- the law of `redo_wire` on what two pieces give, and leave
abbrev pub PiecesGiven : Type 0
PiecesGiven = (s : Stream) (a b : List ℕ) → cut_of_piece s (a ++ b) ≡
    joined_cut (cut_of_piece s a) (cut_of_piece (stream_after s a) b)

abbrev pub PiecesLeft : Type 0
PiecesLeft = (s : Stream) (a b : List ℕ) → stream_after s (a ++ b) ≡ stream_after (stream_after s a) b

pub as_two : PiecesGiven → PiecesLeft → (s : Shown) (a b : List ℕ) → pieces_text s ((a ++ b) ∷ []) ≡ pieces_text s (a ∷ b ∷ [])
as_two given left s a b =
    let one = cut_of_piece s.stream a in
    let two = cut_of_piece (stream_after s.stream a) b in
    let end : Option CutFault = end_fault (stream_after (stream_after s.stream a) b) in
    run_text s ((a ++ b) ∷ [])
    ∙ ap (λ (t : Stream). texts s.place ((cut_of_piece s.stream (a ++ b)).raws ++ [])
    (option_or (option_or (cut_of_piece s.stream (a ++ b)).cause None) (end_fault t))) (left s.stream a b)
    ∙ ap (λ (c : Cut). texts s.place (c.raws ++ []) (option_or (option_or c.cause None) end)) (given s.stream a b)
    ∙ ap (λ (raws : List Raw). texts s.place raws (option_or (option_or (option_or one.cause two.cause) None) end))
    (append_assoc one.raws two.raws [])
    ∙ ap (λ (o : Option CutFault). texts s.place (one.raws ++ (two.raws ++ [])) (option_or o end))
    (or_none (option_or one.cause two.cause) ∙ ap (option_or one.cause) (sym (or_none two.cause)))
    ∙ sym (run_text s (a ∷ b ∷ []))

-- ---- the log as a whole

-- the laws of `redo_wire` on pieces
abbrev pub PiecesGive : Type 0
PiecesGive = (h : Header) (rec at done : ℕ) (pieces : List (List ℕ)) →
    as_cut (run_of (stream_at h rec at done) pieces) ≡
    cut_off h (h.count - done) (record { rec = rec; at = at; done = done }) (concat pieces)

abbrev pub PiecesEnd : Type 0
PiecesEnd = (h : Header) (rec at done : ℕ) (pieces : List (List ℕ)) →
    end_fault (run_of (stream_at h rec at done) pieces).stream ≡
    missing_after h (cut_off h (h.count - done) (record { rec = rec; at = at; done = done }) (concat pieces))

abbrev whole_text : Header → List ℕ → List ℕ
whole_text h bytes =
    let c = cut_off h (h.count - 0) (record { rec = 1; at = 40; done = 0 }) bytes in
    texts (shown_at h).place c.raws (option_or c.cause (missing_after h c))

by_bytes : PiecesGive → PiecesEnd → (h : Header) (pieces : List (List ℕ)) →
    pieces_text (shown_at h) pieces ≡ whole_text h (concat pieces)
by_bytes give end h pieces =
    let r = run_of (stream_at h 1 40 0) pieces in
    run_text (shown_at h) pieces
    ∙ ap (λ (o : Option CutFault). texts (shown_at h).place r.raws (option_or r.cause o)) (end h 1 40 0 pieces)
    ∙ ap (λ (c : Cut). texts (shown_at h).place c.raws
    (option_or c.cause (missing_after h (cut_off h (h.count - 0) (record { rec = 1; at = 40; done = 0 }) (concat pieces)))))
    (give h 1 40 0 pieces)

pub as_one : PiecesGive → PiecesEnd → (h : Header) (pieces : List (List ℕ)) →
    pieces_text (shown_at h) pieces ≡ pieces_text (shown_at h) (concat pieces ∷ [])
as_one give end h pieces =
    by_bytes give end h pieces ∙ ap (whole_text h) (sym (append-nil (concat pieces)))
    ∙ sym (by_bytes give end h (concat pieces ∷ []))

-- ---- records without a fault

abbrev records_of_entries : List Entry → List RedoRec
records_of_entries entries = map (λ e. e.1) entries

decoded_by : (p : Place) (raw : Raw) (raws : List Raw) (cause : Option CutFault) (r : Result RedoRec Fault) → p.ended ≡ false →
    (decoded_or raw.head r (records_of_raws raws cause)).cause ≡ None
    → ((q : Place) → q.ended ≡ false → (records_of_raws raws cause).cause ≡ None →
    texts q raws cause ≡ records_text q.tables (records_of_entries (records_of_raws raws cause).entries))
    → (raw_text p raw r ++ raws_text (raw_after p raw r) raws) ++ cut_text (raws_after (raw_after p raw r) raws) cause
    ≡ records_text p.tables (records_of_entries (decoded_or raw.head r (records_of_raws raws cause)).entries)
decoded_by p raw raws cause (Err f) open_yet none later = absurd cc
decoded_by p raw raws cause (Ok r) open_yet none later =
    append_assoc (record_text p.tables r) (raws_text (raw_after p raw (Ok r)) raws)
    (cut_text (raws_after (raw_after p raw (Ok r)) raws) cause)
    ∙ ap (λ (t : List ℕ). record_text p.tables r ++ t) (later (raw_after p raw (Ok r)) open_yet none)

decoded_text : (p : Place) (raws : List Raw) (cause : Option CutFault) → p.ended ≡ false →
    (records_of_raws raws cause).cause ≡ None →
    texts p raws cause ≡ records_text p.tables (records_of_entries (records_of_raws raws cause).entries)
decoded_text p [] None e none = refl
decoded_text p [] (Some fault) e none = absurd cc
decoded_text p (raw ∷ raws) cause e none =
    ap (λ (t : List ℕ). t ++ cut_text (raws_after p (raw ∷ raws)) cause) (text_on p raw raws e)
    ∙ ap (λ (q : Place). (raw_text p raw (read_of raw) ++ raws_text (raw_after p raw (read_of raw)) raws) ++ cut_text q cause)
    (after_on p raw raws e)
    ∙ decoded_by p raw raws cause (record_at raw.bytes) e none (λ q f n. decoded_text q raws cause f n)

-- ---- a spelled log

some_byte : (v : Vector) → 1 ≤ length (vector v)
some_byte (vectors.Start x) = omega arith
some_byte (vectors.Change c) = omega arith
some_byte (vectors.Undo x) = omega arith
some_byte (vectors.Commit x) = omega arith
some_byte (vectors.Rollback x) = omega arith
some_byte (vectors.Table t) = omega arith
some_byte vectors.DictEnd = omega arith

some_body : (vs : List Vector) → 1 ≤ length vs → 1 ≤ length (flat_map vector vs)
some_body [] some = absurd (omega (arith, some))
some_body (v ∷ vs) some = let first = some_byte v in omega (arith, first, length-append (vector v) (flat_map vector vs))

record_length : (r : RedoRec) → length (record_bytes r) ≡ 14 + length (flat_map vector r.vectors)
record_length r = omega arith

-- a spelled record is cut off, whatever follows it
cut_first : (r : RedoRec) (rest : List ℕ) → IsRecord r → first_record (record_bytes r ++ rest) ≡ Ok (record_bytes r, rest)
cut_first r rest ok =
    let size = 14 + length (flat_map vector r.vectors) in
    let body = some_body r.vectors ok.some in
    let short = ok.size in
    let most = ok.most in
    let long : length (record_bytes r ++ rest) ≡ size + length rest =
    length-append (record_bytes r) rest ∙ ap (λ n. n + length rest) (record_length r) in
    let is_size : number_in w32 0 (record_bytes r ++ rest) ≡ size = from_be_bytes-to_be_bytes_4 size (omega (arith, short)) in
    let is_count : number_in w16 12 (record_bytes r ++ rest) ≡ length r.vectors =
    from_be_bytes-to_be_bytes_2 (length r.vectors) (omega (arith, most)) in
    let taken : take size (record_bytes r ++ rest) ≡ record_bytes r =
    ap (λ n. take n (record_bytes r ++ rest)) (sym (record_length r)) ∙ take-append_seam (record_bytes r) rest in
    let left : drop size (record_bytes r ++ rest) ≡ rest =
    ap (λ n. drop n (record_bytes r ++ rest)) (sym (record_length r)) ∙ drop-append_seam (record_bytes r) rest in
    cut_by (record_bytes r ++ rest) size (length r.vectors) is_size is_count (omega (arith, body)) short
    (omega (arith, long)) ok.some most
    ∙ (λ i. Ok (taken i, left i))

-- the law of `redo_vec` by which a spelled record is read
abbrev pub SpelledIsRead : Type 0
SpelledIsRead = (r : RedoRec) → IsRecord r → record_at (record_bytes r) ≡ Ok r

abbrev pub entries_with : Header → List RedoRec → Records
entries_with h rs = record { entries = map (λ r. (h, r)) rs; cause = None }

records_read : SpelledIsRead → (h : Header) (rs : List RedoRec) → AllByRecursion IsRecord rs →
    records_in h (length rs) (flat_map record_bytes rs) ≡ entries_with h rs
records_read read h [] ok = refl
records_read read h (r ∷ rs) ok =
    let later = flat_map record_bytes rs in
    ap (λ o. records_of_cut o (λ cut rest. decoded_or h (record_at cut) (records_in h (length rs) rest))) (cut_first r later ok.0)
    ∙ ap (λ o. decoded_or h o (records_in h (length rs) later)) (read r ok.0)
    ∙ ap (with_entry (h, r)) (records_read read h rs ok.1)

records_again : (h : Header) (rs : List RedoRec) → records_of_entries (entries_with h rs).entries ≡ rs
records_again h [] = refl
records_again h (r ∷ rs) = ap (λ (xs : List RedoRec). r ∷ xs) (records_again h rs)

-- the law of `redo_wire` on the records of pieces
abbrev pub PiecesRead : Type 0
PiecesRead = (h : Header) (rec at done : ℕ) (pieces : List (List ℕ)) → done ≤ h.count →
    records_in h (h.count - done) (concat pieces)
    ≡ records_of_raws (run_of (stream_at h rec at done) pieces).raws
    (option_or (run_of (stream_at h rec at done) pieces).cause (end_fault (run_of (stream_at h rec at done) pieces).stream))

-- what a run of pieces gives, decoded up to the first fault
abbrev pub run_records : Header → List (List ℕ) → Records
run_records h pieces =
    let r = run_of (stream_at h 1 40 0) pieces in records_of_raws r.raws (option_or r.cause (end_fault r.stream))

pub spelled_run : SpelledIsRead → PiecesRead → (l : Log) (pieces : List (List ℕ)) → IsLog l →
    concat pieces ≡ flat_map record_bytes l.records → run_records l.head pieces ≡ entries_with l.head l.records
spelled_run read cut l pieces ok whole =
    let h = l.head in
    let many : h.count - 0 ≡ length l.records = omega (arith, ok.counted) in
    sym (cut h 1 40 0 pieces (omega arith)) ∙ ap (records_in h (h.count - 0)) whole
    ∙ ap (λ (k : ℕ). records_in h k (flat_map record_bytes l.records)) many ∙ records_read read h l.records ok.each

pub log_shown : SpelledIsRead → PiecesRead → (l : Log) (pieces : List (List ℕ)) → IsLog l →
    concat pieces ≡ flat_map record_bytes l.records → pieces_text (shown_at l.head) pieces ≡ records_text [] l.records
log_shown read cut l pieces ok whole =
    let h = l.head in
    let r = run_of (stream_at h 1 40 0) pieces in
    let is = spelled_run read cut l pieces ok whole in
    run_text (shown_at h) pieces
    ∙ decoded_text (shown_at h).place r.raws (option_or r.cause (end_fault r.stream)) refl (ap (λ (x : Records). x.cause) is)
    ∙ ap (λ (x : Records). records_text [] (records_of_entries x.entries)) is
    ∙ ap (records_text []) (records_again h l.records)
