-- A log shown as its bytes come, in whatever pieces: what each piece adds to the text.
-- The records are those that the cutter gives (redo_wire, Stream), decoded. The first fault is shown in a line, and after it
-- nothing.
use Rattle.std.specs.Prelude.{ℕ, ◌+◌, List, [], ◌∷◌, ◌++◌, take, drop, Bool, true, false, nat_lt, if◌then◌else◌, Option, Some, None, Result, Ok, Err}
use Rattle.rl_value.specs.declared.cause.CutFault.{CutFault}
use Rattle.redo_vec.specs.declared.redo_rec.RedoRec.{RedoRec}
use Rattle.redo_vec.specs.declared.table.TableRow.{TableRow}
use Rattle.redo_vec.specs.Reading.{Fault, record_at}
use Rattle.redo_spec.specs.declared.header.Header.{Header}
use Rattle.redo_wire.specs.declared.raw.Raw.{Raw}
use Rattle.redo_wire.specs.Stream.{Stream, stream_at, cut_of_piece, stream_after, end_fault}
use Rattle.redo_text.specs.declared.fault_line.LogFault.TheVariants as faults
use Rattle.redo_text.specs.FaultLine.{fault_line}
use Rattle.redo_text.specs.Heading.{most64}
use Rattle.redo_text.specs.Showing.{record_text, known_behind}

-- the tables that are known, the number of the next record and its offset, and whether a fault was shown
pub record Place : Type 0 where
  pub tables : List TableRow
  pub rec : ℕ
  pub at : ℕ
  pub ended : Bool

-- a number, or the greatest of 64 bits
abbrev pub capped : ℕ → ℕ
capped n = if nat_lt most64 n then most64 else n

-- how many bytes are shown at a fault
abbrev pub fault_bytes : ℕ
fault_bytes = 16

-- ---- one record

abbrev pub raw_text : Place → Raw → Result RedoRec Fault → List ℕ
raw_text p raw (Ok r) = record_text p.tables r
raw_text p raw (Err f) = fault_line raw.rec (faults.Vector f.fault) (capped (p.at + f.place))
    (take fault_bytes (drop f.place raw.bytes))

abbrev pub raw_after : Place → Raw → Result RedoRec Fault → Place
raw_after p raw (Ok r) = record {
  tables = known_behind p.tables r.vectors;
  rec = capped (raw.rec + 1);
  at = raw.end;
  ended = p.ended;
}
raw_after p raw (Err f) = record p { ended = true }

-- ---- the records of a piece

abbrev pub raws_text : Place → List Raw → List ℕ
raws_text p [] = []
raws_text p (raw ∷ raws) =
    if p.ended then [] else raw_text p raw (record_at raw.bytes) ++ raws_text (raw_after p raw (record_at raw.bytes)) raws

abbrev pub raws_after : Place → List Raw → Place
raws_after p [] = p
raws_after p (raw ∷ raws) = if p.ended then p else raws_after (raw_after p raw (record_at raw.bytes)) raws

-- ---- the fault of a piece, or of the end

abbrev pub cut_text : Place → Option CutFault → List ℕ
cut_text p None = []
cut_text p (Some fault) = if p.ended then [] else fault_line p.rec (faults.Cut fault) p.at []

abbrev pub cut_after : Place → Option CutFault → Place
cut_after p None = p
cut_after p (Some fault) = record p { ended = true }

-- a log that is shown so far
pub record Shown : Type 0 where
  pub stream : Stream
  pub place : Place

abbrev pub shown_at : Header → Shown
shown_at h = record { stream = stream_at h 1 40 0; place = record { tables = []; rec = 1; at = 40; ended = false } }

-- what a piece adds to the text
abbrev pub piece_text : Shown → List ℕ → List ℕ
piece_text s piece =
    let c = cut_of_piece s.stream piece in
    raws_text s.place c.raws ++ cut_text (raws_after s.place c.raws) c.cause

abbrev pub piece_after : Shown → List ℕ → Shown
piece_after s piece =
    let c = cut_of_piece s.stream piece in
    record { stream = stream_after s.stream piece; place = cut_after (raws_after s.place c.raws) c.cause }

-- what the end of the log's bytes adds
abbrev pub end_text : Shown → List ℕ
end_text s = cut_text s.place (end_fault s.stream)

-- whether a fault is shown there, or was before
abbrev pub end_ended : Shown → Bool
end_ended s = (cut_after s.place (end_fault s.stream)).ended

-- the text of a log that comes in these pieces, behind its header's lines
abbrev pub pieces_text : Shown → List (List ℕ) → List ℕ
pieces_text s [] = end_text s
pieces_text s (piece ∷ pieces) = piece_text s piece ++ pieces_text (piece_after s piece) pieces

-- whether a fault is shown of it
abbrev pub pieces_ended : Shown → List (List ℕ) → Bool
pieces_ended s [] = end_ended s
pieces_ended s (piece ∷ pieces) = pieces_ended (piece_after s piece) pieces
