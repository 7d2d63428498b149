-- A log's bytes as a stream: the records that are cut off it so far, and what is left.
-- The first record of bytes is that of `redo_vec` (Cutting); bytes that hold no whole record wait for more.
use Rattle.std.specs.Prelude.{ℕ, zero, suc, ◌+◌, ◌-◌, ◌*◌, ◌^◌, ◌≤◌, ◌<◌, ◌||◌, ◌==◌, if◌then◌else◌, List, [], ◌∷◌, ◌++◌, length, Bool, true, false, Option, Some, None, Result, Ok, Err, is_some}
use Rattle.std.specs.Option.{option_or}
use Rattle.rl_value.specs.declared.cause.CutFault.{CutFault}
use Rattle.rl_value.specs.declared.cause.CutFault.TheVariants as cuts
use Rattle.redo_vec.specs.Cutting.{first_record}
use Rattle.redo_spec.specs.declared.header.Header.{Header}
use Rattle.redo_wire.specs.declared.raw.Raw.{Raw}
use Rattle.redo_wire.specs.declared.cutting.LogPlace.{LogPlace}

-- the place behind a record of these bytes
abbrev pub log_place_behind : LogPlace → List ℕ → LogPlace
log_place_behind p bytes = record { rec = p.rec + 1; at = p.at + length bytes; done = p.done + 1 }

abbrev pub raw_of_bytes : Header → LogPlace → List ℕ → Raw
raw_of_bytes h p bytes = record { rec = p.rec; head = h; end = p.at + length bytes; done = p.done + 1; bytes = bytes }

-- the records that bytes give, the place behind them, the bytes that are left, and the first fault
pub record Cut : Type 0 where
  pub raws : List Raw
  pub place : LogPlace
  pub left : List ℕ
  pub cause : Option CutFault

-- what is told of a record that cannot be cut off: bytes that hold no whole record wait, and nothing is told
abbrev pub told_of : CutFault → Option CutFault
told_of cuts.Truncated = None
told_of cuts.Length = Some cuts.Length
told_of cuts.Count = Some cuts.Count
told_of cuts.Trailing = Some cuts.Trailing

-- bytes wait for more, unless a fault was told
abbrev pub left_after : Option CutFault → List ℕ → List ℕ
left_after None bytes = bytes
left_after (Some fault) bytes = []

abbrev pub cut_ended_by : CutFault → LogPlace → List ℕ → Cut
cut_ended_by fault p bytes = record { raws = []; place = p; left = left_after (told_of fault) bytes; cause = told_of fault }

abbrev pub with_raw : Raw → Cut → Cut
with_raw raw c = record { raws = raw ∷ c.raws; place = c.place; left = c.left; cause = c.cause }

-- the same behind records that were cut off before
abbrev pub with_raws : List Raw → Cut → Cut
with_raws before c = record { raws = before ++ c.raws; place = c.place; left = c.left; cause = c.cause }

abbrev pub cut_or : Result (List ℕ × List ℕ) CutFault → LogPlace → List ℕ → (List ℕ → List ℕ → Cut) → Cut
cut_or (Err fault) p bytes next = cut_ended_by fault p bytes
cut_or (Ok found) p bytes next = next found.0 found.1

-- so many records off these bytes, and nothing behind them
abbrev pub cut_off : Header → ℕ → LogPlace → List ℕ → Cut
cut_off h zero p [] = record { raws = []; place = p; left = []; cause = None }
cut_off h zero p (b ∷ bytes) = cut_ended_by cuts.Trailing p (b ∷ bytes)
cut_off h (suc count) p bytes = cut_or (first_record bytes) p bytes
    (λ found rest. with_raw (raw_of_bytes h p found) (cut_off h count (log_place_behind p found) rest))

-- ---- a cutter

-- the log's header, the place of the next record, the bytes that wait, and whether a fault was told
pub record Stream : Type 0 where
  pub head : Header
  pub place : LogPlace
  pub left : List ℕ
  pub fault_told : Bool

-- the numbers of the records that may still come fit their fields
pub record NumbersFit (h : Header) (p : LogPlace) : Type 0 where
  pub done : p.done ≤ h.count
  pub rec : p.rec + (h.count - p.done) < 2 ^ 64
  pub at : p.at + 65536 * (h.count - p.done) < 2 ^ 64

abbrev pub stream_at : Header → ℕ → ℕ → ℕ → Stream
stream_at h rec at done = record { head = h; place = record { rec = rec; at = at; done = done }; left = []; fault_told = false }

abbrev pub empty_cut : Stream → Cut
empty_cut s = record { raws = []; place = s.place; left = s.left; cause = None }

abbrev pub cut_unless_told : Bool → Stream → List ℕ → Cut
cut_unless_told true s bytes = empty_cut s
cut_unless_told false s bytes = cut_off s.head (s.head.count - s.place.done) s.place (s.left ++ bytes)

-- what a stream gives for these bytes, which follow on those before; after a fault nothing
abbrev pub cut_of_piece : Stream → List ℕ → Cut
cut_of_piece s bytes = cut_unless_told s.fault_told s bytes

abbrev pub told_after : Bool → Option CutFault → Bool
told_after true cause = true
told_after false cause = is_some cause

-- the stream after these bytes
abbrev pub stream_after : Stream → List ℕ → Stream
stream_after s bytes = record {
  head = s.head;
  place = (cut_of_piece s bytes).place;
  left = (cut_of_piece s bytes).left;
  fault_told = told_after s.fault_told (cut_of_piece s bytes).cause;
}

-- the records of pieces one after the other, the first fault among them, and the stream behind them
pub record Run : Type 0 where
  pub raws : List Raw
  pub cause : Option CutFault
  pub stream : Stream

abbrev pub run_of : Stream → List (List ℕ) → Run
run_of s [] = record { raws = []; cause = None; stream = s }
run_of s (piece ∷ pieces) =
    let later = run_of (stream_after s piece) pieces in
    record {
      raws = (cut_of_piece s piece).raws ++ later.raws;
      cause = option_or (cut_of_piece s piece).cause later.cause;
      stream = later.stream;
    }

-- one cut after another
abbrev pub joined_cut : Cut → Cut → Cut
joined_cut c d = record { raws = c.raws ++ d.raws; place = d.place; left = d.left; cause = option_or c.cause d.cause }

-- what a run gave, as one cut
abbrev pub as_cut : Run → Cut
as_cut r = record { raws = r.raws; place = r.stream.place; left = r.stream.left; cause = r.cause }

-- what the end of the log's bytes tells: records are missing, unless a fault was told before
abbrev pub end_fault : Stream → Option CutFault
end_fault s = if s.fault_told || (s.place.done == s.head.count) then None else Some cuts.Truncated
