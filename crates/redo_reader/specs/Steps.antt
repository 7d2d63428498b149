-- The reading side between two cuts: what its parts are to what is ahead.
-- The records that wait are the first of what the open log gives from the front on, and the cutter gives the others.
use Rattle.std.specs.Prelude.{ℕ, ◌≡◌, ◌+◌, ◌-◌, ◌*◌, ◌^◌, ◌<◌, ◌≤◌, List, [], ◌∷◌, ◌++◌, length, drop, Option, Some, None, IfSome, is_some, Result, Ok, ⊤}
use Rattle.std.specs.Option.{option_or}
use Rattle.rl_value.specs.declared.cause.CutFault.{CutFault}
use Rattle.rl_value.specs.declared.cause.Cause.TheVariants.{Cut as CutCause}
use Rattle.rl_value.specs.declared.verdict.Stop.{Stop}
use Rattle.rl_value.specs.declared.verdict.Stop.TheVariants as stops
use Rattle.rl_ports.specs.Faults.{Told}
use Rattle.redo_wire.specs.declared.raw.Raw.{Raw}
use Rattle.redo_wire.specs.declared.cutting.LogPlace.{LogPlace}
use Rattle.redo_wire.specs.Stream.{Cut as LogCut, Stream, log_place_behind as past, stream_at, cut_off, end_fault, stream_after, cut_of_piece, joined_cut, empty_cut}
use Rattle.redo_wire.specs.Records.{AreFramed}
use Rattle.log_registry.specs.declared.entry.LogEntry.{LogEntry}
use Rattle.log_registry.specs.Registered.{AreToldBy, count_of, entry_of, entries_from}
use Rattle.redo_reader.specs.declared.place.Place.{Place}
use Rattle.redo_reader.specs.declared.progress.OpenLog.{OpenLog}
use Rattle.redo_reader.specs.declared.progress.RedoEnd.{RedoEnd}
use Rattle.redo_reader.specs.declared.progress.RedoEnd.TheVariants as ends
use Rattle.redo_reader.specs.declared.cut.Cut.{Cut}
use Rattle.redo_reader.specs.declared.cut.CutError.{CutError}
use Rattle.redo_reader.specs.declared.cut.Cut.TheVariants as cuts
use Rattle.redo_reader.specs.declared.progress.Found.{Found}
use Rattle.redo_reader.specs.declared.progress.Found.TheVariants as founds
use Rattle.redo_reader.specs.declared.progress.Begun.{Begun}
use Rattle.redo_reader.specs.declared.progress.Begun.TheVariants as begins
use Rattle.redo_reader.specs.declared.progress.Look.{Look}
use Rattle.redo_reader.specs.declared.progress.Look.TheVariants as looks
use Rattle.redo_reader.specs.Ahead.{ahead, in_its_log, nothing_but}

-- an end as callers see it
abbrev pub stop_of : RedoEnd → Stop
stop_of ends.Drained = stops.Drained
stop_of (ends.Gap low high) = stops.Gap low high
stop_of (ends.Broken rec fault) = stops.Malformed rec (CutCause fault)

-- records that were cut, and the fault that was told with them, and then what is given later
abbrev pub with_raws : List Raw → Option CutFault → LogCut → LogCut
with_raws raws cause c = record { raws = raws ++ c.raws; place = c.place; left = c.left; cause = option_or cause c.cause }

-- the place behind records that follow one another
abbrev pub log_place_behind_all : LogPlace → List Raw → LogPlace
log_place_behind_all p [] = p
log_place_behind_all p (raw ∷ raws) = log_place_behind_all (past p raw.bytes) raws

-- ---- between two logs

-- nothing waits, and the log of the front may be begun there
pub record IsClosed (registry : List LogEntry) (front : Place) (waiting : List Raw) : Type 0 where
  pub none : waiting ≡ []
  pub at : front.at < 2 ^ 62
  pub done : IfSome (entry_of front.seq registry) (λ e. front.done ≤ e.head.count)
  pub room : front.rec + count_of (entries_from front.seq registry) < 2 ^ 63

-- ---- in a log

-- the log that is open is the one of the front; records wait from there on, and the cutter stands behind them
pub record IsOpenLog (registry : List LogEntry) (front : Place) (waiting : List Raw) (log : OpenLog) : Type 0 where
  pub entry : LogEntry
  pub later : List LogEntry
  pub from : entries_from front.seq registry ≡ entry ∷ later
  pub behind : entries_from (front.seq + 1) registry ≡ later
  pub last : front.seq + 1 ≡ 2 ^ 32 → later ≡ []
  pub seq : entry.head.seq ≡ front.seq
  pub head : log.cutter.head ≡ entry.head
  pub size : log.length ≡ entry.length
  pub framed : AreFramed log.cutter.head (in_its_log front) waiting
  pub place : log.cutter.place ≡ log_place_behind_all (in_its_log front) waiting
  pub fault_told : log.cutter.fault_told ≡ is_some log.cause
  pub settled : log.cause ≡ None → cut_of_piece log.cutter [] ≡ empty_cut log.cutter
  pub done : front.done ≤ entry.head.count
  pub room : front.rec + (entry.head.count - front.done) + count_of later < 2 ^ 63

abbrev pub IsAt : List LogEntry → Place → List Raw → Option OpenLog → Type 0
IsAt registry front waiting None = IsClosed registry front waiting
IsAt registry front waiting (Some log) = IsOpenLog registry front waiting log

-- what the log with these bytes gives from the front on: what waits, and then what the cutter gives
abbrev pub Continues : Place → List Raw → OpenLog → List ℕ → Type 0
Continues front waiting log bytes =
    cut_off log.cutter.head (log.cutter.head.count - front.done) (in_its_log front) (drop front.at bytes) ≡
    with_raws waiting log.cause (cut_of_piece log.cutter (drop log.offset bytes))

abbrev pub ContinuesIn : Place → List Raw → OpenLog → Option (List ℕ) → Type 0
ContinuesIn front waiting log None = ⊤
ContinuesIn front waiting log (Some bytes) = Continues front waiting log bytes

abbrev pub ContinuesAt : Place → List Raw → Option OpenLog → Option (List ℕ) → Type 0
ContinuesAt front waiting None found = ⊤
ContinuesAt front waiting (Some log) found = ContinuesIn front waiting log found

-- what is ahead of the place is what is ahead of the front
pub record IsInStep (logs : ℕ → Option (List ℕ)) (registry : List LogEntry) (place front : Place) (waiting : List Raw)
    (log : Option OpenLog) : Type 0 where
  pub same : ahead logs registry place ≡ ahead logs registry front
  pub gives : ContinuesAt front waiting log (logs front.seq)

pub record IsReading (known : Option (ℕ → Option (List ℕ))) (registry : List LogEntry) (place front : Place) (waiting : List Raw)
    (log : Option OpenLog) : Type 0 where
  pub rec : front.rec ≡ place.rec
  pub at : IsAt registry front waiting log
  pub told : Told known (λ logs. AreToldBy logs registry → IsInStep logs registry place front waiting log)

-- the same where an end was told: nothing else is ahead
abbrev pub EndsAt : Option (ℕ → Option (List ℕ)) → List LogEntry → Place → RedoEnd → Type 0
EndsAt known registry place e = Told known (λ logs. AreToldBy logs registry → ahead logs registry place ≡ nothing_but (stop_of e))

pub record IsSide (known : Option (ℕ → Option (List ℕ))) (registry : List LogEntry) (place front : Place) (waiting : List Raw)
    (log : Option OpenLog) (stop : Option RedoEnd) : Type 0 where
  pub reading : IsReading known registry place front waiting log
  pub ended : IfSome stop (EndsAt known registry place)

-- ---- a log is begun

-- a log that is opened at this place in it
abbrev pub open_log_at : LogEntry → Place → OpenLog
open_log_at e front = record {
  cutter = stream_at e.head (front.rec + 1) front.at front.done;
  length = e.length;
  offset = front.at;
  cause = None;
}

-- the log of the front, or the end
pub record IsBegun (registry : List LogEntry) (front : Place) (log : OpenLog) : Type 0 where
  pub entry : LogEntry
  pub later : List LogEntry
  pub from : entries_from front.seq registry ≡ entry ∷ later
  pub seq : entry.head.seq ≡ front.seq
  pub behind : entries_from (front.seq + 1) registry ≡ later
  pub last : front.seq + 1 ≡ 2 ^ 32 → later ≡ []
  pub opens : log ≡ open_log_at entry front

abbrev pub BeginsBy : List LogEntry → Place → Begun → Type 0
BeginsBy registry front (begins.Log log) = IsBegun registry front log
BeginsBy registry front (begins.End e) = (logs : ℕ → Option (List ℕ)) → ahead logs registry front ≡ nothing_but (stop_of e)

-- ---- a block is cut

-- whatever follows this piece is given by the stream behind it
abbrev pub GoesOn : Stream → List ℕ → Type 0
GoesOn s piece = (rest : List ℕ) → cut_of_piece s (piece ++ rest) ≡
    joined_cut (cut_of_piece s piece) (cut_of_piece (stream_after s piece) rest)

-- the log behind this piece, which gave these records
pub record IsFed (old new : OpenLog) (piece : List ℕ) (raws : List Raw) : Type 0 where
  pub gave : raws ≡ (cut_of_piece old.cutter piece).raws
  pub cause : new.cause ≡ (cut_of_piece old.cutter piece).cause
  pub cutter : new.cutter ≡ stream_after old.cutter piece
  pub on : GoesOn old.cutter piece
  pub framed : AreFramed old.cutter.head old.cutter.place raws
  pub offset : new.offset ≡ old.offset + length piece
  pub size : new.length ≡ old.length

-- a piece of the log's bytes at the offset
abbrev pub IsPieceOf : Option (List ℕ) → ℕ → List ℕ → Type 0
IsPieceOf None offset piece = ⊤
IsPieceOf (Some bytes) offset piece = drop offset bytes ≡ piece ++ drop (offset + length piece) bytes

-- nothing is left at the offset, if the log is as long as it was registered
abbrev pub IsAtEnd : Option (List ℕ) → OpenLog → Type 0
IsAtEnd None log = ⊤
IsAtEnd (Some bytes) log = log.length ≡ length bytes → drop log.offset bytes ≡ []

pub record IsCutBy (known : Option (ℕ → Option (List ℕ))) (seq : ℕ) (old new : OpenLog) (raws : List Raw) : Type 0 where
  pub piece : List ℕ
  pub none : old.cause ≡ None
  pub fed : IsFed old new piece raws
  pub some : 0 < length piece
  pub within : old.offset + length piece ≤ old.length
  pub told : Told known (λ logs. IsPieceOf (logs seq) old.offset piece)

-- the log's records are at their end, with the cutter's fault or that of the end of its bytes
pub record IsLogEnd (known : Option (ℕ → Option (List ℕ))) (seq : ℕ) (old new : OpenLog) (found : Option CutFault) : Type 0 where
  pub same : new ≡ old
  pub cause : option_or old.cause (end_fault old.cutter) ≡ found
  pub told : Told known (λ logs. old.cause ≡ None → IsAtEnd (logs seq) old)

abbrev pub Shows : Option (ℕ → Option (List ℕ)) → ℕ → OpenLog → OpenLog → Look → Type 0
Shows known seq old new (looks.Raws raws) = IsCutBy known seq old new raws.items
Shows known seq old new (looks.LogEnd fault) = IsLogEnd known seq old new fault

-- ---- how near the end is

abbrev pub left_in : Option OpenLog → ℕ
left_in None = 2 ^ 64 + 1
left_in (Some log) = log.length - log.offset

-- later logs, and what is left of this one
abbrev pub distance : Place → Option OpenLog → ℕ
distance front log = (2 ^ 32 - front.seq) * 2 ^ 65 + left_in log

-- ---- a step

-- the first of the records that wait is found, and behind it the others
abbrev pub FirstFound : List Raw → List Raw → Type 0 → Result Found CutError → Type 0
FirstFound [] after uncalled result = ⊤
FirstFound (raw ∷ raws) after uncalled result = (result ≡ Ok (founds.Raw raw)) × (after ≡ raws) × uncalled

-- nothing waited at first, or these records still wait and the archive was not called
abbrev pub WaitsOn : List Raw → List Raw → Type 0 → Type 0
WaitsOn [] waiting uncalled = ⊤
WaitsOn (raw ∷ raws) waiting uncalled = (waiting ≡ raw ∷ raws) × uncalled

-- what is given next
abbrev pub cut_of : Found → Cut
cut_of (founds.Raw raw) = cuts.Raw raw
cut_of (founds.End e) = cuts.End (stop_of e)
