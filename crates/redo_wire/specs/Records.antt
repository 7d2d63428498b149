-- Records that were cut off a log: how they stand in it, and the log's records as those that were cut, decoded.
-- A log's records by themselves are those of `redo_spec` (Redo): cut one after another and decoded, up to the first fault.
use Rattle.std.specs.Prelude.{◌≡◌, ◌+◌, ◌≤◌, ◌||◌, ◌==◌, if◌then◌else◌, List, [], ◌∷◌, length, Option, Some, None, Ok, is_some}
use Rattle.rl_value.specs.declared.cause.CutFault.{CutFault}
use Rattle.rl_value.specs.declared.cause.CutFault.TheVariants as cuts
use Rattle.rl_value.specs.declared.cause.Cause.TheVariants.{Cut as CutCause}
use Rattle.redo_vec.specs.Cutting.{first_record}
use Rattle.redo_vec.specs.Reading.{record_at}
use Rattle.redo_spec.specs.declared.header.Header.{Header}
use Rattle.redo_spec.specs.Redo.{Records, records_ended_by, decoded_or}
use Rattle.redo_wire.specs.declared.raw.Raw.{Raw}
use Rattle.redo_wire.specs.declared.cutting.LogPlace.{LogPlace}
use Rattle.redo_wire.specs.Stream.{Cut, log_place_behind}

-- a record that was cut off at this place of the log with this header; the cutter takes its bytes as one record
pub record IsFramed (h : Header) (p : LogPlace) (raw : Raw) : Type 0 where
  pub rec : raw.rec ≡ p.rec
  pub head : raw.head ≡ h
  pub end : raw.end ≡ p.at + length raw.bytes
  pub done : raw.done ≡ p.done + 1
  pub within : raw.done ≤ h.count
  pub whole : first_record raw.bytes ≡ Ok (raw.bytes, [])

-- records that stand one behind the other from this place on
abbrev pub AreFramed : Header → LogPlace → List Raw → Type 0
AreFramed h p [] = Unit {0}
AreFramed h p (raw ∷ raws) = IsFramed h p raw × AreFramed h (log_place_behind p raw.bytes) raws

-- what the end of the log's bytes tells behind a cut: records are missing, unless a fault was told
abbrev pub missing_after : Header → Cut → Option CutFault
missing_after h c = if is_some c.cause || (c.place.done == h.count) then None else Some cuts.Truncated

-- framed records decoded in order, and then this fault; a record that does not decode ends them
abbrev pub records_of_raws : List Raw → Option CutFault → Records
records_of_raws [] None = record { entries = []; cause = None }
records_of_raws [] (Some fault) = records_ended_by (CutCause fault)
records_of_raws (raw ∷ raws) cause = decoded_or raw.head (record_at raw.bytes) (records_of_raws raws cause)
