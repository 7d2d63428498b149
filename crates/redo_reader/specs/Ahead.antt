-- What is ahead of a place in the redo of registered logs: the records that are cut off, and what ends them.
-- The bytes are those that the archive tells. A log's records are cut by its header (`redo_wire`, Stream); behind its last
-- one the next sequence follows, unless a fault of the cutter ends the redo, and a sequence that is not registered is a gap
-- where a later one is.
use Rattle.std.specs.Prelude.{ℕ, ◌+◌, ◌-◌, ◌==◌, if◌then◌else◌, List, [], ◌∷◌, ◌++◌, drop, map, Option, Some, None, Result, Ok, Err}
use Rattle.std.specs.Option.{option_or}
use Rattle.rl_value.specs.declared.cause.CutFault.{CutFault}
use Rattle.rl_value.specs.declared.cause.Cause.TheVariants.{Cut as CutCause, Vector}
use Rattle.rl_value.specs.declared.verdict.Stop.{Stop}
use Rattle.rl_value.specs.declared.verdict.Stop.TheVariants.{Drained, Gap, Malformed}
use Rattle.redo_vec.specs.declared.redo_rec.RedoRec.{RedoRec}
use Rattle.redo_vec.specs.Reading.{Fault, record_at}
use Rattle.redo_spec.specs.declared.header.Header.{Header}
use Rattle.redo_spec.specs.Redo.{Redo, redo_ended_by}
use Rattle.redo_wire.specs.declared.header.TheConstants.{HEADER_LENGTH}
use Rattle.redo_wire.specs.declared.raw.Raw.{Raw}
use Rattle.redo_wire.specs.declared.cutting.LogPlace.{LogPlace}
use Rattle.redo_wire.specs.Stream.{Cut, cut_off}
use Rattle.redo_wire.specs.Records.{missing_after}
use Rattle.log_registry.specs.declared.entry.LogEntry.{LogEntry}
use Rattle.log_registry.specs.Registered.{entries_from}
use Rattle.redo_reader.specs.declared.place.Place.{Place}

-- the bytes of a log; none where it is absent
abbrev pub bytes_or_none : Option (List ℕ) → List ℕ
bytes_or_none None = []
bytes_or_none (Some bytes) = bytes

-- records that are cut off, and what ends them
pub record Ahead : Type 0 where
  pub raws : List Raw
  pub stop : Stop

abbrev pub nothing_but : Stop → Ahead
nothing_but stop = record { raws = []; stop = stop }

abbrev pub raws_before : List Raw → Ahead → Ahead
raws_before raws later = record { raws = raws ++ later.raws; stop = later.stop }

-- records of a log, and behind them the record of this number with a fault, or what comes later
abbrev pub unless_broken : Option CutFault → ℕ → Ahead → Ahead
unless_broken (Some fault) rec later = nothing_but (Malformed rec (CutCause fault))
unless_broken None rec later = later

-- the fault that ends a log's records, at its end too
abbrev pub cause_of : Header → Cut → Option CutFault
cause_of h c = option_or c.cause (missing_after h c)

-- where a log begins, behind this many records
abbrev pub log_begin : ℕ → LogPlace
log_begin rec = record { rec = rec + 1; at = HEADER_LENGTH; done = 0 }

-- what a log gives from this place on, whose bytes are these, and then the later logs, behind so many records
abbrev pub in_log : Header → LogPlace → List ℕ → (ℕ → Ahead) → Ahead
in_log h p bytes later =
    let c = cut_off h (h.count - p.done) p (drop p.at bytes) in
    raws_before c.raws (unless_broken (cause_of h c) c.place.rec (later (c.place.rec - 1)))

-- the registered logs from this sequence on, the first of them from this place on
abbrev pub ahead_in : (ℕ → Option (List ℕ)) → ℕ → LogPlace → List LogEntry → Ahead
ahead_in logs seq p [] = nothing_but Drained
ahead_in logs seq p (e ∷ entries) =
    if e.head.seq == seq then in_log e.head p (bytes_or_none (logs seq)) (λ rec. ahead_in logs (seq + 1) (log_begin rec) entries)
    else nothing_but (Gap seq (e.head.seq - 1))

-- the place in the log that is read
abbrev pub in_its_log : Place → LogPlace
in_its_log p = record { rec = p.rec + 1; at = p.at; done = p.done }

-- what is ahead of a place
abbrev pub ahead : (ℕ → Option (List ℕ)) → List LogEntry → Place → Ahead
ahead logs registry p = ahead_in logs p.seq (in_its_log p) (entries_from p.seq registry)

-- ---- the same, decoded

-- a record that decodes, and then the later ones; behind this many records another is malformed
abbrev pub redo_with : Header → Result RedoRec Fault → ℕ → Redo → Redo
redo_with h (Err f) rec later = redo_ended_by (Malformed (rec + 1) (Vector f.fault f.place))
redo_with h (Ok r) rec later = record { entries = (h, r) ∷ later.entries; stop = later.stop }

abbrev pub redo_of_raws : ℕ → List Raw → Stop → Redo
redo_of_raws rec [] stop = redo_ended_by stop
redo_of_raws rec (raw ∷ raws) stop = redo_with raw.head (record_at raw.bytes) rec (redo_of_raws (rec + 1) raws stop)

-- what is ahead behind this many records, decoded up to the first record that does not decode
abbrev pub redo_of : ℕ → Ahead → Redo
redo_of rec a = redo_of_raws rec a.raws a.stop

-- the redo ahead of a place
abbrev pub redo_ahead : (ℕ → Option (List ℕ)) → List LogEntry → Place → Redo
redo_ahead logs registry p = redo_of p.rec (ahead logs registry p)

-- the bytes of registered logs, each with its sequence
abbrev pub told_logs : (ℕ → Option (List ℕ)) → List LogEntry → List (ℕ × List ℕ)
told_logs logs entries = map (λ e. (e.head.seq, bytes_or_none (logs e.head.seq))) entries

-- the place before the first record of a log
abbrev pub first_place : ℕ → ℕ → Place
first_place seq rec = record { seq = seq; at = HEADER_LENGTH; done = 0; rec = rec }
