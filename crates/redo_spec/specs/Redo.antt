-- The redo of archived logs: their records in order, and what ends them.
-- A log's records are cut one after another (`redo_vec`, Cutting) and decoded (`redo_vec`, Reading); the first fault ends
-- the redo, and so does a gap: an absent log. Records count from 1 over all logs. What a log is read for decides where its
-- header is tested: a registered log has a good one, `fold` and `mine` meet it as they come to the log.
use Rattle.std.specs.Prelude.{ℕ, zero, suc, ◌+◌, ◌-◌, List, [], ◌∷◌, ◌++◌, length, map, drop, not, ◌==◌, if◌then◌else◌, Option, Some, None, Result, Ok, Err}
use Rattle.std.specs.Option.{option_or}
use Rattle.rl_value.specs.declared.cause.HeadFault.{HeadFault}
use Rattle.rl_value.specs.declared.cause.HeadFault.TheVariants as heads
use Rattle.rl_value.specs.declared.cause.CutFault.{CutFault}
use Rattle.rl_value.specs.declared.cause.CutFault.TheVariants as cuts
use Rattle.rl_value.specs.declared.cause.Cause.{Cause}
use Rattle.rl_value.specs.declared.cause.Cause.TheVariants.{Head, Cut, Vector}
use Rattle.rl_value.specs.declared.verdict.Stop.{Stop}
use Rattle.rl_value.specs.declared.verdict.Stop.TheVariants.{Drained, Gap, Malformed}
use Rattle.rl_value.specs.Outcome.{first_fault}
use Rattle.redo_vec.specs.declared.redo_rec.RedoRec.{RedoRec}
use Rattle.redo_vec.specs.Cutting.{first_record}
use Rattle.redo_vec.specs.Reading.{Fault, record_at}
use Rattle.redo_spec.specs.declared.header.Header.{Header}
use Rattle.redo_spec.specs.Log.{Log}
use Rattle.redo_spec.specs.LogHeader.{header_in, header_fault}
use Rattle.redo_spec.specs.History.{Entry}
use Rattle.redo_spec.specs.Fold.{Folded, fold_of_redo}

-- ---- the records of one log

-- the records of a log up to its first fault
pub record Records : Type 0 where
  pub entries : List Entry
  pub cause : Option Cause

abbrev pub records_ended_by : Cause → Records
records_ended_by cause = record { entries = []; cause = Some cause }

abbrev pub with_entry : Entry → Records → Records
with_entry e r = record { entries = e ∷ r.entries; cause = r.cause }

-- a record that was cut off, unless it does not decode, and then the later ones
abbrev pub decoded_or : Header → Result RedoRec Fault → Records → Records
decoded_or h (Err f) later = records_ended_by (Vector f.fault f.place)
decoded_or h (Ok r) later = with_entry (h, r) later

-- what follows on the first record and the bytes behind it, unless none can be cut off
abbrev pub records_of_cut : Result (List ℕ × List ℕ) CutFault → (List ℕ → List ℕ → Records) → Records
records_of_cut (Err fault) next = records_ended_by (Cut fault)
records_of_cut (Ok cut) next = next cut.0 cut.1

-- so many records, and then nothing
abbrev pub records_in : Header → ℕ → List ℕ → Records
records_in h zero [] = record { entries = []; cause = None }
records_in h zero (b ∷ bytes) = records_ended_by (Cut cuts.Trailing)
records_in h (suc count) bytes = records_of_cut (first_record bytes)
    (λ cut rest. decoded_or h (record_at cut) (records_in h count rest))

-- the records of a whole log
abbrev pub records_of : List ℕ → Records
records_of bytes = let h = header_in bytes in records_in h h.count (drop 40 bytes)

-- the records of a log, each with the header
abbrev pub entries_of : Log → List Entry
entries_of l = map (λ r. (l.head, r)) l.records

-- ---- the redo of several logs

-- the records of the redo in order, and what ends them
pub record Redo : Type 0 where
  pub entries : List Entry
  pub stop : Stop

-- these records follow on record rec; where a cause ends them it is that of the next record, and else later ones follow
abbrev pub redo_behind : Option Cause → ℕ → List Entry → Redo → Redo
redo_behind (Some cause) rec entries later = record { entries = entries; stop = Malformed (rec + length entries + 1) cause }
redo_behind None rec entries later = record { entries = entries ++ later.entries; stop = later.stop }

abbrev pub redo_after_records : ℕ → Records → Redo → Redo
redo_after_records rec r later = redo_behind r.cause rec r.entries later

abbrev pub redo_ended_by : Stop → Redo
redo_ended_by stop = record { entries = []; stop = stop }

-- registered logs in order of their sequences, from this sequence on, behind this many records
abbrev pub redo_from : ℕ → ℕ → List (ℕ × List ℕ) → Redo
redo_from seq rec [] = redo_ended_by Drained
redo_from seq rec ((s, bytes) ∷ logs) =
    if s == seq then (let r = records_of bytes in redo_after_records rec r (redo_from (seq + 1) (rec + length r.entries) logs))
    else redo_ended_by (Gap seq (s - 1))

-- ---- fold: one log

abbrev pub fold_of_header : Option HeadFault → ℕ → List ℕ → Folded
fold_of_header (Some fault) seq bytes = fold_of_redo seq 0 [] (Malformed 1 (Head fault))
fold_of_header None seq bytes = let redo = redo_from seq 0 ((seq, bytes) ∷ []) in
    fold_of_redo seq ((header_in bytes).first - 1) redo.entries redo.stop

-- The fold of one log over empty tables. An absent log is a gap. Where the log is absent or its header is refused, the base
-- SCN is 0, and no table is known.
abbrev pub fold_of_log : ℕ → Option (List ℕ) → Folded
fold_of_log seq None = fold_of_redo seq 0 [] (Gap seq seq)
fold_of_log seq (Some bytes) = fold_of_header (header_fault seq bytes) seq bytes

-- ---- mine: logs of consecutive sequences, each met as it comes

-- a log of another database than this one
abbrev pub dbid_fault : Option ℕ → List ℕ → Option HeadFault
dbid_fault None bytes = None
dbid_fault (Some dbid) bytes = first_fault ((not ((header_in bytes).dbid == dbid), heads.Dbid) ∷ [])

-- the first fault of a log's header, where this sequence was asked for and, behind a first log, this database
abbrev pub mined_header_fault : Option ℕ → ℕ → List ℕ → Option HeadFault
mined_header_fault dbid seq bytes = option_or (header_fault seq bytes) (dbid_fault dbid bytes)

-- a log whose header is refused ends the redo at the number of the next record
abbrev pub redo_unless_refused : Option HeadFault → ℕ → Redo → Redo
redo_unless_refused (Some fault) rec later = redo_ended_by (Malformed (rec + 1) (Head fault))
redo_unless_refused None rec later = later

-- what follows on a log that is there; one that is absent is the gap
abbrev pub present_or : ℕ → Option (List ℕ) → (List ℕ → Redo) → Redo
present_or seq None next = redo_ended_by (Gap seq seq)
present_or seq (Some bytes) next = next bytes

-- so many logs from this sequence on, behind this many records, of this database where it is known
abbrev pub mined_redo_from : (ℕ → Option (List ℕ)) → Option ℕ → ℕ → ℕ → ℕ → Redo
mined_redo_from logs dbid zero seq rec = redo_ended_by Drained
mined_redo_from logs dbid (suc count) seq rec = present_or seq (logs seq)
    (λ bytes. redo_unless_refused (mined_header_fault dbid seq bytes) rec
    (let r = records_of bytes in
    redo_after_records rec r (mined_redo_from logs (option_or dbid (Some (header_in bytes).dbid)) count (seq + 1)
    (rec + length r.entries))))

-- the redo of the logs of these sequences, both included
abbrev pub mined_redo : (ℕ → Option (List ℕ)) → ℕ → ℕ → Redo
mined_redo logs first last = mined_redo_from logs None (last + 1 - first) first 0
