-- The records of a redo handed to the evaluator one by one, and what then ends it.
use Rattle.std.specs.Prelude.{ℕ, ◌≡◌, List, [], true, false, Option, Some, None, Result, Ok, Err}
use Rattle.rl_value.specs.declared.cause.Cause.TheVariants.{Head, Vector}
use Rattle.rl_value.specs.declared.cause.HeadFault.TheVariants.{Dbid}
use Rattle.rl_value.specs.declared.verdict.Stop.{Stop}
use Rattle.rl_value.specs.declared.verdict.Stop.TheVariants.{Drained, Gap, Malformed}
use Rattle.redo_vec.specs.declared.redo_rec.RedoRec.{RedoRec}
use Rattle.redo_vec.specs.Reading.{Fault, record_at}
use Rattle.redo_spec.specs.declared.header.Header.{Header}
use Rattle.redo_spec.specs.Fold.{Folded, fold_of_redo}
use Rattle.redo_spec.specs.History.{Entry}
use Rattle.redo_spec.specs.Redo.{Redo}
use Rattle.redo_wire.specs.declared.raw.Raw.{Raw}
use Rattle.log_registry.specs.declared.fault.RegFault.{RegFault}
use Rattle.log_registry.specs.declared.fault.RegFault.TheVariants as refusals
use Rattle.redo_reader.specs.declared.cut.CutError.{CutError}
use Rattle.redo_reader.specs.declared.cut.CutError.TheVariants as cuts
use Rattle.primary.specs.Progress.{Progress, is_going, progress_after_record, progress_after_records, end_of}
use Rattle.primary.specs.Starts.{progress_after, first_start}
use Rattle.standby.specs.declared.reading.FoldFault.{FoldFault}
use Rattle.standby.specs.declared.reading.Took.{Took}
use Rattle.standby.specs.declared.reading.Took.TheVariants as tooks
use Rattle.standby.specs.declared.reading.FoldFault.TheVariants as faults

-- how far the evaluator has come with these entries of a redo over empty tables, whose first log has this sequence and
-- follows this SCN
abbrev pub progress_from : ℕ → ℕ → List Entry → Progress
progress_from first base entries = progress_after (first_start first base) [] entries

-- a record that decodes goes to the evaluator, which then goes on or has ended; of another the evaluator sees nothing
abbrev pub TakesIfDecoded : Header → Result RedoRec Fault → Progress → Progress → Took → Type 0
TakesIfDecoded h (Ok r) old new tooks.On = (new ≡ progress_after_record [] (h, r) old) × (is_going new ≡ true)
TakesIfDecoded h (Ok r) old new tooks.Ended = (new ≡ progress_after_record [] (h, r) old) × (is_going new ≡ false)
TakesIfDecoded h (Ok r) old new (tooks.Undecoded cause) = ⊥
TakesIfDecoded h (Err f) old new tooks.On = ⊥
TakesIfDecoded h (Err f) old new tooks.Ended = ⊥
TakesIfDecoded h (Err f) old new (tooks.Undecoded cause) = (new ≡ old) × (cause ≡ Vector f.fault f.place)

abbrev pub TakesRaw : Raw → Progress → Progress → Took → Type 0
TakesRaw raw old new took = TakesIfDecoded raw.head (record_at raw.bytes) old new took

-- what ends the redo with the record of this number; of a fold that has ended before, any end will do
abbrev pub stop_behind : ℕ → Took → Option Stop
stop_behind rec tooks.On = None
stop_behind rec tooks.Ended = Some Drained
stop_behind rec (tooks.Undecoded cause) = Some (Malformed rec cause)

-- with this end the fold is that of all records of the redo and of its end
abbrev pub EndsAs : Redo → Progress → Progress → Stop → Type 0
EndsAs redo old new stop = end_of stop new ≡ end_of redo.stop (progress_after_records [] redo.entries old)

-- with what is still ahead the evaluator comes as far as it did with what was ahead, and the redo ends alike
pub record StepsOn (before now : Redo) (old new : Progress) : Type 0 where
  pub stop_is : before.stop ≡ now.stop
  pub taken : progress_after_records [] before.entries old ≡ progress_after_records [] now.entries new

abbrev pub Steps : Redo → Redo → Progress → Progress → Option Stop → Type 0
Steps before now old new None = StepsOn before now old new
Steps before now old new (Some stop) = EndsAs before old new stop

-- what a refused cut is to the fold
abbrev pub cut_fault : CutError → FoldFault
cut_fault cuts.ArchiveFault = faults.Failed
cut_fault cuts.Memory = faults.Memory

-- the fold of a log that a look at it refuses so: an absent one is a gap, and a bad header is the first record's fault
abbrev pub IsFoldRefused : ℕ → RegFault → Folded → Type 0
IsFoldRefused seq refusals.NoLog f = f ≡ fold_of_redo seq 0 [] (Gap seq seq)
IsFoldRefused seq (refusals.BadHeader fault) f = f ≡ fold_of_redo seq 0 [] (Malformed 1 (Head fault))
IsFoldRefused seq refusals.WrongDb f = f ≡ fold_of_redo seq 0 [] (Malformed 1 (Head Dbid))
IsFoldRefused seq refusals.ArchiveFault f = ⊥
