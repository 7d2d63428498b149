-- A record that was cut goes to the evaluator; what is then ahead ends as it did before.
use Rattle.std.proofs.Common.{◌≡◌, ℕ, ◌+◌, false, List, [], ◌∷◌, Option, Some, None, Result, Ok, Err, refl, sym, ap, subst, ◌∙◌}
use Rattle.rl_value.specs.declared.cause.Cause.{Cause}
use Rattle.rl_value.specs.declared.cause.Cause.TheVariants.{Vector}
use Rattle.rl_value.specs.declared.verdict.Stop.{Stop}
use Rattle.rl_value.specs.declared.verdict.Stop.TheVariants.{Drained, Malformed}
use Rattle.rl_ports.specs.Faults.{Told}
use Rattle.redo_vec.specs.declared.redo_rec.RedoRec.{RedoRec}
use Rattle.redo_vec.specs.Reading.{Fault, record_at}
use Rattle.redo_spec.specs.declared.header.Header.{Header}
use Rattle.redo_spec.specs.Fold.{Folded}
use Rattle.redo_spec.specs.History.{Entry}
use Rattle.redo_spec.specs.Redo.{Redo}
use Rattle.redo_wire.specs.declared.raw.Raw.{Raw}
use Rattle.log_registry.specs.declared.entry.LogEntry.{LogEntry}
use Rattle.log_registry.specs.Registered.{AreToldBy}
use Rattle.redo_reader.specs.declared.place.Place.{Place}
use Rattle.redo_reader.specs.declared.cut.Cut.{Cut}
use Rattle.redo_reader.specs.declared.cut.Cut.TheVariants as cuts
use Rattle.redo_reader.specs.Ahead.{Ahead, ahead, redo_of, redo_with, nothing_but, raws_before, redo_ahead}
use Rattle.redo_reader.specs.Reading.{GivesNext, LeadsOn}
use Rattle.primary.specs.Progress.{Progress, Going, Ended, is_going, progress_after_records, end_of}
use Rattle.standby.specs.declared.reading.Took.{Took}
use Rattle.standby.specs.declared.reading.Took.TheVariants as tooks
use Rattle.standby.specs.Folding.{TakesIfDecoded, TakesRaw, Steps, stop_behind}

-- ---- a fold that has ended

-- later records and another end change nothing
ended_on : (f : Folded) (entries : List Entry) (stop : Stop) → end_of stop (progress_after_records [] entries (Ended f)) ≡ f
ended_on f [] stop = refl
ended_on f (e ∷ entries) stop = ended_on f entries stop

stays : (p : Progress) (entries : List Entry) (a b : Stop) → is_going p ≡ false →
    end_of a p ≡ end_of b (progress_after_records [] entries p)
stays (Going ahead) entries a b over = absurd cc
stays (Ended f) entries a b over = sym (ended_on f entries b)

-- ---- one record

on_decoded : (h : Header) (r : Result RedoRec Fault) (rec : ℕ) (later : Redo) (old new : Progress) (took : Took) →
    TakesIfDecoded h r old new took → Steps (redo_with h r rec later) later old new (stop_behind (rec + 1) took)
on_decoded h (Ok r) rec later old new tooks.On takes = record
    { stop_is = refl; taken = ap (progress_after_records [] later.entries) (sym takes.0) }
on_decoded h (Ok r) rec later old new tooks.Ended takes =
    stays new later.entries Drained later.stop takes.1 ∙
    ap (λ (p : Progress). end_of later.stop (progress_after_records [] later.entries p)) takes.0
on_decoded h (Ok r) rec later old new (tooks.Undecoded cause) takes = absurd takes
on_decoded h (Err f) rec later old new tooks.On takes = absurd takes
on_decoded h (Err f) rec later old new tooks.Ended takes = absurd takes
on_decoded h (Err f) rec later old new (tooks.Undecoded cause) takes =
    ap (λ (c : Cause). end_of (Malformed (rec + 1) c) new) takes.1 ∙
    ap (end_of (Malformed (rec + 1) (Vector f.fault f.place))) takes.0

-- a record that was cut
after_raw : (raw : Raw) (before now : Ahead) (rec : ℕ) (old new : Progress) (took : Took) → before ≡ raws_before (raw ∷ []) now →
    TakesRaw raw old new took → Steps (redo_of rec before) (redo_of (rec + 1) now) old new (stop_behind (rec + 1) took)
after_raw raw before now rec old new took gives takes =
    subst (λ (a : Ahead). Steps (redo_of rec a) (redo_of (rec + 1) now) old new (stop_behind (rec + 1) took)) (sym gives)
    (on_decoded raw.head (record_at raw.bytes) rec (redo_of (rec + 1) now) old new took takes)

-- the end
after_end : (stop : Stop) (before : Ahead) (rec : ℕ) (now : Redo) (evaluator : Progress) → before ≡ nothing_but stop →
    Steps (redo_of rec before) now evaluator evaluator (Some stop)
after_end stop before rec now evaluator gives = subst (λ (a : Ahead). Steps (redo_of rec a) now evaluator evaluator (Some stop))
    (sym gives) refl

-- ---- the same where the archive tells its logs

-- what a cut promises where the archive tells its logs
abbrev pub CutGives : Option (ℕ → Option (List ℕ)) → List LogEntry → Place → List LogEntry → Place → Cut → Type 0
CutGives known registry p registry' p' cut = Told known (λ logs. AreToldBy logs registry →
    GivesNext cut (ahead logs registry p) (ahead logs registry' p'))

abbrev pub StepsWhereTold : Option (ℕ → Option (List ℕ)) → List LogEntry → Place → List LogEntry → Place → Progress → Progress →
    Option Stop → Type 0
StepsWhereTold known registry p registry' p' old new end =
    Told known (λ logs. AreToldBy logs registry → Steps (redo_ahead logs registry p) (redo_ahead logs registry' p') old new end)

pub raw_steps : (known : Option (ℕ → Option (List ℕ))) (registry : List LogEntry) (p : Place) (registry' : List LogEntry)
    (p' : Place) (raw : Raw) (old new : Progress) (took : Took) →
    CutGives known registry p registry' p' (cuts.Raw raw) → LeadsOn (cuts.Raw raw) p p' → TakesRaw raw old new took →
    StepsWhereTold known registry p registry' p' old new (stop_behind raw.rec took)
raw_steps None registry p registry' p' raw old new took gives leads takes = tt
raw_steps (Some logs) registry p registry' p' raw old new took gives leads takes =
    let number : raw.rec ≡ p.rec + 1 = leads.0.rec in
    let now : p'.rec ≡ p.rec + 1 = ap (λ (q : Place). q.rec) leads.1 ∙ number in
    λ are. subst (λ (k : ℕ). Steps (redo_ahead logs registry p) (redo_ahead logs registry' p') old new (stop_behind k took))
    (sym number)
    (subst (λ (k : ℕ). Steps (redo_ahead logs registry p) (redo_of k (ahead logs registry' p')) old new
    (stop_behind (p.rec + 1) took)) (sym now)
    (after_raw raw (ahead logs registry p) (ahead logs registry' p') p.rec old new took (gives are) takes))

pub end_steps : (known : Option (ℕ → Option (List ℕ))) (registry : List LogEntry) (p : Place) (registry' : List LogEntry)
    (p' : Place) (stop : Stop) (evaluator : Progress) →
    CutGives known registry p registry' p' (cuts.End stop) →
    StepsWhereTold known registry p registry' p' evaluator evaluator (Some stop)
end_steps None registry p registry' p' stop evaluator gives = tt
end_steps (Some logs) registry p registry' p' stop evaluator gives =
    λ are. after_end stop (ahead logs registry p) p.rec (redo_ahead logs registry' p') evaluator (gives are)
