-- What `redolog write` does with a text.
use Rattle.std.specs.Prelude.{◌≡◌, ◌≢◌, ℕ, ◌<◌, List, length, Option, Result, Ok, Err, ⊤}
use Rattle.std.specs.Io.KnownBytes.{Appends}
use Rattle.redo_spec.specs.Log.{Log, IsSpelled}
use Rattle.redo_text.specs.Text.{log_said}
use Rattle.redolog.specs.declared.refusal.Refusal.{Refusal}
use Rattle.redolog.specs.declared.refusal.Refusal.TheVariants as refusals
use Rattle.redolog.specs.declared.refusal.StreamFault.TheVariants as streams
use Rattle.redolog.specs.declared.writing.TheConstants.{MOST_TEXT}

-- a text that is refused leaves the output as it was, and so does anything but a fault of the output
abbrev pub Refuses : List ℕ → Option (List ℕ) → Option (List ℕ) → Refusal → Type 0
Refuses text old new (refusals.Line line fault) = (log_said text ≡ Err (record { line = line; fault = fault })) × (new ≡ old)
Refuses text old new refusals.Long = (MOST_TEXT < length text) × (new ≡ old)
Refuses text old new (refusals.Stream fault) = fault ≢ streams.Output → new ≡ old
Refuses text old new refusals.Damaged = ⊥
Refuses text old new refusals.Usage = ⊥

-- the log that the text says is written, spelled
abbrev pub Writes : List ℕ → Option (List ℕ) → Option (List ℕ) → Result (Unit {0}) Refusal → Type 0
Writes text old new (Ok done) =
    (log : Log) × (bytes : List ℕ) × (log_said text ≡ Ok log) × IsSpelled log bytes × Appends old new bytes
Writes text old new (Err refusal) = Refuses text old new refusal

-- what reading a text gives: all of it, unless it is too long
abbrev pub TextOf : {X : Type 0} → (X → List ℕ) → List ℕ → Result X Refusal → Type 0
TextOf view text (Ok x) = view x ≡ text
TextOf view text (Err (refusals.Line line fault)) = ⊥
TextOf view text (Err refusals.Long) = MOST_TEXT < length text
TextOf view text (Err (refusals.Stream fault)) = ⊤
TextOf view text (Err refusals.Damaged) = ⊥
TextOf view text (Err refusals.Usage) = ⊥

-- what a text gives: the spelling of the log that it says, or its first bad line
abbrev pub LogOf : {X : Type 0} → (X → List ℕ) → List ℕ → Result X Refusal → Type 0
LogOf view text (Ok x) = (log : Log) × (log_said text ≡ Ok log) × IsSpelled log (view x)
LogOf view text (Err (refusals.Line line fault)) = log_said text ≡ Err (record { line = line; fault = fault })
LogOf view text (Err refusals.Long) = ⊥
LogOf view text (Err (refusals.Stream fault)) = ⊤
LogOf view text (Err refusals.Damaged) = ⊥
LogOf view text (Err refusals.Usage) = ⊥
