-- The end of a command that shows: what was written, and whether a fault is told.
use Rattle.std.proofs.Common.{◌≡◌, ℕ, Bool, true, false, List, Option, Some, None, Ok, Err, sym, ◌∙◌}
use Rattle.std.specs.Io.KnownBytes.{Appends}
use Rattle.rl_ports.specs.Faults.{Told}
use Rattle.redolog.specs.declared.refusal.Refusal.TheVariants as refusals
use Rattle.redolog.specs.Showing.{Shows}

pub told_fault : (o : Option (List ℕ)) (text : List ℕ → List ℕ) (bad : List ℕ → Bool) (old new : Option (List ℕ))
    (faulty : Bool) → Told o (λ bytes. Appends old new (text bytes)) → Told o (λ bytes. faulty ≡ bad bytes) → faulty ≡ true →
    Told o (λ bytes. Shows (text bytes) (bad bytes) old new (Err refusals.Damaged))
told_fault None text bad old new faulty wrote is e = tt
told_fault (Some bytes) text bad old new faulty wrote is e = (sym is ∙ e, wrote)

pub told_whole : (o : Option (List ℕ)) (text : List ℕ → List ℕ) (bad : List ℕ → Bool) (old new : Option (List ℕ)) (faulty : Bool)
    (done : Unit {0}) → Told o (λ bytes. Appends old new (text bytes)) → Told o (λ bytes. faulty ≡ bad bytes) → faulty ≡ false →
    Told o (λ bytes. Shows (text bytes) (bad bytes) old new (Ok done))
told_whole None text bad old new faulty done wrote is e = tt
told_whole (Some bytes) text bad old new faulty done wrote is e = (sym is ∙ e, wrote)
