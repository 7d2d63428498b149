-- What is read of a text with a limit, all of it or more than the limit; and what is written of it.
use Rattle.std.proofs.Common.{◌≡◌, ℕ, ◌+◌, ◌<◌, ◌≤◌, List, length, take, Option, Some, None, Ok, subst, ap, ◌∙◌, arith}
use Rattle.std.specs.Io.KnownBytes.{Appends}
use Rattle.std.proofs.lemmas.List.{length-take, take_all}
use Rattle.rl_ports.specs.Faults.{Told}
use Rattle.redo_spec.specs.Log.{Log, IsSpelled}
use Rattle.redo_text.specs.Text.{log_said}
use Rattle.redolog.specs.Writing.{Writes}

pub longer : (most : ℕ) (o : Option (List ℕ)) (read : List ℕ) → Told o (λ text. read ≡ take (most + 1) text) →
    most < length read →
    Told o (λ text. most < length text)
longer most None read is long = tt
longer most (Some text) read is long =
    let same = ap length is in
    omega (arith, same, length-take (most + 1) text)

pub whole : (most : ℕ) (o : Option (List ℕ)) (read : List ℕ) → Told o (λ text. read ≡ take (most + 1) text) → length read ≤ most →
    Told o (λ text. read ≡ text)
whole most None read is short = tt
whole most (Some text) read is short =
    let same = ap length is in
    let fits : length text ≤ most + 1 = omega (arith, same, length-take (most + 1) text) in
    is ∙ take_all (most + 1) text fits

-- the log of a text that was read is written
pub written : (o : Option (List ℕ)) (read bytes : List ℕ) (old new : Option (List ℕ)) (done : Unit {0}) →
    Told o (λ text. read ≡ text) → (l : Log) × (log_said read ≡ Ok l) × IsSpelled l bytes → Appends old new bytes →
    Told o (λ text. Writes text old new (Ok done))
written None read bytes old new done is said whole_text = tt
written (Some text) read bytes old new done is said whole_text =
    (said.0, bytes, subst (λ (t : List ℕ). log_said t ≡ Ok said.0) is said.1, said.2, whole_text)
