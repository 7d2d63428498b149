-- How the registered logs are kept: each under its own sequence, which has 32 bits.
use Rattle.std.specs.Prelude.{◌≡◌, ℕ, ◌^◌, ◌<◌, List, [], ◌∷◌}
use Rattle.log_registry.specs.declared.entry.LogEntry.{LogEntry}

pub record IsUnderSequence (p : ℕ × LogEntry) : Type 0 where
  pub same : p.0 ≡ p.1.head.seq
  pub fits : p.1.head.seq < 2 ^ 32

abbrev pub AreUnderSequences : List (ℕ × LogEntry) → Type 0
AreUnderSequences [] = Unit {0}
AreUnderSequences (p ∷ ps) = IsUnderSequence p × AreUnderSequences ps
