-- A miner that goes on: the standing of the records so far, and the count of commits.
use Rattle.std.specs.Prelude.{ℕ}
use Rattle.redo_spec.specs.Standing.{Standing}

pub record Goes : Type 0 where
  pub standing : Standing
  pub commits : ℕ
