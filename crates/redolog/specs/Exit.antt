-- The exit code of each end, that of `sqlapply` for the same cause.
use Rattle.std.specs.Prelude.{ℕ, Result, Ok, Err}
use Rattle.redolog.specs.declared.refusal.Refusal.{Refusal}
use Rattle.redolog.specs.declared.refusal.Refusal.TheVariants as refusals
use Rattle.redolog.specs.declared.refusal.StreamFault.{StreamFault}
use Rattle.redolog.specs.declared.refusal.StreamFault.TheVariants as streams

abbrev pub code_of_fault : StreamFault → ℕ
code_of_fault streams.Input = 4
code_of_fault streams.Output = 5
code_of_fault streams.Memory = 15

abbrev pub code_of_refusal : Refusal → ℕ
code_of_refusal refusals.Usage = 2
code_of_refusal (refusals.Line line fault) = 11
code_of_refusal refusals.Long = 11
code_of_refusal refusals.Damaged = 9
code_of_refusal (refusals.Stream fault) = code_of_fault fault

-- 0 where the command was done
abbrev pub code_of : Result (Unit {0}) Refusal → ℕ
code_of (Ok done) = 0
code_of (Err refusal) = code_of_refusal refusal
