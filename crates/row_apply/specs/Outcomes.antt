-- What a refused change says.
use Rattle.std.specs.Prelude.{⊤, Result, Ok, Err}
use Rattle.rl_value.specs.declared.miss.Miss.{Miss}
use Rattle.row_apply.specs.declared.fault.EffectFault.{EffectFault}
use Rattle.row_apply.specs.declared.fault.EffectFault.TheVariants as faults

-- the fact holds of the miss, where there is one
abbrev pub OfMiss : EffectFault → (Miss → Type 0) → Type 0
OfMiss (faults.Miss miss) P = P miss
OfMiss faults.Memory P = ⊤

abbrev pub OnMiss : {T : Type 0} → Result T EffectFault → (Miss → Type 0) → Type 0
OnMiss (Ok done) P = ⊤
OnMiss (Err fault) P = OfMiss fault P
