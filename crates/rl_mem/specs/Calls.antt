-- Which calls of a device in memory fail: calls count from 1 over all calls of the device, and those whose numbers
-- are in a list fail. Both counts stand still at their type's end.
use Rattle.std.specs.Prelude.{ℕ, ◌+◌, ◌-◌, ◌^◌, List, Bool, min, ◌==◌, if◌then◌else◌, ⊤, Result, Ok, Err}
use Rattle.std.specs.List.{list_any}
use Rattle.rl_ports.specs.declared.fault.PortFault.{PortFault}
use Rattle.rl_ports.specs.declared.fault.PortFault.TheVariants as ports

-- the calls that are to fail, how many calls were made, and how many failed
pub record Counted : Type 0 where
  pub fails : List ℕ
  pub made : ℕ
  pub faults : ℕ

-- before the first call
abbrev pub before_calls : List ℕ → Counted
before_calls fails = record { fails = fails; made = 0; faults = 0 }

-- one more, as far as 64 bits go
abbrev pub one_more : ℕ → ℕ
one_more n = min (n + 1) (2 ^ 64 - 1)

-- the next call is to fail
abbrev pub fails_next : Counted → Bool
fails_next c = list_any (λ n. n == one_more c.made) c.fails

-- one more failure, of the call that was counted last
abbrev pub after_fault : Counted → Counted
after_fault c = record { fails = c.fails; made = c.made; faults = one_more c.faults }

-- after a call that is not to fail, whatever its number is
abbrev pub passed : Counted → Counted
passed c = record { fails = c.fails; made = one_more c.made; faults = c.faults }

-- after a call
abbrev pub after_call : Counted → Counted
after_call c = record { fails = c.fails; made = one_more c.made; faults = if fails_next c then one_more c.faults else c.faults }

-- unless memory wanted
abbrev pub UnlessMemory : {T : Type 0} → Result T PortFault → Type 0 → Type 0
UnlessMemory (Ok x) P = P
UnlessMemory (Err ports.Failed) P = P
UnlessMemory (Err ports.Memory) P = ⊤
