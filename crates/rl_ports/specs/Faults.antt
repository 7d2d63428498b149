-- When a device may answer that it failed, and what of its bytes is known.
-- A count of faults never falls, and code that is given a device cannot raise it: so `failed only where the count
-- rose` refuses a body that gives up, and `where no failure is answered, none was counted` one that passes a failure over.
-- This project's own.
use Rattle.std.specs.Prelude.{◌≡◌, ℕ, ◌+◌, ◌-◌, ◌^◌, ◌<◌, ◌≤◌, min, Bool, IsTrue, List, length, take, drop, ⊤, Option, None, Some, Result, Ok, Err, IfOk, OnErr, IsErrOf}
use Rattle.rl_ports.specs.declared.fault.Failed.{Failed}
use Rattle.rl_ports.specs.declared.fault.PortFault.{PortFault}
use Rattle.rl_ports.specs.declared.fault.PortFault.TheVariants as ports

-- a count of faults has risen, or stands at its type's end
abbrev pub Rose : ℕ → ℕ → Type 0
Rose before now = min (before + 1) (2 ^ 64 - 1) ≤ now

-- the count never falls, and an error comes only where it rose
pub record HasCause {T E : Type 0} (before now : ℕ) (result : Result T E) : Type 0 where
  pub later : before ≤ now
  pub failed : OnErr result (Rose before now)

-- the same, where want of memory has no cause
pub record HasPortCause {T : Type 0} (before now : ℕ) (result : Result T PortFault) : Type 0 where
  pub later : before ≤ now
  pub failed : IsErrOf result ports.Failed → Rose before now

-- where a write takes nothing of a piece that has a byte, the count rose, though the answer is no error
abbrev pub CountsNothing : {E : Type 0} → ℕ → ℕ → Result ℕ E → List ℕ → Type 0
CountsNothing before now result piece = IfOk result (λ n. n ≡ 0 → 0 < length piece → Rose before now)

-- a device whose type counts failures alone has counted none
abbrev pub NoneCounted : Bool → ℕ → ℕ → Type 0
NoneCounted failures_alone before now = IsTrue failures_alone → now ≡ before

-- unless the device failed, where want of memory is no failure
abbrev pub UnlessFailed : {T : Type 0} → Result T PortFault → Type 0 → Type 0
UnlessFailed (Ok x) P = P
UnlessFailed (Err ports.Failed) P = ⊤
UnlessFailed (Err ports.Memory) P = P

-- a write took a byte of the piece, if it has one
abbrev pub TookSome : List ℕ → ℕ → Type 0
TookSome piece n = min 1 (length piece) ≤ n

-- what is said of contents where the device tells them
abbrev pub Told : {T : Type 0} → Option T → (T → Type 0) → Type 0
Told None P = ⊤
Told (Some x) P = P x

-- the first n bytes that a read gave are those of the log from this offset on, and 0 stands for its end
pub record ReadsLog (bytes : List ℕ) (at n : ℕ) (into : List ℕ) : Type 0 where
  pub given : take n into ≡ take n (drop at bytes)
  pub end : n ≡ 0 → 0 < length into → length bytes ≤ at

-- the same of the log that an archive has, if it has it
abbrev pub ReadsFrom : Option (List ℕ) → ℕ → List ℕ → ℕ → Type 0
ReadsFrom None at into n = ⊤
ReadsFrom (Some bytes) at into n = ReadsLog bytes at n into

-- a read of a log that an archive has not gives no bytes, and is no failure
abbrev pub ReadsNothing : Option (List ℕ) → Result ℕ Failed → ℕ → ℕ → Type 0
ReadsNothing None result before now = (result ≡ Ok 0) × (now ≡ before)
ReadsNothing (Some bytes) result before now = ⊤
