-- The front of a log, as far as a header goes, and what it shows.
use Rattle.std.specs.Prelude.{◌≡◌, ℕ, ◌+◌, ◌<◌, ◌≤◌, if◌then◌else◌, nat_lt, List, length, take, ⊤, Option, Some, None, Result, Ok, Err}
use Rattle.rl_value.specs.declared.cause.HeadFault.TheVariants as heads
use Rattle.redo_spec.specs.LogHeader.{header_in, header_fault}
use Rattle.redo_wire.specs.declared.header.TheConstants.{HEADER_LENGTH}
use Rattle.log_registry.specs.declared.entry.LogEntry.{LogEntry}
use Rattle.log_registry.specs.declared.fault.RegFault.{RegFault}
use Rattle.log_registry.specs.declared.fault.RegFault.TheVariants as faults
use Rattle.log_registry.specs.Registered.{entry_with, entry_unless_refused}

-- the first `count` of these bytes are those of the log, which has so many
abbrev pub IsReadTo : Option (List ℕ) → List ℕ → ℕ → Type 0
IsReadTo None front count = ⊤
IsReadTo (Some bytes) front count = take count front ≡ take count bytes

-- so many more are read; no more stands for the log's end
pub record ReadsOn (bytes front : List ℕ) (count more : ℕ) : Type 0 where
  pub given : take (count + more) front ≡ take (count + more) bytes
  pub end : more ≡ 0 → count < length front → length bytes ≤ count

abbrev pub IsReadOn : Option (List ℕ) → List ℕ → ℕ → ℕ → Type 0
IsReadOn None front count more = ⊤
IsReadOn (Some bytes) front count more = ReadsOn bytes front count more

-- the first `count` of these are the first bytes of the log, as many as a header has, or the whole of a shorter one
abbrev pub IsFront : Option (List ℕ) → List ℕ → ℕ → Type 0
IsFront None front count = ⊤
IsFront (Some bytes) front count = take count front ≡ take HEADER_LENGTH bytes

-- the entry of a log of this length that begins with these bytes
abbrev pub entry_of_front : List ℕ → ℕ → ℕ → Result LogEntry RegFault
entry_of_front front size seq = if nat_lt size HEADER_LENGTH then Err (faults.BadHeader heads.Short) else entry_unless_refused
    (header_fault seq front) (Ok (entry_with (header_in front) size))
