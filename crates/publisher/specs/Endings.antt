-- How a call of the publisher that writes ends, by its answer, and when it is refused.
-- It is done, or the commit of its store failed, or it is refused before that, for want of memory too. What it leaves then is
-- `Does` of `standby_spec` (Publishing).
use Rattle.std.specs.Prelude.{ℕ, ◌≡◌, ⊤, Bool, Option, Some, None, Result, Ok, Err}
use Rattle.rl_ports.specs.Store.{Store}
use Rattle.rl_ports.specs.declared.fault.PortFault.{PortFault}
use Rattle.rl_ports.specs.declared.fault.PortFault.TheVariants as ports
use Rattle.standby_spec.specs.KeptState.{KeptState}
use Rattle.standby_spec.specs.Writings.{Writing, state_after}
use Rattle.standby_spec.specs.Refusals.{Refusal}
use Rattle.standby_spec.specs.Refusals as reasons
use Rattle.standby_spec.specs.Publishing.{Publishing, Ending, Done, Failed, Refused, Does, next_shown}
use Rattle.standby_spec.specs.HasLayout.{MayBeDone}
use Rattle.standby_spec.specs.StandbyRedo.{Archived}
use Rattle.standby_spec.specs.Lawful.{Belongs}
use Rattle.standby_spec.specs.AtRest.{IsAtRest}
use Rattle.publisher.specs.declared.fault.PubFault.{PubFault}
use Rattle.publisher.specs.declared.fault.PubFault.TheVariants as faults

-- ---- the ending

abbrev pub ending_of_fault : PubFault → Ending
ending_of_fault faults.KeeperFault = Failed
ending_of_fault (faults.NotNext n) = Refused
ending_of_fault (faults.Early n) = Refused
ending_of_fault faults.RowLimit = Refused
ending_of_fault faults.Exists = Refused
ending_of_fault faults.Taken = Refused
ending_of_fault faults.Twice = Refused
ending_of_fault faults.Limit = Refused
ending_of_fault faults.Memory = Refused

abbrev pub ending_of : {T : Type 0} → Result T PubFault → Ending
ending_of (Ok done) = Done
ending_of (Err fault) = ending_of_fault fault

-- the answer of the store, as that of a call
abbrev pub kept_of : {T : Type 0} → Result T PortFault → Result T PubFault
kept_of (Ok done) = Ok done
kept_of (Err ports.Failed) = Err faults.KeeperFault
kept_of (Err ports.Memory) = Err faults.Memory

-- where a value that was moved in comes back beside the fault
abbrev pub ending_back : {T B : Type 0} → Result T (PubFault × B) → Ending
ending_back (Ok done) = Done
ending_back (Err (fault, back)) = ending_of_fault fault

-- ---- the refusal

-- a fault tells the first reason against the call; the store may fail, and memory may be refused, only where nothing else
-- is told
abbrev pub Tells : Option Refusal → PubFault → Type 0
Tells reason faults.KeeperFault = reason ≡ None
Tells reason (faults.NotNext n) = reason ≡ Some (reasons.NotNext n)
Tells reason (faults.Early n) = reason ≡ Some (reasons.Early n)
Tells reason faults.RowLimit = reason ≡ Some reasons.RowLimit
Tells reason faults.Exists = reason ≡ Some reasons.Exists
Tells reason faults.Taken = reason ≡ Some reasons.Taken
Tells reason faults.Twice = reason ≡ Some reasons.Twice
Tells reason faults.Limit = reason ≡ Some reasons.Limit
Tells reason faults.Memory = ⊤

-- a call is done only where there is no reason against it, and is refused for the first one
abbrev pub Refuses : {T : Type 0} → Option Refusal → Result T PubFault → Type 0
Refuses reason (Ok done) = reason ≡ None
Refuses reason (Err fault) = Tells reason fault

abbrev pub RefusesBack : {T B : Type 0} → Option Refusal → Result T (PubFault × B) → Type 0
RefusesBack reason (Ok done) = reason ≡ None
RefusesBack reason (Err (fault, back)) = Tells reason fault

-- ---- a call on a standby that is there

-- the fact holds of the state that is shown, where a standby is there
abbrev pub OfState : Option KeptState → (KeptState → Type 0) → Type 0
OfState state P = (s : KeptState) → state ≡ Some s → P s

-- what a call that does this writing leaves
abbrev pub Writes : {K : Type 0} → (K → Option Store) → (K → ℕ) → Bool → Writing → Publishing K → Publishing K → Ending → Type 0
Writes holds faults alone w old new ending = OfState old.state (λ s. Does holds faults alone w s old new ending)

-- a publisher at rest is so again, however such a call ends, where what it makes belongs to the archived logs
abbrev pub Rests : {K : Type 0} → (K → Option Store) → (K → ℕ) → Writing → Publishing K → Publishing K → Ending → Type 0
Rests holds faults w old new ending = (start : ℕ) (logs : Archived) (s : KeptState) → IsAtRest holds faults start logs s old →
    MayBeDone w s → Belongs logs (state_after w s) →
    IsAtRest holds faults start logs (next_shown (state_after w s) s ending) new
