-- At rest: a publisher between two runs, where logs, rules, rows of the base and of users, and the guard may change.
-- What it shows belongs to the archived logs, and so does what its store holds, stopped or not: the next run may begin with it, of
-- this program or of a later one.
use Rattle.std.specs.Prelude.{ℕ, ◌≡◌, ◌≤◌, Bool, true, false, Option, Some}
use Rattle.rl_ports.specs.Store.{Store}
use Rattle.rl_ports.specs.Faults.{Rose, Told}
use Rattle.standby_spec.specs.KeptState.{KeptState}
use Rattle.standby_spec.specs.Writings.{Writing, AddLog, AddSkip, SetLevel, PutRow, Publish, KeepMark}
use Rattle.standby_spec.specs.StandbyRedo.{Archived}
use Rattle.standby_spec.specs.Lawful.{Belongs}
use Rattle.standby_spec.specs.Publishing.{Publishing, Ending, Done, Failed, Refused, Keeps, HasNoStandby}

-- Its store had counted so many faults at first. Where it is stopped, the store holds what is shown, or what the call that failed was
-- to make, which belongs to the logs too.
pub record IsAtRest {K : Type 0} (holds : K → Option Store) (faults : K → ℕ) (start : ℕ) (logs : Archived) (s : KeptState)
    (p : Publishing K) : Type 0 where
  pub there : p.state ≡ Some s
  pub belongs : Belongs logs s
  pub keeps : Told (holds p.keeper) (Keeps (Belongs logs) p.stopped p.state)
  pub since : start ≤ faults p.keeper
  pub risen : p.stopped ≡ true → Rose start (faults p.keeper)

-- it changes neither the registered logs nor what is applied
abbrev pub leaves_redo : Writing → Bool
leaves_redo (AddLog e) = false
leaves_redo (AddSkip rule) = true
leaves_redo (SetLevel level) = true
leaves_redo (PutRow id row) = true
leaves_redo (Publish scn writes) = false
leaves_redo (KeepMark k) = false

-- behind the call that creates a standby: it is at rest, or there is none
abbrev pub RestsAfter : {K : Type 0} → (K → Option Store) → (K → ℕ) → ℕ → Archived → KeptState → Ending → Publishing K → Type 0
RestsAfter holds faults start logs created Done p = IsAtRest holds faults start logs created p
RestsAfter holds faults start logs created Failed p = HasNoStandby holds p
RestsAfter holds faults start logs created Refused p = HasNoStandby holds p
