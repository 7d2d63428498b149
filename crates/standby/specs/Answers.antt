-- The table of answers: each status of a command, when it comes, and what is then written.
--
-- The statuses are listed in `Comes`. The five ends of a fold come exactly as the definitions' fold of the archive's log
-- ends, and only where the words ask for a fold; Usage exactly where they are no command; NotBuilt exactly where they are a
-- later command. So a fold ends as its verdict says, as a fault of a device whose count of faults rose, or as Memory, and
-- nothing else.
-- What is said of logs holds where the archive tells them, and what is said of lines where the sink tells what is written.
use Rattle.std.specs.Prelude.{ℕ, ◌≡◌, List, [], ◌∷◌, ◌++◌, take, ⊤, Option, Some, None, codes}
use Rattle.std.specs.Io.KnownBytes.{Appends}
use Rattle.rl_base.specs.declared.status.Status.{Status}
use Rattle.rl_base.specs.declared.status.Status.TheVariants as statuses
use Rattle.rl_value.specs.declared.verdict.Stop.{Stop}
use Rattle.rl_value.specs.declared.verdict.Stop.TheVariants.{Drained, Gap, Malformed}
use Rattle.rl_value.specs.declared.verdict.Verdict.{Verdict}
use Rattle.rl_value.specs.declared.verdict.Verdict.TheVariants.{Stopped, Mismatch, RowLimit}
use Rattle.rl_ports.specs.Faults.{Told}
use Rattle.standby.specs.declared.command.Command.{Command}
use Rattle.standby.specs.declared.command.Command.TheVariants.{Fold}
use Rattle.redo_spec.specs.Redo.{fold_of_log}
use Rattle.redo_spec.specs.Lines.{written, fold_lines}
use Rattle.standby.specs.Writing.{AppendsPrefix}

-- the statuses that come so far
abbrev pub Comes : Status → Type 0
Comes statuses.Done = ⊤
Comes statuses.Usage = ⊤
Comes statuses.NotBuilt = ⊤
Comes statuses.ArchiveFault = ⊤
Comes statuses.SinkFault = ⊤
Comes statuses.Gap = ⊤
Comes statuses.Malformed = ⊤
Comes statuses.Mismatch = ⊤
Comes statuses.RowLimit = ⊤
Comes statuses.Memory = ⊤
Comes other = ⊥

-- ---- the ends of a fold

-- the status of a redo that ends so
abbrev pub stop_status : Stop → Status
stop_status Drained = statuses.Done
stop_status (Gap low high) = statuses.Gap
stop_status (Malformed rec cause) = statuses.Malformed

-- the status of a run that ends so
abbrev pub end_status : Verdict → Status
end_status (Stopped stop) = stop_status stop
end_status (Mismatch scn pos table miss) = statuses.Mismatch
end_status (RowLimit scn) = statuses.RowLimit

-- a run ended
abbrev pub IsEnd : Status → Type 0
IsEnd statuses.Done = ⊤
IsEnd statuses.Gap = ⊤
IsEnd statuses.Malformed = ⊤
IsEnd statuses.Mismatch = ⊤
IsEnd statuses.RowLimit = ⊤
IsEnd other = ⊥

-- what the fold of the log with these bytes prints, by the definitions
abbrev pub text_of_log : ℕ → Option (List ℕ) → List ℕ
text_of_log seq bytes = written (fold_lines (fold_of_log seq bytes))

-- the status is that of the fold of the log that is held under this sequence, or of its absence, and its lines were written
pub record Prints (logs : ℕ → Option (List ℕ)) (seq : ℕ) (status : Status) (old new : Option (List ℕ)) : Type 0 where
  pub ended : status ≡ end_status (fold_of_log seq (logs seq)).verdict
  pub lines : Appends old new (text_of_log seq (logs seq))

-- the command is a fold, and it is as `Prints` says
pub record FoldsWhole (command : Command) (logs : Option (ℕ → Option (List ℕ))) (status : Status)
    (old new : Option (List ℕ)) : Type 0 where
  pub seq : ℕ
  pub asked : command ≡ Fold seq
  pub prints : Told logs (λ logs. Prints logs seq status old new)

-- ---- faults of devices

-- the command is a fold, and the count of faults of the archive rose
pub record IsArchiveFault (command : Command) (rose : Type 0) : Type 0 where
  pub seq : ℕ
  pub asked : command ≡ Fold seq
  pub cause : rose

-- a prefix of what the log folds to was written
pub record PrintsPrefix (logs : ℕ → Option (List ℕ)) (seq : ℕ) (old new : Option (List ℕ)) : Type 0 where
  pub count : ℕ
  pub lines : Appends old new (take count (text_of_log seq (logs seq)))

-- the command is a fold, the count of faults of the sink rose, and a prefix of the lines was written
pub record IsSinkFault (command : Command) (logs : Option (ℕ → Option (List ℕ))) (old new : Option (List ℕ))
    (rose : Type 0) : Type 0 where
  pub seq : ℕ
  pub asked : command ≡ Fold seq
  pub cause : rose
  pub prints : Told logs (λ logs. PrintsPrefix logs seq old new)

-- ---- the last line

-- the last line of a status that ends the command at once
abbrev pub fault_line : Status → Option (List ℕ)
fault_line statuses.Usage = Some (codes "FAULT USAGE")
fault_line statuses.ArchiveFault = Some (codes "FAULT ARCHIVE")
fault_line statuses.SourceFault = Some (codes "FAULT SOURCE")
fault_line statuses.KeeperFault = Some (codes "FAULT KEEPER")
fault_line statuses.SpillFault = Some (codes "FAULT SPILL")
fault_line statuses.Memory = Some (codes "FAULT MEMORY")
fault_line statuses.NotBuilt = Some (codes "FAULT NOTBUILT")
fault_line other = None

-- this line and nothing else was written, as far as the sink took it
abbrev pub SaysFault : Option (List ℕ) → Option (List ℕ) → Option (List ℕ) → Type 0 → Type 0
SaysFault None old new failed = ⊤
SaysFault (Some line) old new failed = AppendsPrefix old new (line ++ 10 ∷ []) failed
