-- The claim: a fold ends as the definitions' fold of the bytes that the archive holds ends, with exactly its lines, unless
-- it runs out of memory or a device fails; and every other answer comes only from its own cause.
--
-- It is the contract of `sqlapply_still`, and each part of the sentence is a field here, in its order. The words of the
-- parts are in Answers.antt.
use Rattle.std.specs.Prelude.{ℕ, ◌≡◌, ◌≢◌, ◌↔◌, Bool, List, Option}
use Rattle.rl_base.specs.declared.status.Status.{Status}
use Rattle.rl_base.specs.declared.status.Status.TheVariants as statuses
use Rattle.rl_ports.specs.Faults.{Rose, NoneCounted}
use Rattle.standby.specs.declared.command.Command.{Command}
use Rattle.standby.specs.declared.command.Command.TheVariants.{Later, Wrong}
use Rattle.standby.specs.Answers.{Comes, IsEnd, FoldsWhole, IsArchiveFault, IsSinkFault, SaysFault, fault_line}

-- the count of faults of a device in a call, and whether it rises at failures alone
pub record Count : Type 0 where
  pub failures_alone : Bool
  pub before : ℕ
  pub now : ℕ

-- the device failed
abbrev pub Failed : Count → Type 0
Failed count = Rose count.before count.now

-- the device did not fail, of one that counts failures alone
abbrev pub NeverFailed : Count → Type 0
NeverFailed count = NoneCounted count.failures_alone count.before count.now

-- how a command ends over an archive that tells these logs, and what it writes
pub record Claim (command : Command) (logs : Option (ℕ → Option (List ℕ))) (status : Status) (old new : Option (List ℕ))
    (archive sink : Count) : Type 0 where
  -- a fold ends as the definitions' fold of the bytes that the archive holds ends, with exactly its lines
  pub a_fold_ends_as_its_log_says : IsEnd status → FoldsWhole command logs status old new
  -- unless it runs out of memory, or a device fails, and a device's failure is answered
  pub no_other_status_comes : Comes status
  pub archive_fault_where_it_failed : status ≡ statuses.ArchiveFault → IsArchiveFault command (Failed archive)
  pub archive_failure_is_answered : status ≢ statuses.ArchiveFault → NeverFailed archive
  pub sink_fault_where_it_failed : status ≡ statuses.SinkFault → IsSinkFault command logs old new (Failed sink)
  pub sink_failure_is_answered : IsEnd status → NeverFailed sink
  -- and every other answer comes only from its own cause, and is said
  pub usage_where_words_are_wrong : (status ≡ statuses.Usage) ↔ (command ≡ Wrong)
  pub not_built_where_words_are_later : (status ≡ statuses.NotBuilt) ↔ (command ≡ Later)
  pub last_line_is_its_own : SaysFault (fault_line status) old new (Failed sink)
