-- How the program ends: with the exit code of the status of its command, which is as the claim on `sqlapply_still` says.
use Rattle.std.specs.Prelude.{◌≡◌, ℕ, List, Option}
use Rattle.rl_base.specs.declared.status.Status.{Status}
use Rattle.rl_base.specs.Status.{code_of}
use Rattle.standby.specs.declared.command.Command.{Command}
use Rattle.standby.specs.Headline.{Claim, Count}

-- there is a status with this code, and the command ended with it as the claim says
pub record EndsWith (command : Command) (logs : Option (ℕ → Option (List ℕ))) (code : ℕ) (old new : Option (List ℕ))
    (archive sink : Count) : Type 0 where
  pub status : Status
  pub code_is : code ≡ code_of status
  pub claim : Claim command logs status old new archive sink
