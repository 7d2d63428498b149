-- The exit code of each status. This project's own; 1 is left to the shell's own refusals.
use Rattle.std.specs.Prelude.{ℕ}
use Rattle.rl_base.specs.declared.status.Status.{Status}
use Rattle.rl_base.specs.declared.status.Status.TheVariants.{Done, Usage, ArchiveFault, SourceFault, SinkFault, KeeperFault, SpillFault, Gap, Malformed, Mismatch, BadStatement, BadKeeper, NeedsThreads, RowLimit, Memory, BadSpill, NotBuilt}

-- the exit code
abbrev pub code_of : Status → ℕ
code_of Done = 0
code_of Usage = 2
code_of ArchiveFault = 3
code_of SourceFault = 4
code_of SinkFault = 5
code_of KeeperFault = 6
code_of SpillFault = 7
code_of Gap = 8
code_of Malformed = 9
code_of Mismatch = 10
code_of (BadStatement line) = 11
code_of (BadKeeper area key) = 12
code_of (NeedsThreads line) = 13
code_of RowLimit = 14
code_of Memory = 15
code_of (BadSpill id) = 16
code_of NotBuilt = 17
