use Rattle.std.proofs.Common.{◌≡◌, length}
use Rattle.redo_vec.specs.Forms.{rises}
use Rattle.redo_lines.proofs.reading_tables.is_rising.Given as goal

-- the columns so far rise
abbrev pub invariant-loop-rest : goal.invariant-loop-rest
invariant-loop-rest l = rises l.from l.rest ≡ rises 0 l.key

abbrev pub decreases-loop-rest : goal.decreases-loop-rest
decreases-loop-rest l = length l.rest
