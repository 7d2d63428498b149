use Rattle.std.proofs.Common.{◌≡◌, length}
use Rattle.rl_value.specs.Text.{columns_rise}
use Rattle.redo_lines.proofs.reading_changes.are_rising.Given as goal

-- the columns so far rise
abbrev pub invariant-loop-rest : goal.invariant-loop-rest
invariant-loop-rest l = columns_rise l.from l.rest ≡ columns_rise 0 l.cells

abbrev pub decreases-loop-rest : goal.decreases-loop-rest
decreases-loop-rest l = length l.rest
