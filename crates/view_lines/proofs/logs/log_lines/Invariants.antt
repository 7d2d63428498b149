use Rattle.std.proofs.Common.{◌≡◌, ◌++◌}
use Rattle.view_lines.specs.Views.{log_lines_from, log_lines}
use Rattle.view_lines.proofs.logs.log_lines.Given as goal

-- the lines of those so far, and those of the rest
abbrev pub invariant-loop-entry : goal.invariant-loop-entry
invariant-loop-entry l = l.lines ++ log_lines_from l.expected l.entry-iterator ≡ log_lines l.logs
