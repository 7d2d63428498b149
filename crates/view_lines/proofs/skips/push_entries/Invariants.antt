use Rattle.std.proofs.Common.{◌≡◌, ◌++◌, map, take}
use Rattle.skip_guard.specs.Rules.{skip_of}
use Rattle.view_lines.specs.Views.{skip_lines}
use Rattle.view_lines.proofs.skips.push_entries.Given as goal

-- the lines of those so far
abbrev pub invariant-loop-entry : goal.invariant-loop-entry
invariant-loop-entry l = l.lines ≡ l.fn.lines ++ skip_lines (map skip_of (take l.entry-index l.entries))
