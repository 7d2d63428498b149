use Rattle.std.proofs.Common.{◌≡◌, ◌++◌, map}
use Rattle.view_lines.specs.Views.{event_line, event_lines}
use Rattle.view_lines.proofs.events.event_lines.Given as goal

-- the lines of those so far, and those of the rest
abbrev pub invariant-loop-event : goal.invariant-loop-event
invariant-loop-event l = l.lines ++ map event_line l.event-iterator ≡ event_lines l.events
