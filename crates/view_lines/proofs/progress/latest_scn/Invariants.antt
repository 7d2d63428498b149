use Rattle.std.proofs.Common.{◌≡◌}
use Rattle.std.specs.Prelude.{max}
use Rattle.view_lines.specs.Views.{latest_scn}
use Rattle.view_lines.proofs.progress.latest_scn.Given as goal

-- the greatest of those so far, and of those that are left
abbrev pub invariant-loop-entry : goal.invariant-loop-entry
invariant-loop-entry l = max l.latest (latest_scn l.entry-iterator) ≡ latest_scn l.logs
