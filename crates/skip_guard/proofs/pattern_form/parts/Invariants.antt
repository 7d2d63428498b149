use Rattle.std.proofs.Common.{◌≡◌, ◌++◌, take, drop}
use Rattle.redo_spec.specs.Skips.{before_dot, behind_dot}
use Rattle.skip_guard.proofs.pattern_form.parts.Given as goal

-- no dot so far
abbrev pub invariant-loop-at : goal.invariant-loop-at
invariant-loop-at l =
    (before_dot l.bytes ≡ take l.at l.bytes ++ before_dot (drop l.at l.bytes))
    × (behind_dot l.bytes ≡ behind_dot (drop l.at l.bytes))
