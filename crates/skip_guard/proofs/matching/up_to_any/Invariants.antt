use Rattle.std.proofs.Common.{◌≡◌, length}
use Rattle.skip_guard.specs.Comparing.{comparison_of}
use Rattle.skip_guard.proofs.matching.up_to_any.Given as goal

abbrev pub invariant-loop-pattern_left : goal.invariant-loop-pattern_left
invariant-loop-pattern_left l = comparison_of l.pattern_left l.text_left ≡ comparison_of l.pattern l.text

abbrev pub decreases-loop-pattern_left : goal.decreases-loop-pattern_left
decreases-loop-pattern_left l = length l.pattern_left
