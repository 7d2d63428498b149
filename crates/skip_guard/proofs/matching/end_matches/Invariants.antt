use Rattle.std.proofs.Common.{◌≡◌, ◌+◌, length}
use Rattle.skip_guard.specs.Comparing.{matches_end}
use Rattle.skip_guard.proofs.matching.end_matches.Given as goal

abbrev pub invariant-loop-pattern_left : goal.invariant-loop-pattern_left
invariant-loop-pattern_left l = matches_end l.pattern_left l.text_left ≡ matches_end l.pattern l.text

abbrev pub decreases-loop-pattern_left : goal.decreases-loop-pattern_left
decreases-loop-pattern_left l = length l.pattern_left + length l.text_left
