use Rattle.std.proofs.Common.{◌≡◌, length}
use Rattle.row_apply.proofs.index.same_lists.Given as goal

-- where what is left is the same, all is
abbrev pub invariant-loop-lists_left : goal.invariant-loop-lists_left
invariant-loop-lists_left l = l.lists_left ≡ l.others_left → l.lists ≡ l.others

abbrev pub decreases-loop-lists_left : goal.decreases-loop-lists_left
decreases-loop-lists_left l = length l.lists_left
