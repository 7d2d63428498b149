use Rattle.std.proofs.Common.{◌≡◌, ◌++◌, length}
use Rattle.eager_work.specs.Trying.{found_all}
use Rattle.eager_work.proofs.left.left_at.Given as goal

-- with what is left the writes are all
abbrev pub invariant-loop-rest : goal.invariant-loop-rest
invariant-loop-rest l = l.writes.items ++ found_all l.over l.rest ≡ found_all l.over l.keys

abbrev pub decreases-loop-rest : goal.decreases-loop-rest
decreases-loop-rest l = length l.rest
