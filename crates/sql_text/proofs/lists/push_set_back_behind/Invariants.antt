use Rattle.std.proofs.Common.{◌≡◌, ◌++◌, length}
use Rattle.std.specs.Prelude.{codes}
use Rattle.sql_text.specs.SqlText.{followed, assignment, set_back}
use Rattle.sql_text.proofs.lists.push_set_back_behind.Given as goal

-- with what is left the list is whole
abbrev pub invariant-loop-rest : goal.invariant-loop-rest
invariant-loop-rest l =
    l.out.items ++ followed (codes ", ") (assignment l.table) (set_back l.rest l.new)
    ≡ l.fn.out.items ++ followed (codes ", ") (assignment l.table) (set_back l.old l.new)

abbrev pub decreases-loop-rest : goal.decreases-loop-rest
decreases-loop-rest l = length l.rest
