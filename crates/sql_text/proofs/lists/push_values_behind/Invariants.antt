use Rattle.std.proofs.Common.{◌≡◌, ◌++◌, take}
use Rattle.std.specs.Prelude.{codes}
use Rattle.sql_text.specs.SqlText.{followed, expression}
use Rattle.sql_text.proofs.lists.push_values_behind.Given as goal

-- the cells so far are there
abbrev pub invariant-loop-cell : goal.invariant-loop-cell
invariant-loop-cell l = l.out.items ≡ l.fn.out.items ++ followed (codes ",") (λ cell. expression cell.1) (take l.cell-index
    l.cells)
