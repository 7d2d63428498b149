use Rattle.std.proofs.Common.{◌≡◌, ◌++◌, take}
use Rattle.std.specs.Prelude.{codes}
use Rattle.sql_text.specs.SqlText.{followed, column_text}
use Rattle.sql_text.proofs.lists.push_columns_behind.Given as goal

-- the cells so far are there
abbrev pub invariant-loop-cell : goal.invariant-loop-cell
invariant-loop-cell l = l.out.items ≡ l.fn.out.items ++ followed (codes ",") (column_text l.table) (take l.cell-index l.cells)
