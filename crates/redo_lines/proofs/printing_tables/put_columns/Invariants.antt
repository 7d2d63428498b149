use Rattle.std.proofs.Common.{◌≡◌, ◌++◌, take}
use Rattle.redo_lines.specs.Printing.{column_lines}
use Rattle.redo_lines.proofs.printing_tables.put_columns.Given as goal

-- as many are there as were passed
abbrev pub invariant-loop-column : goal.invariant-loop-column
invariant-loop-column l = l.words.items ≡ l.initial.words.items ++ column_lines (take l.column-index l.columns)
