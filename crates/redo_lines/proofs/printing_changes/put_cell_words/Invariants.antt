use Rattle.std.proofs.Common.{◌≡◌, ◌++◌, take}
use Rattle.redo_lines.specs.Printing.{cell_words}
use Rattle.redo_lines.proofs.printing_changes.put_cell_words.Given as goal

-- as many are there as were passed
abbrev pub invariant-loop-cell : goal.invariant-loop-cell
invariant-loop-cell l = l.words.items ≡ l.initial.words.items ++ cell_words l.columns (take l.cell-index l.cells)
