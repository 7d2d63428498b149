use Rattle.std.proofs.Common.{◌≡◌, ◌++◌}
use Rattle.std.specs.List.{flat_map}
use Rattle.redo_spec.specs.Tables.{rows_by}
use Rattle.standby.specs.Printing.{row_line, rows_text}
use Rattle.standby.proofs.printing.push_rows.Given as goal

-- what is put, and what the rows that are left will put
abbrev pub invariant-loop-row : goal.invariant-loop-row
invariant-loop-row l = l.out.items ++ flat_map row_line l.row-iterator ≡ l.fn.out.items ++ rows_text (rows_by l.tables l.table)
