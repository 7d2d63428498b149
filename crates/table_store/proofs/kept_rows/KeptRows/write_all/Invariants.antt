use Rattle.std.proofs.Common.{length}
use Rattle.row_apply.specs.Overlaid.{rows_after}
use Rattle.table_store.proofs.Writing.{Writing}
use Rattle.table_store.proofs.kept_rows.KeptRows.write_all.Given as goal

-- what is left is to be written, and the indexes lead to all that is not
abbrev pub invariant-loop-rest : goal.invariant-loop-rest
invariant-loop-rest l = Writing l.table (rows_after l.table.id l.writes l.fn.self.rows) l.rest l.kept.rows l.kept.uniques.items
    l.kept.count

abbrev pub decreases-loop-rest : goal.decreases-loop-rest
decreases-loop-rest l = length l.rest
