use Rattle.std.proofs.Common.{◌≡◌, ◌+◌, length}
use Rattle.redo_spec.specs.Tables.{assembled, row_count}
use Rattle.plain_store.proofs.writing.count_rows.Given as goal

-- what was counted, and what is left
abbrev pub invariant-loop-rest : goal.invariant-loop-rest
invariant-loop-rest l = l.count + row_count (assembled l.rest l.tables) ≡ row_count (assembled l.dict.tables l.tables)

abbrev pub decreases-loop-rest : goal.decreases-loop-rest
decreases-loop-rest l = length l.rest
