use Rattle.plain_store.proofs.WriteLaws.{Entering}
use Rattle.plain_store.proofs.indexing.index_rows.Given as goal

-- the index leads to the rows so far
abbrev pub invariant-loop-key : goal.invariant-loop-key
invariant-loop-key l = Entering l.table l.rows l.key-iterator l.initial.index l.index
