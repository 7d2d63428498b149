use Rattle.std.specs.Vec.Iter.{into_iter_items}
use Rattle.plain_store.specs.ById.{rows_after_writes}
use Rattle.plain_store.proofs.WriteLaws.{Indexing}
use Rattle.plain_store.proofs.writing.write_all.Given as goal

-- what is left is to be written, and the index leads to all that is not
abbrev pub invariant-loop-write : goal.invariant-loop-write
invariant-loop-write l = Indexing l.dict.tables (rows_after_writes l.initial.tables l.fn.writes) l.tables
    (into_iter_items l.write-iterator) l.index
