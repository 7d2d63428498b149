use Rattle.std.proofs.Common.{◌≡◌, ◌∙◌, ◌∷◌, List, sym, subst}
use Rattle.std.specs.Vec.Iter.{into_iter_items}
use Rattle.row_apply.specs.declared.writes.Write.{Write}
use Rattle.plain_store.specs.ById.{rows_after_writes}
use Rattle.plain_store.proofs.WriteLaws.{Indexing, indexing_begins, indexing_more}
use Rattle.plain_store.proofs.writing.write_all.Goals as goal

pub loop-write-init : goal.loop-write-init
loop-write-init c =
    let ts = c.args.dict.now.tables in
    let all : into_iter_items c.into_iter-write-iterator.result ≡ c.args.writes =
    c.into_iter-write-iterator.ensures.into_iter_gives.0 ∙ c.into_items-write-items.ensures.same in
    let P : List Write → Type 0 = λ ws. Indexing ts (rows_after_writes c.args.tables.now c.args.writes) c.args.tables.now ws
    c.args.index.now in
    subst P (sym all) (indexing_begins ts c.args.tables.now c.args.writes c.args.index.now c.into_items-write-items.ensures.rising
    c.requires.indexed)

pub loop-write-preserved : goal.loop-write-preserved
loop-write-preserved c =
    let ts = c.args.dict.now.tables in
    let final = rows_after_writes c.args.tables.now c.args.writes in
    let rest = into_iter_items c.next.new.self in
    let next : into_iter_items c.loop-write.write-iterator ≡ c.in-Some.write ∷ rest = c.in-Some.ensures.steps.0 in
    let P : List Write → Type 0 = λ ws. Indexing ts final c.loop-write.tables ws c.loop-write.index in
    indexing_more ts final c.loop-write.tables c.write.new.self c.in-Some.write rest c.loop-write.index c.index_write.new.index
    (subst P next c.loop-write.invariant) c.requires.sound
    c.in_ok-index_write.ensures.indexed c.in_ok-write.ensures.written
