use Rattle.std.proofs.Common.{subst}
use Rattle.redo_spec.specs.Tables.{Rows}
use Rattle.plain_store.proofs.WriteLaws.{Entering, entering_more}
use Rattle.plain_store.proofs.indexing.index_rows.Goals as goal

pub loop-key-preserved : goal.loop-key-preserved
loop-key-preserved c =
    let t = c.args.table.now in
    let P : Rows → Type 0 = λ rows. Entering t c.args.rows.now rows c.args.index.now c.loop-key.index in
    entering_more t c.args.rows.now c.in-Some.key.now c.in-Some.row.now c.next.new.self c.args.index.now c.loop-key.index
    c.enter.new.self (subst P c.in-Some.ensures.steps c.loop-key.invariant) c.in_ok-enter.ensures.entered
