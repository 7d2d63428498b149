use Rattle.row_apply.specs.Overlaid.{rows_after}
use Rattle.table_store.proofs.Writing.{writing_begins, writing_first, writing_past}
use Rattle.table_store.proofs.kept_rows.KeptRows.write_all.Goals as goal

pub loop-rest-init : goal.loop-rest-init
loop-rest-init c = writing_begins c.args.table.now c.args.writes.now c.args.self.rows c.args.self.uniques.items c.args.self.count
    c.requires.writes_rise c.requires.led c.requires.rising c.requires.counted

pub loop-rest-preserved-in_ok-kept : goal.loop-rest-preserved-in_ok-kept
loop-rest-preserved-in_ok-kept c =
    let t = c.args.table.now in
    writing_first t (rows_after t.id c.args.writes.now c.args.self.rows) c.loop-rest.rest.now c.write-item.result
    c.loop-rest.kept.rows c.in_ok-kept.kept.rows c.loop-rest.kept.uniques.items c.in_ok-kept.kept.uniques.items
    c.loop-rest.kept.count c.in_ok-kept.kept.count c.loop-rest.invariant c.in-len1-up.len_at_least c.write-item.is
    c.if-write-table.true c.requires.sound c.in_ok-kept.ensures.written c.in_ok-kept.ensures.led c.in_ok-kept.ensures.counted

pub loop-rest-preserved : goal.loop-rest-preserved
loop-rest-preserved c =
    let t = c.args.table.now in
    writing_past t (rows_after t.id c.args.writes.now c.args.self.rows) c.loop-rest.rest.now c.write-item.result
    c.loop-rest.kept.rows c.loop-rest.kept.uniques.items c.loop-rest.kept.count c.loop-rest.invariant
    c.in-len1-up.len_at_least c.write-item.is c.if-write-table.false
