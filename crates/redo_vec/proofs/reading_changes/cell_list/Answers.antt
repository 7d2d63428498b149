use Rattle.std.proofs.lemmas.Result.{err_from_is_err_and}
use Rattle.redo_vec.specs.Reading.{items_from, cell_at, after_cell}
use Rattle.redo_vec.proofs.Loop.{goes_on, ends}
use Rattle.redo_vec.proofs.reading_changes.cell_list.Goals as goal

pub returns-in_err-cell : goal.returns-in_err-cell
returns-in_err-cell c =
    let p = err_from_is_err_and c.from_residual-in_err-cell.result c.from_residual-in_err-cell.ensures.1 in
    rw (p.1, p.2) (ends (cell_at c.args.size) (after_cell) c.in_err-cell.field-0.0 c.loop.cells.items c.args.count c.loop.counter
    c.loop.from c.loop.rest.now (items_from (cell_at c.args.size) (after_cell) c.args.count 0 c.args.bytes.now)
    c.loop-test.true c.in_err-cell.ensures.read c.loop.invariant)

pub loop-preserved : goal.loop-preserved
loop-preserved c =
    rw c.in_ok-push.ensures.items (goes_on (cell_at c.args.size) (after_cell) c.loop.cells.items c.args.count c.loop.counter
    c.loop.from c.loop.rest.now c.in_ok-cell.cell c.in_ok-cell.after.now
    (items_from (cell_at c.args.size) (after_cell) c.args.count 0 c.args.bytes.now) c.loop-test.true c.in_ok-cell.ensures.read
    c.loop.invariant)
