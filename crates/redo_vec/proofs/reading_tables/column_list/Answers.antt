use Rattle.std.proofs.lemmas.Result.{err_from_is_err_and}
use Rattle.redo_vec.specs.Reading.{items_from, column_at}
use Rattle.redo_vec.proofs.Loop.{goes_on, ends}
use Rattle.redo_vec.proofs.reading_tables.column_list.Goals as goal

pub returns-in_err-column : goal.returns-in_err-column
returns-in_err-column c =
    let p = err_from_is_err_and c.from_residual-in_err-column.result c.from_residual-in_err-column.ensures.1 in
    rw (p.1, p.2) (ends (λ _. column_at c.args.size) (λ _. 0) c.in_err-column.field-0.0 c.loop.columns.items c.args.count
    c.loop.counter 0 c.loop.rest.now (items_from (λ _. column_at c.args.size) (λ _. 0) c.args.count 0 c.args.bytes.now)
    c.loop-test.true c.in_err-column.ensures c.loop.invariant)

pub loop-preserved : goal.loop-preserved
loop-preserved c =
    rw c.in_ok-push.ensures.items (goes_on (λ _. column_at c.args.size) (λ _. 0) c.loop.columns.items c.args.count c.loop.counter
    0 c.loop.rest.now c.in_ok-column.column c.in_ok-column.after.now
    (items_from (λ _. column_at c.args.size) (λ _. 0) c.args.count 0 c.args.bytes.now) c.loop-test.true c.in_ok-column.ensures
    c.loop.invariant)
