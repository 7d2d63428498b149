use Rattle.std.proofs.Common.{◌+◌}
use Rattle.std.proofs.lemmas.Result.{err_from_is_err_and}
use Rattle.redo_vec.specs.Reading.{items_from, rising_at}
use Rattle.redo_vec.proofs.Loop.{goes_on, ends}
use Rattle.redo_vec.proofs.reading_tables.rising_list.Goals as goal

pub returns-in_err-column : goal.returns-in_err-column
returns-in_err-column c =
    let p = err_from_is_err_and c.from_residual-in_err-column.result c.from_residual-in_err-column.ensures.1 in
    rw (p.1, p.2) (ends (rising_at c.args.size) (λ k. k + 1) c.in_err-column.field-0.0 c.loop.columns.items c.args.count
    c.loop.counter c.loop.from c.loop.rest.now (items_from (rising_at c.args.size) (λ k. k + 1) c.args.count 0
    c.args.bytes.now) c.loop-test.true c.in_err-column.ensures.read c.loop.invariant)

pub loop-preserved : goal.loop-preserved
loop-preserved c =
    rw c.in_ok-push.ensures.items (goes_on (rising_at c.args.size) (λ k. k + 1) c.loop.columns.items c.args.count c.loop.counter
    c.loop.from c.loop.rest.now c.in_ok-column.column c.in_ok-column.after.now
    (items_from (rising_at c.args.size) (λ k. k + 1) c.args.count 0 c.args.bytes.now) c.loop-test.true
    c.in_ok-column.ensures.read c.loop.invariant)
