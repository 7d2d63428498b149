use Rattle.std.proofs.lemmas.Result.{err_from_is_err_and}
use Rattle.redo_vec.specs.Reading.{items_from, vector_at}
use Rattle.redo_vec.proofs.Loop.{goes_on, ends}
use Rattle.redo_vec.proofs.decoding.vector_list.Goals as goal

pub returns-in_err-vector : goal.returns-in_err-vector
returns-in_err-vector c =
    let p = err_from_is_err_and c.from_residual-in_err-vector.result c.from_residual-in_err-vector.ensures.1 in
    rw (p.1, p.2) (ends (λ _. vector_at c.args.size) (λ _. 0) c.in_err-vector.field-0.0 c.loop.vectors.items c.args.count
    c.loop.counter 0 c.loop.rest.now (items_from (λ _. vector_at c.args.size) (λ _. 0) c.args.count 0 c.args.bytes.now)
    c.loop-test.true c.in_err-vector.ensures.read c.loop.invariant)

pub loop-preserved : goal.loop-preserved
loop-preserved c =
    rw c.in_ok-push.ensures.items (goes_on (λ _. vector_at c.args.size) (λ _. 0) c.loop.vectors.items c.args.count c.loop.counter
    0 c.loop.rest.now c.in_ok-vector.vector c.in_ok-vector.after.now
    (items_from (λ _. vector_at c.args.size) (λ _. 0) c.args.count 0 c.args.bytes.now) c.loop-test.true c.in_ok-vector.ensures.read
    c.loop.invariant)
