use Rattle.std.proofs.Common.{[], ◌∷◌}
use Rattle.std.proofs.lemmas.Result.{err_from_is_err_and}
use Rattle.redo_vec.specs.Reading.{items_from, with_front, key_at}
use Rattle.redo_vec.proofs.Loop.{goes_on, ends}
use Rattle.redo_vec.proofs.reading_tables.key_list.Goals as goal

pub returns-in_err-key : goal.returns-in_err-key
returns-in_err-key c =
    let p = err_from_is_err_and c.from_residual-in_err-key.result c.from_residual-in_err-key.ensures.1 in
    rw (p.1, p.2) (ends (λ _. key_at c.args.size) (λ _. 0) c.in_err-key.field-0.0 c.loop.keys.items c.args.count c.loop.counter 0
    c.loop.rest.now (with_front (c.args.primary ∷ [])
    (items_from (λ _. key_at c.args.size) (λ _. 0) c.args.count 0 c.args.bytes.now)) c.loop-test.true c.in_err-key.ensures
    c.loop.invariant)

pub loop-preserved : goal.loop-preserved
loop-preserved c =
    rw c.in_ok-push-2.ensures.items (goes_on (λ _. key_at c.args.size) (λ _. 0) c.loop.keys.items c.args.count c.loop.counter 0
    c.loop.rest.now c.in_ok-key.key c.in_ok-key.after.now
    (with_front (c.args.primary ∷ []) (items_from (λ _. key_at c.args.size) (λ _. 0) c.args.count 0 c.args.bytes.now))
    c.loop-test.true c.in_ok-key.ensures c.loop.invariant)
