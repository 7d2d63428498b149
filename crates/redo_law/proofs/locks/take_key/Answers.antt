use Rattle.std.proofs.Common.{sym, ◌∙◌, ap, cond, Some}
use Rattle.std.specs.BTreeMap as tree
use Rattle.std.specs.Ordering.{is_eq}
use Rattle.rl_value.specs.Order.{key_cmp}
use Rattle.redo_law.proofs.LockSteps.{taken_held, taken_free, on_ok}
use Rattle.redo_law.proofs.locks.take_key.Goals as goal

pub returns-then-contains_key : goal.returns-then-contains_key
returns-then-contains_key c = taken_held (tree.get key_cmp c.args.locks.now) c.args.key.now c.args.hold
    (sym c.contains_key.ensures ∙ c.if-contains_key.true)

pub returns : goal.returns
returns c = λ q.
    let holds = tree.get key_cmp c.args.locks.now in
    (on_ok c.insert.result _ c.insert.ensures.updates (sym c.is_err.ensures.value ∙ c.if-is_err.false)).0 q
    ∙ ap (λ k. cond (is_eq (key_cmp k q)) (Some c.args.hold) (holds q)) c.in_ok-key.ensures.equal
    ∙ taken_free holds c.args.key.now c.args.hold (sym c.contains_key.ensures ∙ c.if-contains_key.false) q
