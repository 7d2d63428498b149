use Rattle.std.proofs.Common.{length, ap, ◌∙◌, OnOk, Ok, Err, Result}
use Rattle.std.specs.BTreeMap as tree
use Rattle.rl_value.specs.Order.{key_cmp}
use Rattle.redo_law.specs.Held.{hold_after_take}
use Rattle.redo_law.proofs.open_transactions.take.Goals as goal

on_any : {A E : Type 0} (r : Result A E) (P : Type 0) → P → OnOk r P
on_any (Ok x) P p = p
on_any (Err x) P p = tt

pub returns-clause-locks : goal.returns-clause-locks
returns-clause-locks c = on_any c.push.result _ (λ q.
    c.in_ok-take_keys.ensures q
    ∙ ap (λ ks. hold_after_take (tree.get key_cmp c.args.locks.now) ks
    (record { holder = c.args.txn.now.xid; change = length c.items.result.now }) q) c.as_slice.ensures.value
    ∙ ap (λ n. hold_after_take (tree.get key_cmp c.args.locks.now) c.args.keys.items
    (record { holder = c.args.txn.now.xid; change = n }) q) (ap length c.items.ensures))
