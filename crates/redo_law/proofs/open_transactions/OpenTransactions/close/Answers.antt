use Rattle.std.proofs.Common.{◌≡◌, ◌+◌, ◌≤◌, [], length, sym, ap, ◌∙◌, arith}
use Rattle.std.specs.BTreeMap as tree
use Rattle.rl_value.specs.Order.{key_cmp}
use Rattle.redo_spec.specs.Standing.{without_open}
use Rattle.redo_law.specs.Consistency.{txns_by_start}
use Rattle.redo_law.proofs.OpenList.{closed_none}
use Rattle.redo_law.proofs.TransactionLaws.{located, absent, some_none, some_is, close_list, close_consistent, count_least}
use Rattle.redo_law.specs.Held.{hold_after_end}
use Rattle.redo_law.proofs.open_transactions.OpenTransactions.close.Goals as goal

pub returns-in_default : goal.returns-in_default
returns-in_default c =
    sym (closed_none c.args.xid (txns_by_start c.self.inside)
    (absent c.self.inside c.args.xid c.self.invariant (sym c.remove.ensures.value ∙ c.in_default.is)))
    ∙ ap (without_open c.args.xid) c.self.view_is

pub invariant_of-self-in_default-remove : goal.invariant_of-self-in_default-remove
invariant_of-self-in_default-remove c =
    let l = located c.self.inside c.args.xid c.in-Some.start c.self.invariant (sym c.remove.ensures.value ∙ c.in-Some.is) in
    some_none l.txn _ l.kept (sym c.remove-2.ensures.value ∙ c.in_default-remove.is)

pub returns-in_default-remove : goal.returns-in_default-remove
returns-in_default-remove c =
    let l = located c.self.inside c.args.xid c.in-Some.start c.self.invariant (sym c.remove.ensures.value ∙ c.in-Some.is) in
    some_none l.txn _ l.kept (sym c.remove-2.ensures.value ∙ c.in_default-remove.is)

pub overflow_sub-self : goal.overflow_sub-self
overflow_sub-self c =
    let l = located c.self.inside c.args.xid c.in-Some.start c.self.invariant (sym c.remove.ensures.value ∙ c.in-Some.is) in
    let same : c.in-Some-remove.open ≡ l.txn = some_is _ _ (sym c.in-Some-remove.is ∙ c.remove-2.ensures.value ∙ l.kept) in
    let size : length c.items-2.result.now ≡ length l.txn.keys = ap length c.items-2.ensures ∙ ap (λ o. length o.keys) same in
    count_least c.self.inside c.args.xid c.in-Some.start (record { xid = c.args.xid; keys = [] }) _ c.self.invariant l
    (let e : 0 + length c.items-2.result.now ≡ length l.txn.keys = omega (arith, size) in e)

pub invariant_of-self-2 : goal.invariant_of-self-2
invariant_of-self-2 c =
    let l = located c.self.inside c.args.xid c.in-Some.start c.self.invariant (sym c.remove.ensures.value ∙ c.in-Some.is) in
    let same : c.in-Some-remove.open ≡ l.txn = some_is _ _ (sym c.in-Some-remove.is ∙ c.remove-2.ensures.value ∙ l.kept) in
    let size : length c.items-2.result.now ≡ length l.txn.keys = ap length c.items-2.ensures ∙ ap (λ o. length o.keys) same in
    let least : length c.items-2.result.now ≤ c.self.inside.survivors =
    count_least c.self.inside c.args.xid c.in-Some.start (record { xid = c.args.xid; keys = [] }) _ c.self.invariant l
    (let e : 0 + length c.items-2.result.now ≡ length l.txn.keys = omega (arith, size) in e) in
    close_consistent c.self.inside _ c.args.xid c.in-Some.start c.self.invariant l c.remove-2.ensures.entries
    c.remove-2.ensures.ordered c.remove.ensures.updates.0
    (λ q. c.free_changes.ensures q ∙ ap (λ kss. hold_after_end (tree.get key_cmp c.self.inside.locks) kss q)
    (c.items.ensures ∙ ap (λ o. o.keys) same))
    (omega (arith, size, least))

pub returns : goal.returns
returns c =
    let l = located c.self.inside c.args.xid c.in-Some.start c.self.invariant (sym c.remove.ensures.value ∙ c.in-Some.is) in
    close_list c.self.inside _ c.args.xid c.in-Some.start c.self.invariant l c.remove-2.ensures.entries ∙
    ap (without_open c.args.xid) c.self.view_is
