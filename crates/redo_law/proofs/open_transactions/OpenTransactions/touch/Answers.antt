use Rattle.std.proofs.Common.{◌≡◌, length, sym, ap, ◌∙◌, refl}
use Rattle.std.specs.BTreeMap as tree
use Rattle.std.specs.BTreeMap.{is_at}
use Rattle.std.specs.Map.{set_value}
use Rattle.rl_value.specs.Order.{key_cmp, pos_cmp}
use Rattle.redo_law.specs.Calls.{open_of}
use Rattle.redo_law.specs.Held.{hold_after_take, contended_keys}
use Rattle.std.specs.Option.{option_copied, option_copied_mut}
use Rattle.redo_spec.specs.Locks.{least}
use Rattle.redo_spec.specs.Standing.{open_txn_after_change, with_open}
use Rattle.redo_law.proofs.LockSteps.{on_ok}
use Rattle.redo_law.proofs.OpenList.{with_open_none}
use Rattle.redo_law.proofs.TransactionLaws.{located, absent, some_is, some_none, more_keys, touch_list, touch_consistent}
use Rattle.redo_law.proofs.open_transactions.OpenTransactions.touch.Goals as goal

pub returns-in_default : goal.returns-in_default
returns-in_default c =
    sym (with_open_none (open_txn_after_change c.args.keys.items) c.args.xid _
    (ap (open_of c.args.xid) (sym c.self.view_is) ∙ absent c.self.inside c.args.xid c.self.invariant
    (sym c.get.ensures.value ∙ ap option_copied c.in_default.is)))

pub invariant_of-self : goal.invariant_of-self
invariant_of-self c =
    let l = located c.self.inside c.args.xid c.in-Some.start.now c.self.invariant
    (sym c.get.ensures.value ∙ ap option_copied c.in-Some.is) in
    some_none l.txn _ l.kept (sym c.get_mut.ensures.value ∙ ap option_copied_mut c.in-None.is)

pub returns-in-None : goal.returns-in-None
returns-in-None c =
    let l = located c.self.inside c.args.xid c.in-Some.start.now c.self.invariant
    (sym c.get.ensures.value ∙ ap option_copied c.in-Some.is) in
    some_none l.txn _ l.kept (sym c.get_mut.ensures.value ∙ ap option_copied_mut c.in-None.is)

pub invariant_of-self-in-Some-get_mut : goal.invariant_of-self-in-Some-get_mut
invariant_of-self-in-Some-get_mut c =
    let l = located c.self.inside c.args.xid c.in-Some.start.now c.self.invariant
    (sym c.get.ensures.value ∙ ap option_copied c.in-Some.is) in
    let same : c.in-Some-get_mut.open.now ≡ l.txn = some_is _ _
    (sym (ap option_copied_mut c.in-Some-get_mut.is) ∙ c.get_mut.ensures.value ∙ l.kept) in
    let through = c.get_mut.follows.holds c.take.new.txn in
    let no_error = sym c.is_err.ensures.value ∙ c.if-is_err.false in
    touch_consistent c.self.inside _ c.args.xid c.args.keys.items c.in-Some.start.now c.self.invariant l
    (ap (λ ts. least (contended_keys c.args.xid c.args.keys.items ts)) c.self.view_is ∙ c.requires.free)
    (through.0 ∙ ap (set_value (is_at (pos_cmp c.in-Some.start.now)) c.self.inside.txns.entries)
    (on_ok c.take.result _ c.take.ensures.keys no_error ∙ ap (more_keys c.args.keys.items) same))
    through.4 refl
    (λ q. on_ok c.take.result _ c.take.ensures.locks no_error q ∙
    ap (λ o. hold_after_take (tree.get key_cmp c.self.inside.locks) c.args.keys.items
    (record { holder = o.xid; change = length o.keys }) q) same)
    refl

pub returns-else-is_err : goal.returns-else-is_err
returns-else-is_err c =
    let l = located c.self.inside c.args.xid c.in-Some.start.now c.self.invariant
    (sym c.get.ensures.value ∙ ap option_copied c.in-Some.is) in
    let same : c.in-Some-get_mut.open.now ≡ l.txn = some_is _ _
    (sym (ap option_copied_mut c.in-Some-get_mut.is) ∙ c.get_mut.ensures.value ∙ l.kept) in
    let no_error = sym c.is_err.ensures.value ∙ c.if-is_err.false in
    touch_list c.self.inside _ c.args.xid c.args.keys.items c.in-Some.start.now c.self.invariant l
    ((c.get_mut.follows.holds c.take.new.txn).0 ∙ ap (set_value (is_at (pos_cmp c.in-Some.start.now)) c.self.inside.txns.entries)
    (on_ok c.take.result _ c.take.ensures.keys no_error ∙ ap (more_keys c.args.keys.items) same))
    ∙ ap (with_open (open_txn_after_change c.args.keys.items) c.args.xid) c.self.view_is
