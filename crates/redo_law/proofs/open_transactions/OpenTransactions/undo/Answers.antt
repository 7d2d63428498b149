use Rattle.std.proofs.Common.{◌≡◌, sym, ap, ◌∙◌, refl, subst, arith}
use Rattle.std.specs.BTreeMap as tree
use Rattle.rl_value.specs.Order.{key_cmp}
use Rattle.std.specs.Option.{option_copied, option_copied_mut}
use Rattle.redo_spec.specs.Standing.{open_txn_after_undo, with_open}
use Rattle.redo_law.specs.Calls.{open_of}
use Rattle.redo_law.specs.declared.survivors.Open.{Open}
use Rattle.redo_law.specs.OpenTransactions.{GivesBack}
use Rattle.redo_law.proofs.OpenList.{with_open_none}
use Rattle.redo_law.proofs.TransactionLaws.{located, absent, some_is, some_none, undo_list, undo_consistent, count_least}
use Rattle.redo_law.proofs.open_transactions.OpenTransactions.undo.Goals as goal

pub returns-in_default : goal.returns-in_default
returns-in_default c = sym (with_open_none open_txn_after_undo c.args.xid _
    (ap (open_of c.args.xid) (sym c.self.view_is) ∙ absent c.self.inside c.args.xid c.self.invariant
    (sym c.get.ensures.value ∙ ap option_copied c.in_default.is)))

pub invariant_of-self : goal.invariant_of-self
invariant_of-self c =
    let l = located c.self.inside c.args.xid c.in-Some.start.now c.self.invariant
    (sym c.get.ensures.value ∙ ap option_copied c.in-Some.is) in
    some_none l.txn _ l.kept (sym c.get_mut.ensures.value ∙ ap option_copied_mut c.in_default-get_mut.is)

pub returns-in_default-get_mut : goal.returns-in_default-get_mut
returns-in_default-get_mut c =
    let l = located c.self.inside c.args.xid c.in-Some.start.now c.self.invariant
    (sym c.get.ensures.value ∙ ap option_copied c.in-Some.is) in
    some_none l.txn _ l.kept (sym c.get_mut.ensures.value ∙ ap option_copied_mut c.in_default-get_mut.is)

pub overflow_sub-self : goal.overflow_sub-self
overflow_sub-self c =
    let l = located c.self.inside c.args.xid c.in-Some.start.now c.self.invariant
    (sym c.get.ensures.value ∙ ap option_copied c.in-Some.is) in
    let same : c.in-Some-get_mut.open.now ≡ l.txn = some_is _ _
    (sym (ap option_copied_mut c.in-Some-get_mut.is) ∙ c.get_mut.ensures.value ∙ l.kept) in
    let gives : GivesBack l.txn c.give_back-count.new.txn (tree.get key_cmp c.self.inside.locks)
    (tree.get key_cmp c.give_back-count.new.locks) c.give_back-count.result =
    subst (λ (o : Open). GivesBack o c.give_back-count.new.txn (tree.get key_cmp c.self.inside.locks)
    (tree.get key_cmp c.give_back-count.new.locks) c.give_back-count.result) same c.give_back-count.ensures in
    count_least c.self.inside c.args.xid c.in-Some.start.now c.give_back-count.new.txn c.give_back-count.result c.self.invariant
    l gives.counted

pub invariant_of-self-2 : goal.invariant_of-self-2
invariant_of-self-2 c =
    let l = located c.self.inside c.args.xid c.in-Some.start.now c.self.invariant
    (sym c.get.ensures.value ∙ ap option_copied c.in-Some.is) in
    let same : c.in-Some-get_mut.open.now ≡ l.txn = some_is _ _
    (sym (ap option_copied_mut c.in-Some-get_mut.is) ∙ c.get_mut.ensures.value ∙ l.kept) in
    let gives : GivesBack l.txn c.give_back-count.new.txn (tree.get key_cmp c.self.inside.locks)
    (tree.get key_cmp c.give_back-count.new.locks) c.give_back-count.result =
    subst (λ (o : Open). GivesBack o c.give_back-count.new.txn (tree.get key_cmp c.self.inside.locks)
    (tree.get key_cmp c.give_back-count.new.locks) c.give_back-count.result) same c.give_back-count.ensures in
    let least = count_least c.self.inside c.args.xid c.in-Some.start.now c.give_back-count.new.txn c.give_back-count.result
    c.self.invariant l gives.counted in
    let through = c.get_mut.follows.holds c.give_back-count.new.txn in
    undo_consistent c.self.inside _ c.args.xid c.in-Some.start.now c.give_back-count.new.txn c.give_back-count.result
    c.self.invariant l gives through.0 through.4 refl (omega (arith, least))

pub returns : goal.returns
returns c =
    let l = located c.self.inside c.args.xid c.in-Some.start.now c.self.invariant
    (sym c.get.ensures.value ∙ ap option_copied c.in-Some.is) in
    let same : c.in-Some-get_mut.open.now ≡ l.txn = some_is _ _
    (sym (ap option_copied_mut c.in-Some-get_mut.is) ∙ c.get_mut.ensures.value ∙ l.kept) in
    let gives : GivesBack l.txn c.give_back-count.new.txn (tree.get key_cmp c.self.inside.locks)
    (tree.get key_cmp c.give_back-count.new.locks) c.give_back-count.result =
    subst (λ (o : Open). GivesBack o c.give_back-count.new.txn (tree.get key_cmp c.self.inside.locks)
    (tree.get key_cmp c.give_back-count.new.locks) c.give_back-count.result) same c.give_back-count.ensures in
    undo_list c.self.inside _ c.args.xid c.in-Some.start.now c.give_back-count.new.txn c.self.invariant l gives.xid gives.keys
    (c.get_mut.follows.holds c.give_back-count.new.txn).0
    ∙ ap (with_open open_txn_after_undo c.args.xid) c.self.view_is
