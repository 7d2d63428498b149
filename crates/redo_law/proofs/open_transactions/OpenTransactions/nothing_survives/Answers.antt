use Rattle.std.proofs.Common.{◌≡◌, sym, ap, ◌∙◌, ◌&&◌}
use Rattle.std.specs.List.{list_any}
use Rattle.redo_spec.specs.History.{same_xid}
use Rattle.std.specs.Option.{option_copied}
use Rattle.rl_value.specs.Outcome.{is_empty}
use Rattle.redo_law.specs.Consistency.{txns_by_start}
use Rattle.redo_law.proofs.OpenList.{nothing_is, is_bare}
use Rattle.redo_law.proofs.TransactionLaws.{located, absent, some_is, some_none}
use Rattle.redo_law.proofs.open_transactions.OpenTransactions.nothing_survives.Goals as goal

pub returns-in_default : goal.returns-in_default
returns-in_default c =
    sym (nothing_is c.args.xid (txns_by_start c.self.inside) c.self.invariant.apart ∙
    ap is_bare (absent c.self.inside c.args.xid c.self.invariant
    (sym c.get.ensures.value ∙ ap option_copied c.in_default.is)))
    ∙ ap (list_any (λ t. same_xid t.xid c.args.xid && is_empty t.keys)) c.self.view_is

pub returns-in_default-get : goal.returns-in_default-get
returns-in_default-get c =
    let l = located c.self.inside c.args.xid c.in-Some.start.now c.self.invariant
    (sym c.get.ensures.value ∙ ap option_copied c.in-Some.is) in
    some_none l.txn _ l.kept (sym c.get-2.ensures.value ∙ ap option_copied c.in_default-get.is)

pub returns : goal.returns
returns c =
    let l = located c.self.inside c.args.xid c.in-Some.start.now c.self.invariant
    (sym c.get.ensures.value ∙ ap option_copied c.in-Some.is) in
    let same : c.in-Some-get.open.now ≡ l.txn = some_is _ _
    (sym (ap option_copied c.in-Some-get.is) ∙ c.get-2.ensures.value ∙ l.kept) in
    c.has_none.ensures ∙ ap is_empty (c.items.ensures ∙ ap (λ o. o.keys) same)
    ∙ sym (nothing_is c.args.xid (txns_by_start c.self.inside) c.self.invariant.apart ∙ ap is_bare l.found)
    ∙ ap (list_any (λ t. same_xid t.xid c.args.xid && is_empty t.keys)) c.self.view_is
