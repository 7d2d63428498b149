use Rattle.std.proofs.Common.{◌++◌, ◌∷◌, [], sym, ap, subst, ◌∙◌, refl}
use Rattle.redo_law.specs.Calls.{open_of}
use Rattle.redo_law.specs.OpenTransactions.{BeganBefore}
use Rattle.redo_law.proofs.LockSteps.{on_ok}
use Rattle.redo_law.proofs.TransactionLaws.{start_list, start_consistent}
use Rattle.redo_law.proofs.open_transactions.OpenTransactions.start.Goals as goal

pub invariant_of-self-else-is_err-2 : goal.invariant_of-self-else-is_err-2
invariant_of-self-else-is_err-2 c =
    start_consistent c.self.inside _ c.args.at (record { xid = c.args.xid; keys = c.new.result }) c.new.ensures c.self.invariant
    (subst (BeganBefore c.args.at) (sym c.self.view_is) c.requires.before)
    (ap (open_of c.args.xid) c.self.view_is ∙ c.requires.fresh)
    (on_ok c.insert-2.result _ c.insert-2.ensures.entries (sym c.is_err-2.ensures.value ∙ c.if-is_err-2.false))
    c.insert-2.ensures.ordered
    (on_ok c.insert.result _ c.insert.ensures.updates (sym c.is_err.ensures.value ∙ c.if-is_err.false)).0
    refl refl

pub returns : goal.returns
returns c =
    start_list c.self.inside _ c.args.at (record { xid = c.args.xid; keys = c.new.result })
    (subst (BeganBefore c.args.at) (sym c.self.view_is) c.requires.before)
    (on_ok c.insert-2.result _ c.insert-2.ensures.entries (sym c.is_err-2.ensures.value ∙ c.if-is_err-2.false))
    ∙ ap (λ ts. ts ++ record { start = c.args.at; xid = c.args.xid; keys = c.new.result } ∷ []) c.self.view_is
    ∙ ap (λ kss. c.args.self.now ++ record { start = c.args.at; xid = c.args.xid; keys = kss } ∷ []) c.new.ensures
