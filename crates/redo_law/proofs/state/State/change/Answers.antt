use Rattle.std.proofs.Common.{sym, ap, ◌∙◌, rules}
use Rattle.redo_spec.specs.ConflictKeys.{conflict_keys}
use Rattle.redo_spec.specs.Standing.{open_txn_after_change}
use Rattle.redo_law.specs.States.{standing_in, with_active}
use Rattle.redo_law.proofs.OpenList.{with_open_none}
use Rattle.redo_law.proofs.TransactionLaws.{not_there}
use Rattle.redo_law.proofs.state.State.change.Goals as goal

pub returns-then-may_have_begun_before : goal.returns-then-may_have_begun_before
returns-then-may_have_begun_before c = record {
  done = ap (λ ts. with_active ts (standing_in c.args.self.now))
      (sym (with_open_none (open_txn_after_change (conflict_keys c.args.self.now.dict.tables c.args.change.now))
      c.args.change.now.xid c.args.self.now.transactions
      (not_there c.args.change.now.xid c.args.self.now.transactions (sym c.is_open.ensures ∙ c.if-is_open.false))));
  exact = search rules;
  memory = search rules;
  left = search rules;
}

pub returns-then-is_open : goal.returns-then-is_open
returns-then-is_open c =
    let made = c.make_change.ensures c.args.vec in
    record { done = made.done; exact = search rules; memory = search rules; left = made.left }
