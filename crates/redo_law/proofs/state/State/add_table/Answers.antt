use Rattle.std.proofs.Common.{rules}
use Rattle.redo_law.proofs.Wanting.{wanted, may_want_table}
use Rattle.redo_law.proofs.state.State.add_table.Goals as goal

pub returns : goal.returns
returns c = λ vec. record {
  done = search rules;
  exact = search rules;
  memory = wanted c.match-add.result (may_want_table c.args.self.now.dict.tables c.args.row.now);
  left = search rules;
}
