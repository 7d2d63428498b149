use Rattle.std.proofs.Common.{length, sym, ap, ◌∙◌}
use Rattle.redo_spec.specs.Tables.{Rows}
use Rattle.table_store.proofs.Finding.{rows_found, rows_none}
use Rattle.table_store.proofs.tables.Tables.count_of.Goals as goal

pub returns-in-None : goal.returns-in-None
returns-in-None c = record {
  exact = sym (ap (λ (rows : Rows). length rows) (rows_none c.args.self.now.tables c.args.table (sym c.in-None.ensures.found)));
}

pub returns-in-Some : goal.returns-in-Some
returns-in-Some c = record {
  exact = c.count.ensures.exact ∙ sym (ap (λ (rows : Rows). length rows)
      (rows_found c.args.self.now.tables c.args.table c.in-Some.table.now (sym c.in-Some.ensures.found)));
}
