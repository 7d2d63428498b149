use Rattle.std.proofs.Common.{sym, ap, ◌∙◌}
use Rattle.std.specs.FinMap.Entries as entries
use Rattle.rl_value.specs.Order.{row_cmp}
use Rattle.table_store.proofs.Finding.{rows_found, rows_none}
use Rattle.table_store.proofs.tables.TablesRows.get.Goals as goal

pub returns-in-None : goal.returns-in-None
returns-in-None c = record {
  row = sym (ap (entries.find row_cmp c.args.key.now.values)
      (rows_none c.args.self.now.tables c.args.key.now.table (sym c.in-None.ensures.found)));
}

pub returns-in-Some : goal.returns-in-Some
returns-in-Some c = record {
  row = c.get.ensures.found ∙ sym (ap (entries.find row_cmp c.args.key.now.values)
      (rows_found c.args.self.now.tables c.args.key.now.table c.in-Some.table.now (sym c.in-Some.ensures.found)));
}
