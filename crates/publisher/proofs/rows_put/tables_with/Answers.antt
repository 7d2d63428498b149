use Rattle.publisher.proofs.RowsReady.{of-tables}
use Rattle.publisher.proofs.rows_put.tables_with.Goals as goal

pub with-requires-clause-of_tables : goal.with-requires-clause-of_tables
with-requires-clause-of_tables c = of-tables c.args.tables.now.tables c.args.writes.now c.requires.can
