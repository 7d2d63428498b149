use Rattle.std.proofs.Common.{◌∙◌, sym, ap}
use Rattle.row_apply.specs.Overlaid.{overlaid}
use Rattle.publisher.proofs.RowsReady.{of-tables, none-writable}
use Rattle.publisher.proofs.group.tables_behind.Goals as goal

pub written-requires-clause-of_tables : goal.written-requires-clause-of_tables
written-requires-clause-of_tables c =
    of-tables c.args.tables.tables c.args.writes.now
    (sym (c.in-Ok-true.ensures.exact c.requires.sound) ∙ c.in-Ok-true.field-0-test)

pub returns-in-Ok-false-clause-written : goal.returns-in-Ok-false-clause-written
returns-in-Ok-false-clause-written c =
    sym (ap (overlaid c.args.tables.tables) (none-writable c.args.tables.tables c.args.writes.now
    (sym (c.in-Ok-false.ensures.exact c.requires.sound) ∙ c.in-Ok-false.field-0-test))
    ∙ c.no_writes_change_nothing.ensures.same c.args.tables.tables)
