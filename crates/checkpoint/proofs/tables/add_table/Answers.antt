use Rattle.redo_spec.specs.Dictionary.{table_fault}
use Rattle.checkpoint.proofs.DictLaws.{table_refused}
use Rattle.checkpoint.proofs.tables.add_table.Goals as goal

pub returns-in-Err-clause-refused : goal.returns-in-Err-clause-refused
returns-in-Err-clause-refused c = λ is.
    table_refused c.in-Err.fault (table_fault c.args.dict.now.tables c.args.table) c.in-Err.ensures.exact.0
    (c.refused.ensures.cause is)
