use Rattle.redo_spec.proofs.ReachLaws.{fold_tables, fold_before, fold_there, fold_last}
use Rattle.redo_spec.proofs.laws.a_fold_shows_the_tables_of_its_count.Goals as goal

pub returns-clause-tables : goal.returns-clause-tables
returns-clause-tables c = fold_tables

pub returns-clause-before : goal.returns-clause-before
returns-clause-before c = fold_before

pub returns-clause-there : goal.returns-clause-there
returns-clause-there c = fold_there

pub returns-clause-last : goal.returns-clause-last
returns-clause-last c = fold_last
