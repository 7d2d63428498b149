use Rattle.redo_spec.proofs.FoldLaws.{tables_at-next}
use Rattle.redo_spec.proofs.laws.one_commit_more.Goals as goal

pub returns : goal.returns
returns c = record { tables = tables_at-next }
