use Rattle.redo_lines.proofs.Uniques.{uniques_given}
use Rattle.redo_lines.proofs.reading_tables.uniques_of.Goals as goal

pub returns-in-len1-up : goal.returns-in-len1-up
returns-in-len1-up c =
    uniques_given c.unique_list.result (λ x. x.items) c.args.primary c.args.columns.now c.args.words.now c.in-len1-up.len_at_least
    c.unique_list.ensures
