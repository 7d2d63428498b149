use Rattle.std.proofs.Common.{sym, ap, ◌∙◌}
use Rattle.std.specs.Option.{option_copied, option_or}
use Rattle.redo_spec.specs.ConflictKeys.{cell_of}
use Rattle.redo_law.proofs.CellLaws.{cell_behind}
use Rattle.redo_law.proofs.conflicts.value_of.Goals as goal

pub returns-in_default : goal.returns-in_default
returns-in_default c =
    c.value_in-in_default.ensures
    ∙ ap (λ o. option_or o (cell_of c.args.second.now c.args.column))
    (ap option_copied (sym c.in_default.is) ∙ c.value_in.ensures)
    ∙ sym (cell_behind c.args.first.now c.args.second.now c.args.column)

pub returns : goal.returns
returns c =
    ap (λ o. option_or o (cell_of c.args.second.now c.args.column)) (ap option_copied (sym c.in-Some.is) ∙ c.value_in.ensures)
    ∙ sym (cell_behind c.args.first.now c.args.second.now c.args.column)
