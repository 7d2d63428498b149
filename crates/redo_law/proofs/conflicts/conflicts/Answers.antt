use Rattle.std.proofs.Common.{◌++◌, sym, ap, ◌∙◌, []}
use Rattle.std.proofs.lemmas.List.{append-nil}
use Rattle.std.specs.Option.{option_copied}
use Rattle.redo_spec.specs.ConflictKeys.{cell_of, keys_given, cells_after, conflict_keys_of}
use Rattle.redo_law.proofs.conflicts.conflicts.Goals as goal

pub returns : goal.returns
returns c =
    c.in_ok-add_keys_after.ensures
    ∙ ap (λ ks. ks ++ keys_given c.in-Some.table.now (cell_of (cells_after c.args.change.now))) (
    c.in_ok-add_keys.ensures
    ∙ ap (λ ks. ks ++ keys_given c.in-Some.table.now (cell_of (c.cells.result.now ++ []))) c.new-keys.ensures.items
    ∙ ap (λ cells. keys_given c.in-Some.table.now (cell_of cells)) (append-nil c.cells.result.now ∙ c.cells.ensures.same))
    ∙ ap (λ o. conflict_keys_of o c.args.change.now) (ap option_copied (sym c.in-Some.is) ∙ c.def.ensures.found)
