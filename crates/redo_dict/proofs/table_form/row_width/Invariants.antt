use Rattle.std.proofs.Common.{◌≡◌, ◌≤◌, ◌*◌, take, sum_by}
use Rattle.redo_spec.specs.Dictionary.{widest}
use Rattle.redo_dict.proofs.table_form.row_width.Given as goal

abbrev pub invariant-loop-column : goal.invariant-loop-column
invariant-loop-column l = (l.sum ≡ sum_by (λ c. widest c.kind) (take l.column-index l.columns)) × (l.sum ≤ 65538 * l.column-index)
