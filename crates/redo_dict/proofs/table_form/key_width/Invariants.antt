use Rattle.std.proofs.Common.{◌≡◌, ◌≤◌, ◌*◌, take, sum_by, slice_get}
use Rattle.redo_spec.specs.Dictionary.{widest_of}
use Rattle.redo_dict.proofs.table_form.key_width.Given as goal

abbrev pub invariant-loop-column : goal.invariant-loop-column
invariant-loop-column l = (l.sum ≡ sum_by (λ c. widest_of (slice_get l.table.columns c)) (take l.column-index l.key)) ×
    (l.sum ≤ 65538 * l.column-index)
