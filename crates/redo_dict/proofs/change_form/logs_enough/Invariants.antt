use Rattle.std.proofs.Common.{◌≡◌, ◌≤◌, ◌+◌, length, filter}
use Rattle.rl_value.specs.Order.{same_bytes}
use Rattle.redo_spec.specs.Dictionary.{numbers_from, column_numbers}
use Rattle.redo_spec.specs.ChangeForm.{columns_of, is_supplemental}
use Rattle.redo_dict.proofs.change_form.logs_enough.Given as goal

abbrev pub invariant-loop-columns : goal.invariant-loop-columns
invariant-loop-columns l =
    (l.column + length l.columns ≤ 32)
    × (same_bytes (columns_of l.rest) (filter (is_supplemental l.table l.new) (numbers_from l.column l.columns))
    ≡ same_bytes (columns_of l.old) (filter (is_supplemental l.table l.new) (column_numbers l.table)))

abbrev pub decreases-loop-columns : goal.decreases-loop-columns
decreases-loop-columns l = length l.columns
