use Rattle.std.proofs.Common.{◌≡◌, length}
use Rattle.redo_spec.specs.ChangeForm.{is_row_of}
use Rattle.redo_dict.proofs.row_form.row_fits.Given as goal

abbrev pub invariant-loop-columns_left : goal.invariant-loop-columns_left
invariant-loop-columns_left l = is_row_of l.columns_left l.values_left ≡ is_row_of l.columns l.values

abbrev pub decreases-loop-columns_left : goal.decreases-loop-columns_left
decreases-loop-columns_left l = length l.columns_left
