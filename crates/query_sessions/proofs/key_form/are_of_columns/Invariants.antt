use Rattle.std.proofs.Common.{◌≡◌, length}
use Rattle.query_sessions.specs.KeyForm.{are_of_columns}
use Rattle.query_sessions.proofs.key_form.are_of_columns.Given as goal

abbrev pub invariant-loop-numbers_left : goal.invariant-loop-numbers_left
invariant-loop-numbers_left l =
    are_of_columns l.columns l.numbers_left l.values_left ≡ are_of_columns l.columns l.numbers l.values

abbrev pub decreases-loop-numbers_left : goal.decreases-loop-numbers_left
decreases-loop-numbers_left l = length l.numbers_left
