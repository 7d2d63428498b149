use Rattle.std.proofs.Common.{◌≡◌, length}
use Rattle.redo_spec.specs.Dictionary.{names_stand_twice}
use Rattle.redo_dict.proofs.table_form.stand_names_twice.Given as goal

abbrev pub invariant-loop-rest : goal.invariant-loop-rest
invariant-loop-rest l = names_stand_twice l.rest ≡ names_stand_twice l.columns

abbrev pub decreases-loop-rest : goal.decreases-loop-rest
decreases-loop-rest l = length l.rest
