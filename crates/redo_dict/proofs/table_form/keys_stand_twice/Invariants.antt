use Rattle.std.proofs.Common.{◌≡◌, length}
use Rattle.redo_spec.specs.Dictionary.{stands_twice}
use Rattle.redo_dict.proofs.table_form.keys_stand_twice.Given as goal

abbrev pub invariant-loop-rest : goal.invariant-loop-rest
invariant-loop-rest l = stands_twice l.rest ≡ stands_twice l.keys

abbrev pub decreases-loop-rest : goal.decreases-loop-rest
decreases-loop-rest l = length l.rest
