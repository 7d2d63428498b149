use Rattle.std.proofs.Common.{◌≡◌, [], length}
use Rattle.constraint_check.specs.LookUps.{written_values}
use Rattle.constraint_check.proofs.unique_values.written_values.Given as goal

-- the writes that are left make the whole of it
abbrev pub invariant-loop-rest : goal.invariant-loop-rest
invariant-loop-rest l = written_values l.keys.items l.dict.tables l.rest ≡ written_values [] l.dict.tables l.writes

abbrev pub decreases-loop-rest : goal.decreases-loop-rest
decreases-loop-rest l = length l.rest
