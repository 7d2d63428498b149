use Rattle.std.proofs.Common.{◌≡◌, length}
use Rattle.constraint_check.specs.LookUps.{all_fit}
use Rattle.constraint_check.proofs.written_rows.all_fit.Given as goal

-- all fit where those that are left do
abbrev pub invariant-loop-rest : goal.invariant-loop-rest
invariant-loop-rest l = all_fit l.dict.tables l.rest ≡ all_fit l.dict.tables l.writes

abbrev pub decreases-loop-rest : goal.decreases-loop-rest
decreases-loop-rest l = length l.rest
