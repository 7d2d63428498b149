use Rattle.std.proofs.Common.{◌≡◌, length}
use Rattle.std.specs.List.{AllByRecursion}
use Rattle.redo_spec.specs.Tables.{definitions_of}
use Rattle.row_apply.specs.Soundness.{AreSound}
use Rattle.constraint_check.specs.LookUps.{IsAskable, owners_gone}
use Rattle.constraint_check.proofs.checking.owners_gone.Given as goal

-- all owners are gone where those of the keys that are left are
abbrev pub invariant-loop-rest : goal.invariant-loop-rest
invariant-loop-rest g l =
    let tables = g.R.Rows.tables l.rows in
    record {
      askable : AllByRecursion (IsAskable (definitions_of tables)) l.rest;
      told : AreSound tables → owners_gone tables l.writes l.rest ≡ owners_gone tables l.writes l.keys;
    }

abbrev pub decreases-loop-rest : goal.decreases-loop-rest
decreases-loop-rest g l = length l.rest
