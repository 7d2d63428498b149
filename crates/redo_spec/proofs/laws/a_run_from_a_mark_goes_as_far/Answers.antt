use Rattle.std.proofs.Common.{ap}
use Rattle.redo_spec.specs.Law.{Admitted}
use Rattle.redo_spec.proofs.MarkLaws.{resumed_alike, resumed_standing, resumed_active, resumed_commits, resumed_count}
use Rattle.redo_spec.proofs.laws.a_run_from_a_mark_goes_as_far.Goals as goal

pub returns-clause-fault : goal.returns-clause-fault
returns-clause-fault c first base entries q m n fits = ap (λ (a : Admitted). a.fault)
    (resumed_alike first base entries q m n fits)

pub returns-clause-left : goal.returns-clause-left
returns-clause-left c first base entries q m n fits = ap (λ (a : Admitted). a.left) (resumed_alike first base entries q m n fits)

pub returns-clause-records : goal.returns-clause-records
returns-clause-records c first base entries q m n fits =
    ap (λ (a : Admitted). a.standing.rec) (resumed_alike first base entries q m n fits)

pub returns-clause-standing : goal.returns-clause-standing
returns-clause-standing c = resumed_standing

pub returns-clause-active : goal.returns-clause-active
returns-clause-active c = resumed_active

pub returns-clause-count : goal.returns-clause-count
returns-clause-count c = resumed_count

pub returns-clause-commits : goal.returns-clause-commits
returns-clause-commits c = resumed_commits
