use Rattle.std.proofs.Common.{refl}
use Rattle.std.specs.Fmt.{digits}
use Rattle.redo_spec.proofs.worked.bad_transactions_are_malformed.Goals as goal

pub returns-clause-open_twice : goal.returns-clause-open_twice
unfolding digits
returns-clause-open_twice c = refl

pub returns-clause-not_open : goal.returns-clause-not_open
unfolding digits
returns-clause-not_open c = refl

pub returns-clause-nothing : goal.returns-clause-nothing
unfolding digits
returns-clause-nothing c = refl

pub returns-clause-alone : goal.returns-clause-alone
unfolding digits
returns-clause-alone c = refl

pub returns-clause-commit_scn : goal.returns-clause-commit_scn
unfolding digits
returns-clause-commit_scn c = refl
