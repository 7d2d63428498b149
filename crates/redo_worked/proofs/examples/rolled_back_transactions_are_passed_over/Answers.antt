use Rattle.std.proofs.Common.{refl, arith}
use Rattle.std.specs.Fmt.{digits}
use Rattle.redo_worked.proofs.examples.rolled_back_transactions_are_passed_over.Goals as goal

pub returns-clause-fits : goal.returns-clause-fits
returns-clause-fits c = record { order = omega arith; there = omega arith; well = refl; behind = (omega arith, tt); above = tt }

pub returns-clause-known : goal.returns-clause-known
unfolding digits
returns-clause-known c = refl

pub returns-clause-unknown : goal.returns-clause-unknown
unfolding digits
returns-clause-unknown c = refl

pub returns-clause-fits_behind_a_commit : goal.returns-clause-fits_behind_a_commit
returns-clause-fits_behind_a_commit c = record {
  order = omega arith;
  there = omega arith;
  well = refl;
  behind = (omega arith, tt);
  above = tt;
}

pub returns-clause-before : goal.returns-clause-before
unfolding digits
returns-clause-before c = refl

pub returns-clause-count : goal.returns-clause-count
unfolding digits
returns-clause-count c = refl
