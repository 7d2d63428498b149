use Rattle.std.proofs.Common.{refl, arith}
use Rattle.std.specs.Fmt.{digits}
use Rattle.redo_spec.proofs.worked.unknown_transactions_are_passed_over.Goals as goal

pub returns-clause-fits : goal.returns-clause-fits
returns-clause-fits c = record {
  order = omega arith;
  there = omega arith;
  well = refl;
  behind = (omega arith, (omega arith, tt));
  above = tt;
}

pub returns-clause-known : goal.returns-clause-known
unfolding digits
returns-clause-known c = refl

pub returns-clause-last : goal.returns-clause-last
unfolding digits
returns-clause-last c = refl

pub returns-clause-unknown : goal.returns-clause-unknown
unfolding digits
returns-clause-unknown c = refl
