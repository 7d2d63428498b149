use Rattle.std.proofs.Common.{◌≡◌, length, Some}
use Rattle.std.specs.List.{AllByRecursion}
use Rattle.redo_spec.specs.Dictionary.{table_of}
use Rattle.plain_store.specs.Checked.{tables_hold}
use Rattle.plain_store.proofs.checking.tables_hold.Given as goal

-- the tables that are left decide
abbrev pub invariant-loop-rest : goal.invariant-loop-rest
invariant-loop-rest l = record {
  same : tables_hold l.rest l.tables l.index ≡ tables_hold l.dict.tables l.tables l.index;
  there : AllByRecursion (λ t. table_of l.dict.tables t.id ≡ Some t) l.rest;
}

abbrev pub decreases-loop-rest : goal.decreases-loop-rest
decreases-loop-rest l = length l.rest
