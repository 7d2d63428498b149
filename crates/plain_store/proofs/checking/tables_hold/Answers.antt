use Rattle.std.proofs.Common.{◌≡◌, List, Some, ap, sym, subst}
use Rattle.std.specs.List.{AllByRecursion}
use Rattle.redo_vec.specs.declared.table.TableRow.{TableRow}
use Rattle.redo_spec.specs.Dictionary.{table_of}
use Rattle.plain_store.specs.Checked.{tables_hold}
use Rattle.plain_store.proofs.CheckLaws.{each_found}
use Rattle.plain_store.proofs.checking.tables_hold.Goals as goal

pub loop-rest-init : goal.loop-rest-init
loop-rest-init c = record {
  same = ap (λ ts. tables_hold ts c.args.tables.now c.args.index.now) c.tables-rest.ensures.same;
  there = subst (λ (ts : List TableRow). AllByRecursion (λ t. table_of c.args.dict.now.tables t.id ≡ Some t) ts)
      (sym c.tables-rest.ensures.same)
      (each_found 0 c.args.dict.now.tables c.tables-rest.ensures.rise);
}
