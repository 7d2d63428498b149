use Rattle.std.proofs.Common.{◌≡◌, ◌+◌, drop}
use Rattle.std.specs.List.{enumerate_from, AllByRecursion}
use Rattle.redo_spec.specs.Dictionary.{uniques_of}
use Rattle.redo_spec.specs.Effect.{taken_by}
use Rattle.row_apply.specs.Adding.{rows_without, values_of, HasIndex, IsFreeAt, IsReady}
use Rattle.row_apply.specs.Kept.{rows_seen}
use Rattle.row_apply.specs.KeptIn.{slots_of}
use Rattle.row_apply.proofs.other_owners.check_uniques.Given as goal

-- the unique keys that are left decide
abbrev pub invariant-loop-columns : goal.invariant-loop-columns
invariant-loop-columns g l =
    let tables = g.R.Rows.tables l.base in
    let rows = rows_without (values_of l.gone) (rows_seen tables (slots_of l.over) l.table) in
    let left = drop l.columns-index l.keys in
    let IsFree = IsFreeAt (slots_of l.over) l.table.id (values_of l.gone) l.row in
    record {
      alone : HasIndex l.over l.table → AllByRecursion IsFree left → AllByRecursion IsFree (uniques_of l.table);
      rest : IsReady tables l.over l.table → taken_by l.table rows l.row (enumerate_from l.index left) ≡
          taken_by l.table rows l.row (enumerate_from 1 (uniques_of l.table));
      number : l.index ≡ 1 + l.columns-index;
    }
