use Rattle.std.proofs.Common.{◌≡◌, ◌+◌, drop, is_some}
use Rattle.std.specs.List.{enumerate_from}
use Rattle.redo_spec.specs.Effect.{taken_by}
use Rattle.redo_spec.specs.Work.{rows_of}
use Rattle.checkpoint.specs.RowWrites.{is_taken}
use Rattle.checkpoint.proofs.rows.is_taken.Given as goal

-- the unique keys that are left decide
abbrev pub invariant-loop-columns : goal.invariant-loop-columns
invariant-loop-columns l =
    let rows = rows_of l.tables.tables l.table.id in
    record {
      rest : is_taken l.table rows l.row ≡
          is_some (taken_by l.table rows l.row (enumerate_from l.index (drop l.columns-index l.keys)));
      number : l.index ≡ 1 + l.columns-index;
    }
