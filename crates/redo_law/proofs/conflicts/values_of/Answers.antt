use Rattle.std.proofs.Common.{arith}
use Rattle.redo_law.proofs.CellLaws.{columns_some, columns_few}
use Rattle.redo_law.proofs.conflicts.values_of.Goals as goal

pub of-requires : goal.of-requires
of-requires c =
    let some = columns_some c.args.columns.now c.requires in
    let few = columns_few c.args.columns.now c.requires in
    let size = c.loop-rest.invariant.size in
    let ends = c.in_default.len_below in
    record { row = record { some = omega (arith, some, size, ends); most = omega (arith, few, size, ends) } }
