use Rattle.std.proofs.Common.{◌≤◌, ◌+◌, length, arith}
use Rattle.redo_vec.proofs.ChangeLaws.{cells_few}
use Rattle.redo_vec.proofs.encoding_changes.put_cells.Goals as goal

pub overflow_cast-items : goal.overflow_cast-items
overflow_cast-items c =
    let few : 0 + length c.args.list.now ≤ 32 = cells_few 0 c.args.list.now (omega arith) c.cells-items.ensures.rising in
    rw c.cells-items.ensures.same (omega arith)
