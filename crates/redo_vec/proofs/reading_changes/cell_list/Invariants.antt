use Rattle.std.proofs.Common.{◌≡◌, ◌-◌}
use Rattle.redo_vec.specs.Reading.{items_from, with_front, cell_at, after_cell}
use Rattle.redo_vec.proofs.reading_changes.cell_list.Given as goal

abbrev pub invariant-loop : goal.invariant-loop
invariant-loop l = with_front l.cells.items (items_from (cell_at l.size) (after_cell) (l.count - l.counter) l.from l.rest) ≡
    (items_from (cell_at l.size) (after_cell) l.count 0 l.bytes)
