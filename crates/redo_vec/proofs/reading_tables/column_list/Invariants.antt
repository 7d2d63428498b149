use Rattle.std.proofs.Common.{◌≡◌, ◌-◌}
use Rattle.redo_vec.specs.Reading.{items_from, with_front, column_at}
use Rattle.redo_vec.proofs.reading_tables.column_list.Given as goal

abbrev pub invariant-loop : goal.invariant-loop
invariant-loop l = with_front l.columns.items (items_from (λ _. column_at l.size) (λ _. 0) (l.count - l.counter) 0 l.rest) ≡
    (items_from (λ _. column_at l.size) (λ _. 0) l.count 0 l.bytes)
