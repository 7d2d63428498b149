use Rattle.std.proofs.Common.{◌≡◌, ◌+◌, ◌-◌}
use Rattle.redo_vec.specs.Reading.{items_from, with_front, rising_at}
use Rattle.redo_vec.proofs.reading_tables.rising_list.Given as goal

abbrev pub invariant-loop : goal.invariant-loop
invariant-loop l = with_front l.columns.items (items_from (rising_at l.size) (λ c. c + 1) (l.count - l.counter) l.from l.rest) ≡
    (items_from (rising_at l.size) (λ c. c + 1) l.count 0 l.bytes)
