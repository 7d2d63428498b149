use Rattle.std.proofs.Common.{◌≡◌, ◌-◌, [], ◌∷◌}
use Rattle.redo_vec.specs.Reading.{items_from, with_front, key_at}
use Rattle.redo_vec.proofs.reading_tables.key_list.Given as goal

abbrev pub invariant-loop : goal.invariant-loop
invariant-loop l = with_front l.keys.items (items_from (λ _. key_at l.size) (λ _. 0) (l.count - l.counter) 0 l.rest) ≡
    with_front (l.fn.primary ∷ []) (items_from (λ _. key_at l.size) (λ _. 0) l.count 0 l.bytes)
