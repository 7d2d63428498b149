use Rattle.std.proofs.Common.{◌≡◌, ◌-◌}
use Rattle.redo_vec.specs.Reading.{items_from, with_front, vector_at}
use Rattle.redo_vec.proofs.decoding.vector_list.Given as goal

abbrev pub invariant-loop : goal.invariant-loop
invariant-loop l = with_front l.vectors.items (items_from (λ _. vector_at l.size) (λ _. 0) (l.count - l.counter) 0 l.rest) ≡
    (items_from (λ _. vector_at l.size) (λ _. 0) l.count 0 l.bytes)
