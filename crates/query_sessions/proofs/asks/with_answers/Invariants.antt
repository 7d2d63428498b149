use Rattle.std.proofs.Common.{◌≡◌, ◌++◌}
use Rattle.std.specs.Vec.Iter.{into_iter_items}
use Rattle.query_sessions.specs.Asks.{with_answers}
use Rattle.query_sessions.proofs.asks.with_answers.Given as goal

-- those that are answered, and what the rest will be
abbrev pub invariant-loop-waiting : goal.invariant-loop-waiting
invariant-loop-waiting l =
    l.done.items ++ with_answers l.view (into_iter_items l.waiting-iterator) ≡ with_answers l.view l.fn.asks.items
