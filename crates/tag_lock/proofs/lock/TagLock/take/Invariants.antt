use Rattle.std.proofs.Common.{◌≡◌, ◌≤◌, []}
use Rattle.tag_lock.proofs.lock.TagLock.take.Given as goal

-- the seat is idle, and has seen no less than it had
abbrev pub invariant-loop : goal.invariant-loop
invariant-loop g l =
    (goal.iterator-loop g).can_next l.iterator' × (goal.iterator-loop g).is_finite l.iterator'
    × (l.base.table_id ≡ l.initial.base.table_id) × (l.initial.base.me.0.seen ≤ l.base.me.0.seen)
    × (l.base.me ≡ (record l.initial.base.me.0 { seen = l.base.me.0.seen }, []))
