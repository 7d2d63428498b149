use Rattle.std.proofs.Common.{◌≡◌, ◌++◌, take, drop}
use Rattle.eager_work.specs.Keeping.{joined}
use Rattle.eager_work.proofs.part.settled.Given as goal

-- those so far, and what is still to come
abbrev pub invariant-loop-part : goal.invariant-loop-part
invariant-loop-part l =
    joined l.settled.items ++ take l.left (joined (drop l.part-index l.parts)) ≡ take l.standing (joined l.parts)
