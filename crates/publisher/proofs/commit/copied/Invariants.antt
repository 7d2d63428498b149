use Rattle.std.proofs.Common.{◌≡◌, take}
use Rattle.publisher.proofs.commit.copied.Given as goal

-- those so far
abbrev pub invariant-loop-commit : goal.invariant-loop-commit
invariant-loop-commit l = l.copies.items ≡ take l.commit-index l.items.items
