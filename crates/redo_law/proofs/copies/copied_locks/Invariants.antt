use Rattle.std.proofs.Common.{◌≡◌, ◌++◌}
use Rattle.redo_law.proofs.copies.copied_locks.Given as goal

-- with the entries that are left the copies are all
abbrev pub invariant-loop-key : goal.invariant-loop-key
invariant-loop-key l = l.copies.entries ++ l.key-iterator ≡ l.locks.entries
