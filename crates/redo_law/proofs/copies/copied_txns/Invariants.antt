use Rattle.std.proofs.Common.{◌≡◌, ◌++◌}
use Rattle.redo_law.proofs.copies.copied_txns.Given as goal

-- with the entries that are left the copies are all
abbrev pub invariant-loop-start : goal.invariant-loop-start
invariant-loop-start l = l.copies.entries ++ l.start-iterator ≡ l.txns.entries
