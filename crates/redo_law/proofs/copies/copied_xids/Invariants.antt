use Rattle.std.proofs.Common.{◌≡◌, ◌++◌}
use Rattle.redo_law.proofs.copies.copied_xids.Given as goal

-- with the entries that are left the copies are all
abbrev pub invariant-loop-xid : goal.invariant-loop-xid
invariant-loop-xid l = l.copies.entries ++ l.xid-iterator ≡ l.xids.entries
