use Rattle.std.proofs.Common.{◌≡◌, ◌++◌}
use Rattle.row_apply.proofs.copies.copied_rows.Given as goal

-- with the rows that are left the copies are all
abbrev pub invariant-loop-key : goal.invariant-loop-key
invariant-loop-key l = l.copies.entries ++ l.key-iterator ≡ l.rows.entries
