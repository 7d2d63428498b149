use Rattle.std.proofs.Common.{◌≡◌, ◌++◌}
use Rattle.plain_store.proofs.plain_rows.PlainRows.copy.Given as goal

-- what was copied, and what is left, are the rows
abbrev pub invariant-loop-key : goal.invariant-loop-key
invariant-loop-key l = l.copies ++ l.key-iterator ≡ l.self
