use Rattle.std.proofs.Common.{◌≡◌, ◌++◌}
use Rattle.row_apply.specs.Written.{writes_in}
use Rattle.eager_work.proofs.gathering.moved_writes.Given as goal

-- with those of the rows that are left the writes are all
abbrev pub invariant-loop-key : goal.invariant-loop-key
invariant-loop-key l = l.writes.items ++ writes_in l.key-iterator ≡ writes_in l.fn.rows.entries
