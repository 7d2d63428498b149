use Rattle.std.proofs.Common.{◌≡◌, ◌++◌, take}
use Rattle.std.specs.Prelude.{map}
use Rattle.sql_text.specs.Contents.{change_line}
use Rattle.log_miner.proofs.ended.push_changes.Given as goal

-- the lines so far are there
abbrev pub invariant-loop-stamped : goal.invariant-loop-stamped
invariant-loop-stamped l = l.out ≡ l.fn.out ++ map (λ p. change_line l.dict.tables p.0 p.1) (take l.stamped-index l.changes)
