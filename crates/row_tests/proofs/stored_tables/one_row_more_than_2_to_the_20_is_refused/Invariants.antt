use Rattle.row_apply.specs.Soundness.{AreSound}
use Rattle.row_tests.proofs.stored_tables.one_row_more_than_2_to_the_20_is_refused.Given as goal

-- the tables stay sound
abbrev pub invariant-loop-batch : goal.invariant-loop-batch
invariant-loop-batch g l = AreSound l.tables.tables
