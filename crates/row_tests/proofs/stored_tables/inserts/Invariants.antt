use Rattle.std.proofs.Common.{◌≡◌, true}
use Rattle.redo_spec.specs.Tables.{definitions_of}
use Rattle.row_apply.specs.Overlaid.{overlaid, are_of}
use Rattle.row_apply.specs.Soundness.{AreSound}
use Rattle.row_tests.proofs.stored_tables.inserts.Given as goal

-- the tables with what was written in place stay sound
abbrev pub invariant-loop-id : goal.invariant-loop-id
invariant-loop-id l = record {
  sound : AreSound (overlaid l.tables.tables l.over);
  of_tables : are_of (definitions_of l.tables.tables) l.over ≡ true;
}
