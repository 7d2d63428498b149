use Rattle.std.proofs.Common.{◌≡◌, ◌+◌, ◌≤◌, length, true}
use Rattle.redo_spec.specs.Fold.{live_row_limit}
use Rattle.redo_spec.specs.Tables.{row_count}
use Rattle.row_apply.specs.Overlaid.{writes_rise}
use Rattle.row_apply.specs.Soundness.{AreSound}
use Rattle.table_store.specs.Shared.{tables_in, overlaid_in_turn}
use Rattle.table_store.proofs.table_list.count_fits.Given as goal

-- what was counted, and what is left
abbrev pub invariant-loop-rest : goal.invariant-loop-rest
invariant-loop-rest l = record {
  same : l.count + row_count (overlaid_in_turn (tables_in l.rest) l.writes_left) ≡
      row_count (overlaid_in_turn (tables_in l.tables) l.writes);
  small : l.count ≤ live_row_limit;
  sound : AreSound (tables_in l.rest);
  few : row_count (tables_in l.rest) ≤ live_row_limit;
  rise : writes_rise l.writes_left ≡ true;
}

abbrev pub decreases-loop-rest : goal.decreases-loop-rest
decreases-loop-rest l = length l.rest
