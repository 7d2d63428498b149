use Rattle.std.proofs.Common.{◌≡◌, ◌++◌, true}
use Rattle.std.specs.Vec.Iter.{into_iter_items}
use Rattle.row_apply.specs.Overlaid.{writes_rise}
use Rattle.row_apply.specs.Soundness.{AreSound}
use Rattle.table_store.specs.Shared.{tables_in, overlaid_in_turn}
use Rattle.table_store.proofs.table_list.write_in_turn.Given as goal

-- those that are written so far, and what will be made of the others by the writes that are left
abbrev pub invariant-loop-shared : goal.invariant-loop-shared
invariant-loop-shared l = record {
  same : tables_in l.done.items ++ overlaid_in_turn (tables_in (into_iter_items l.shared-iterator)) l.rest ≡
      overlaid_in_turn (tables_in l.fn.tables.items) l.writes;
  sound : AreSound (tables_in (into_iter_items l.shared-iterator));
  then : AreSound (overlaid_in_turn (tables_in (into_iter_items l.shared-iterator)) l.rest);
  rise : writes_rise l.rest ≡ true;
}
