use Rattle.std.proofs.Common.{◌≡◌}
use Rattle.std.specs.Bool.{IsTrue}
use Rattle.std.specs.FinMap.Entries.{is_sorted}
use Rattle.std.specs.List.{list_all}
use Rattle.rl_value.specs.Order.{row_cmp}
use Rattle.plain_store.specs.Checked.{row_holds}
use Rattle.plain_store.proofs.checking.rows_hold.Given as goal

-- the rows that are left decide
abbrev pub invariant-loop-key : goal.invariant-loop-key
invariant-loop-key l = record {
  same : list_all (row_holds l.table l.index) l.key-iterator ≡ list_all (row_holds l.table l.index) l.rows;
  rising : IsTrue (is_sorted row_cmp l.rows);
}
