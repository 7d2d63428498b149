use Rattle.std.proofs.Common.{◌≡◌, ◌≤◌}
use Rattle.rl_ports.specs.Faults.{NoneCounted, Told}
use Rattle.redo_spec.specs.Tables.{definitions_of, empty_tables}
use Rattle.standby_spec.specs.Loading.{of_area, row_step}
use Rattle.checkpoint.specs.Areas.{Going}
use Rattle.checkpoint.specs.Read.{AreRowsIn}
use Rattle.checkpoint.proofs.rows.read_rows.Given as goal

-- the rows up to the last key are read
abbrev pub invariant-loop : goal.invariant-loop
invariant-loop g l = record {
  told : Told (g.K.Keeper.holds l.fn.keeper)
      (λ pairs. Going 5 row_step (empty_tables l.fn.dict.tables) l.tables.tables l.last (of_area 5 pairs));
  rows : AreRowsIn l.tables;
  dictionary : l.tables.dictionary ≡ l.fn.dict;
  defined : definitions_of l.tables.tables ≡ l.fn.dict.tables;
  same : g.K.Keeper.holds l.keeper ≡ g.K.Keeper.holds l.fn.keeper;
  none : NoneCounted g.K.Keeper.counts_failures_alone (g.K.Keeper.faults l.fn.keeper) (g.K.Keeper.faults l.keeper);
  later : g.K.Keeper.faults l.fn.keeper ≤ g.K.Keeper.faults l.keeper;
}
