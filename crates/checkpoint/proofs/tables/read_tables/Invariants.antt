use Rattle.std.proofs.Common.{◌≡◌, ◌≤◌, []}
use Rattle.rl_ports.specs.Faults.{NoneCounted, Told}
use Rattle.standby_spec.specs.Loading.{of_area, table_step}
use Rattle.checkpoint.specs.Areas.{Going}
use Rattle.checkpoint.specs.Read.{AreTablesTo}
use Rattle.checkpoint.proofs.tables.read_tables.Given as goal

-- the tables up to the last key are read
abbrev pub invariant-loop : goal.invariant-loop
invariant-loop g l = record {
  told : Told (g.K.Keeper.holds l.fn.keeper) (λ pairs. Going 3 table_step [] l.dict.tables l.last (of_area 3 pairs));
  read : AreTablesTo l.last l.dict.tables;
  same : g.K.Keeper.holds l.keeper ≡ g.K.Keeper.holds l.fn.keeper;
  none : NoneCounted g.K.Keeper.counts_failures_alone (g.K.Keeper.faults l.fn.keeper) (g.K.Keeper.faults l.keeper);
  later : g.K.Keeper.faults l.fn.keeper ≤ g.K.Keeper.faults l.keeper;
}
