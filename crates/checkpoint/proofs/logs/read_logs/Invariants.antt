use Rattle.std.proofs.Common.{◌≡◌, ◌≤◌, []}
use Rattle.rl_ports.specs.Faults.{NoneCounted, Told}
use Rattle.standby_spec.specs.Loading.{of_area, log_step}
use Rattle.kept_layout.specs.Pairs.{identity_of}
use Rattle.checkpoint.specs.Areas.{Going}
use Rattle.checkpoint.specs.Read.{AreLogsTo}
use Rattle.checkpoint.proofs.logs.read_logs.Given as goal

-- the logs up to the last key are read
abbrev pub invariant-loop : goal.invariant-loop
invariant-loop g l = record {
  told : Told (g.K.Keeper.holds l.fn.keeper)
      (λ pairs. Going 2 (log_step (identity_of l.identity)) [] l.read.logs l.last (of_area 2 pairs));
  read : AreLogsTo l.identity l.last l.read.count l.read.logs;
  same : g.K.Keeper.holds l.keeper ≡ g.K.Keeper.holds l.fn.keeper;
  none : NoneCounted g.K.Keeper.counts_failures_alone (g.K.Keeper.faults l.fn.keeper) (g.K.Keeper.faults l.keeper);
  later : g.K.Keeper.faults l.fn.keeper ≤ g.K.Keeper.faults l.keeper;
}
