use Rattle.std.proofs.Common.{◌≡◌, ◌≤◌, []}
use Rattle.std.specs.List.{AllByRecursion}
use Rattle.rl_ports.specs.Faults.{NoneCounted, Told}
use Rattle.standby_spec.specs.HasLayout.{IsSkip}
use Rattle.standby_spec.specs.Loading.{of_area, skip_step}
use Rattle.checkpoint.specs.Areas.{Going}
use Rattle.checkpoint.proofs.rules.read_rules.Given as goal

-- the rules up to the last key are read
abbrev pub invariant-loop : goal.invariant-loop
invariant-loop g l = record {
  told : Told (g.K.Keeper.holds l.fn.keeper) (λ pairs. Going 4 skip_step [] l.skips l.last (of_area 4 pairs));
  read : AllByRecursion IsSkip l.skips;
  same : g.K.Keeper.holds l.keeper ≡ g.K.Keeper.holds l.fn.keeper;
  none : NoneCounted g.K.Keeper.counts_failures_alone (g.K.Keeper.faults l.fn.keeper) (g.K.Keeper.faults l.keeper);
  later : g.K.Keeper.faults l.fn.keeper ≤ g.K.Keeper.faults l.keeper;
}
