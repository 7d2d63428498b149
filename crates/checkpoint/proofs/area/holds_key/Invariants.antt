use Rattle.std.proofs.Common.{◌≡◌, ◌≤◌}
use Rattle.rl_ports.specs.Faults.{NoneCounted, Told}
use Rattle.standby_spec.specs.Loading.{of_area, has_key}
use Rattle.checkpoint.specs.Areas.{pairs_above}
use Rattle.checkpoint.proofs.area.holds_key.Given as goal

-- the key is not among the pairs up to the last key
abbrev pub invariant-loop : goal.invariant-loop
invariant-loop g l = record {
  told : Told (g.K.Keeper.holds l.fn.keeper) (λ pairs. has_key l.key (of_area l.area pairs) ≡
      has_key l.key (pairs_above l.last (of_area l.area pairs)));
  same : g.K.Keeper.holds l.keeper ≡ g.K.Keeper.holds l.fn.keeper;
  none : NoneCounted g.K.Keeper.counts_failures_alone (g.K.Keeper.faults l.fn.keeper) (g.K.Keeper.faults l.keeper);
  later : g.K.Keeper.faults l.fn.keeper ≤ g.K.Keeper.faults l.keeper;
}
