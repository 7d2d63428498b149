use Rattle.std.proofs.Common.{◌≡◌, ℕ, ◌≤◌, ◌<◌, []}
use Rattle.rl_ports.specs.Faults.{NoneCounted, Told}
use Rattle.standby_spec.specs.Loading.{of_area}
use Rattle.checkpoint.proofs.beginning.read_nothing.Given as goal

-- the areas before this one have no pair
abbrev pub invariant-loop-area : goal.invariant-loop-area
invariant-loop-area g l = record {
  told : Told (g.K.Keeper.holds l.fn.keeper)
      (λ pairs. of_area 1 pairs ≡ [] → (i : ℕ) → 1 ≤ i → i < l.area → of_area i pairs ≡ []);
  same : g.K.Keeper.holds l.keeper ≡ g.K.Keeper.holds l.fn.keeper;
  none : NoneCounted g.K.Keeper.counts_failures_alone (g.K.Keeper.faults l.fn.keeper) (g.K.Keeper.faults l.keeper);
  later : g.K.Keeper.faults l.fn.keeper ≤ g.K.Keeper.faults l.keeper;
}
