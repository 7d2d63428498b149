-- What a keeper in memory is seen as: its pairs; and of one that can fail, its calls too, and whether a commit that fails
-- makes its change.
use Rattle.std.specs.Prelude.{Bool}
use Rattle.rl_ports.specs.Store.{Store}
use Rattle.rl_mem.specs.Calls.{Counted}
use Rattle.rl_mem.specs.declared.keeper.MemKeeper.{MemKeeper}
use Rattle.rl_mem.specs.declared.keeper.SureKeeper.{SureKeeper}

abbrev pub pairs_of : SureKeeper → Store
pairs_of keeper = keeper.rows.items

abbrev pub pairs_in : MemKeeper → Store
pairs_in keeper = pairs_of keeper.keeper

abbrev pub calls_of : MemKeeper → Counted
calls_of keeper = keeper.calls

abbrev pub keeps_of : MemKeeper → Bool
keeps_of keeper = keeper.keeps
