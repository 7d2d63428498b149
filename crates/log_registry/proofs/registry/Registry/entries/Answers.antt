use Rattle.std.proofs.Common.{subst}
use Rattle.log_registry.specs.Registered.{IsRising}
use Rattle.log_registry.proofs.ListLaws.{rises}
use Rattle.log_registry.proofs.registry.Registry.entries.Goals as goal

pub returns-clause-rising : goal.returns-clause-rising
returns-clause-rising c = subst IsRising c.self.view_is (rises c.self.inside.logs.entries c.self.invariant
    c.values.ensures.ordered)
