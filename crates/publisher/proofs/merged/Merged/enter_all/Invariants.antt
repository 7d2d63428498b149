use Rattle.std.proofs.Common.{◌≡◌, length}
use Rattle.publisher.specs.MergedRows.{entered_all}
use Rattle.publisher.proofs.merged.Merged.enter_all.Given as goal

-- the writes that are left make the whole of it
abbrev pub invariant-loop-rest : goal.invariant-loop-rest
invariant-loop-rest l = entered_all l.self.items.entries l.rest ≡ entered_all l.initial.self.items.entries l.writes

abbrev pub decreases-loop-rest : goal.decreases-loop-rest
decreases-loop-rest l = length l.rest
