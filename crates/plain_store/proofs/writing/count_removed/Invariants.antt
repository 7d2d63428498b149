use Rattle.std.proofs.Common.{◌≡◌, ◌+◌, length}
use Rattle.plain_store.specs.ById.{removed_count}
use Rattle.plain_store.proofs.writing.count_removed.Given as goal

-- what was counted, and what is left
abbrev pub invariant-loop-rest : goal.invariant-loop-rest
invariant-loop-rest l = l.fewer + removed_count l.tables l.rest ≡ removed_count l.tables l.writes

abbrev pub decreases-loop-rest : goal.decreases-loop-rest
decreases-loop-rest l = length l.rest
