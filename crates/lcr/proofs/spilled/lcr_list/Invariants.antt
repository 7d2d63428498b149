use Rattle.std.proofs.Common.{◌≡◌, ◌-◌, map}
use Rattle.redo_vec.specs.Reading.{with_front}
use Rattle.lcr.specs.Chunks.{placed}
use Rattle.lcr.specs.Spilled.{placed_from}
use Rattle.lcr.proofs.spilled.lcr_list.Given as goal

-- what was read, and what is still read
abbrev pub invariant-loop : goal.invariant-loop
invariant-loop l = with_front (map placed l.lcrs.items) (placed_from (l.count - l.counter) l.rest) ≡ placed_from l.count l.bytes
