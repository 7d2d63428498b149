use Rattle.std.proofs.Common.{◌≡◌, ◌+◌, ◌≤◌, ◌++◌, length}
use Rattle.log_miner.specs.Live.{live_after_all}
use Rattle.log_miner.specs.Mining.{given_by}
use Rattle.log_miner.proofs.vectors.take_vectors.Given as goal

-- with what is left the record is whole
abbrev pub invariant-loop-rest : goal.invariant-loop-rest
invariant-loop-rest l = record {
  few : l.before + length l.rest ≤ 255;
  given : l.out ++ given_by l.committed l.dict.tables l.scn l.rec (l.before + 1) l.rest l.lives.items
      ≡ l.fn.out ++ given_by l.committed l.dict.tables l.scn l.rec 1 l.vectors l.fn.lives.items;
  left : live_after_all l.committed l.scn l.rec (l.before + 1) l.rest l.lives.items
      ≡ live_after_all l.committed l.scn l.rec 1 l.vectors l.fn.lives.items;
}

abbrev pub decreases-loop-rest : goal.decreases-loop-rest
decreases-loop-rest l = length l.rest
