use Rattle.std.proofs.Common.{◌≡◌, ◌+◌, ◌≤◌, length}
use Rattle.log_miner.specs.Mining.{commits_in}
use Rattle.log_miner.proofs.going.count_commits.Given as goal

-- with what is left all are counted
abbrev pub invariant-loop-rest : goal.invariant-loop-rest
invariant-loop-rest l = record {
  few : l.count + length l.rest ≤ 255;
  whole : l.count + commits_in l.rest ≡ commits_in l.vectors;
}

abbrev pub decreases-loop-rest : goal.decreases-loop-rest
decreases-loop-rest l = length l.rest
