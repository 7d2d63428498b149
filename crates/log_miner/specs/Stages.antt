-- What a miner holds between two records, as a contract sees it.
use Rattle.std.specs.Prelude.{ℕ, List, [], ◌∷◌, Option, Some, None}
use Rattle.redo_vec.specs.declared.vector.Vector.{Vector}
use Rattle.redo_spec.specs.Standing.{Standing, commit_scn_after}
use Rattle.log_miner.specs.Mining.{Mining, refused_standing}
use Rattle.log_miner.specs.Goes.{Goes}
use Rattle.log_miner.specs.declared.going.Stage.{Stage}
use Rattle.log_miner.specs.declared.going.Stage.TheVariants.{Unbegun, Going, Refused}

abbrev pub standing_in : Stage → Option Standing
standing_in Unbegun = None
standing_in (Going g) = Some g.standing
standing_in (Refused dict commits scn) = Some (refused_standing dict scn)

abbrev pub commits_before : Stage → ℕ
commits_before Unbegun = 0
commits_before (Going g) = g.commits
commits_before (Refused dict commits scn) = commits

-- the SCN of the last commit after these vectors of a record of this SCN
abbrev pub commit_scn_after_all : ℕ → ℕ → List Vector → ℕ
commit_scn_after_all last scn [] = last
commit_scn_after_all last scn (v ∷ vs) = commit_scn_after_all (commit_scn_after last scn v) scn vs

-- a miner that goes on so, with these open transactions
abbrev pub with_going : Goes → Mining → Mining
with_going g m = record m { standing = Some g.standing; commits = g.commits }
