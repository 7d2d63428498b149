-- Commits that are published together, by one commit of the store: 1 to 64 that follow one another.
-- They are published all or none. Where more rows than the limit would be live behind one of them, the group is refused, and it
-- is told how many before that one may be published.
use Rattle.std.specs.Prelude.{ℕ, ◌≡◌, ◌+◌, ◌≤◌, ⊤, List, [], ◌∷◌, map, length, Bool, true, ◌&&◌, ◌==◌, Option, Some, None, Result, Ok, Err, IsTrue}
use Rattle.rl_ports.specs.Store.{Store}
use Rattle.row_apply.specs.declared.writes.Write.{Write}
use Rattle.standby_spec.specs.Refusals.{Refusal, front_of}
use Rattle.standby_spec.specs.Refusals as reasons
use Rattle.standby_spec.specs.Publishing.{Publishing, Ending, Done, Failed, Refused, DoesAll, group_limit}
use Rattle.eager_work.specs.declared.commit.Commit.{Commit}
use Rattle.publisher.specs.declared.fault.PubFault.{PubFault}
use Rattle.publisher.specs.declared.fault.PubFault.TheVariants as ones
use Rattle.publisher.specs.declared.fault.GroupFault.{GroupFault}
use Rattle.publisher.specs.declared.fault.GroupFault.TheVariants as faults
use Rattle.publisher.specs.Endings.{OfState}

-- the SCN and the writes of each
abbrev pub parts_of : List Commit → List (ℕ × List Write)
parts_of commits = map (λ c. (c.scn, c.writes)) commits

-- the number of the first
abbrev pub first_number : List Commit → ℕ
first_number [] = 0
first_number (c ∷ cs) = c.number

-- they are numbered from this number on
abbrev pub are_numbered : ℕ → List Commit → Bool
are_numbered number [] = true
are_numbered number (c ∷ cs) = (c.number == number) && are_numbered (number + 1) cs

-- 1 to 64 commits that follow one another
pub record IsGroup (commits : List Commit) : Type 0 where
  pub some : 1 ≤ length commits
  pub few : length commits ≤ group_limit
  pub numbered : IsTrue (are_numbered (first_number commits) commits)

-- ---- the ending

abbrev pub ending_of_group_fault : GroupFault → Ending
ending_of_group_fault faults.KeeperFault = Failed
ending_of_group_fault (faults.NotNext n) = Refused
ending_of_group_fault (faults.RowLimitAfter n) = Refused
ending_of_group_fault faults.Memory = Refused

-- the answer of the store's one commit, as that of a group
abbrev pub grouped_of : {T : Type 0} → Result T PubFault → Result T GroupFault
grouped_of (Ok done) = Ok done
grouped_of (Err ones.KeeperFault) = Err faults.KeeperFault
grouped_of (Err (ones.NotNext n)) = Err faults.Memory
grouped_of (Err (ones.Early n)) = Err faults.Memory
grouped_of (Err ones.RowLimit) = Err faults.Memory
grouped_of (Err ones.Exists) = Err faults.Memory
grouped_of (Err ones.Taken) = Err faults.Memory
grouped_of (Err ones.Twice) = Err faults.Memory
grouped_of (Err ones.Limit) = Err faults.Memory
grouped_of (Err ones.Memory) = Err faults.Memory

abbrev pub group_ending : {T B : Type 0} → Result T (GroupFault × B) → Ending
group_ending (Ok done) = Done
group_ending (Err (fault, back)) = ending_of_group_fault fault

-- ---- the refusal

abbrev pub GroupTells : Option Refusal → GroupFault → Type 0
GroupTells reason faults.KeeperFault = reason ≡ None
GroupTells reason (faults.NotNext n) = reason ≡ Some (reasons.NotNext n)
GroupTells reason (faults.RowLimitAfter n) = reason ≡ Some (reasons.RowLimitAfter n)
GroupTells reason faults.Memory = ⊤

abbrev pub RefusesGroup : {T B : Type 0} → Option Refusal → Result T (GroupFault × B) → Type 0
RefusesGroup reason (Ok done) = reason ≡ None
RefusesGroup reason (Err (fault, back)) = GroupTells reason fault

-- ---- what is left

-- what publishing these commits together leaves
abbrev pub WritesAll : {K : Type 0} → (K → Option Store) → (K → ℕ) → Bool → List Commit → Publishing K → Publishing K →
    Ending → Type 0
WritesAll holds faults alone commits old new ending =
    OfState old.state (λ s. DoesAll holds faults alone (front_of s (parts_of commits)) s old new ending)
